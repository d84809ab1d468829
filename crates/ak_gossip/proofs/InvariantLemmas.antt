-- What holds of every gossip holds after each call: of nothing known, of a merge, of an entry more, and of those that
-- have seen it.
use Rattle.std.proofs.Common.{◌≡◌, ◌⊎◌, inl, inr, ℕ, zero, suc, ◌+◌, ◌≤◌, max, Bool, true, false, if◌then◌else◌, cond, IsTrue, List, [], ◌∷◌, Option, Some, None, is_some, refl, sym, ap, ◌∙◌, subst, arith, true≢false}
use Rattle.std.proofs.lemmas.Bool.Decides.{nat_tests}
use Rattle.std.proofs.lemmas.Option.{same_Some}
use Rattle.std.specs.FinMap as map
use Rattle.std.specs.Ordering.{eq_by_cmp}
use Rattle.std.specs.Cmp.{second_so}
use Rattle.ak_address.specs.Unique.{UniqueModel, unique_cmp}
use Rattle.ak_address.specs.Uniques.{UniqueSet, no_one, has, with_one, those, union}
use Rattle.ak_address.specs.Table.{merged_at, value_with}
use Rattle.ak_address.proofs.TableLaws.{same_key, same_or_apart, get-empty, get-insert, get-insert_here, get-insert_elsewhere, get-merged_tables}
use Rattle.ak_address.proofs.UniquesLaws.{has-no_one, has-with_one, has-those, has-union}
use Rattle.ak_address.proofs.BoolLemmas.{none_there, or_either}
use Rattle.ak_clock.specs.declared.version.TheConstants.{BOUND}
use Rattle.ak_clock.specs.Version.{Counts, count, bumped}
use Rattle.ak_clock.proofs.VersionLaws.{count-empty, count-merged, empty_is_version, merged_is_version, bumped_is_version, merged_covers_first, merged_covers_second, bumped_covers, count-bumped_author, count-bumped_others}
use Rattle.ak_member.specs.declared.effect.Effect.{Effect}
use Rattle.ak_member.specs.declared.effect.Effect.TheVariants.{Joined, Rise, Removed, Observed}
use Rattle.ak_member.specs.declared.standing.Standing.{Standing}
use Rattle.ak_member.specs.declared.standing.Standing.TheVariants.{Member, Buried}
use Rattle.ak_member.specs.declared.status.Status.{Status}
use Rattle.ak_member.specs.declared.status.Status.TheVariants.{Joining, WeaklyUp, Up, Leaving, Exiting, Down}
use Rattle.ak_member.specs.Standing.{Standings, rank, greater_status, older_number, merged_standing, merged_standings, known, member_of, is_member}
use Rattle.ak_member.specs.View.{Row, RowTable, later_row, after_effect, after_effects, after_observed, observed}
use Rattle.ak_member.proofs.StandingLaws.{rank-greater_status}
use Rattle.ak_gossip.specs.Gossip.{GossipState, most_uniques, is_known, IsNumber, IsStanding, IsRow, IsGossip, nothing_known, updated, MayUpdate, seen_by, same, both}

-- ---- standings
-- the number of a member by the rank of its status
record IsRanked (r number : ℕ) : Type 0 where
  none : r ≤ 2 → number ≡ 0
  some : 3 ≤ r → r ≤ 5 → 1 ≤ number
  bounded : number ≤ BOUND

ranked : (status : Status) (number : ℕ) → IsNumber status number → IsRanked (rank status) number
ranked Joining number is = record { none = λ _. is; some = λ two _. absurd (omega arith); bounded = omega arith }
ranked WeaklyUp number is = record { none = λ _. is; some = λ two _. absurd (omega arith); bounded = omega arith }
ranked Up number is = record { none = λ one. absurd (omega arith); some = λ _ _. is.0; bounded = is.1 }
ranked Leaving number is = record { none = λ one. absurd (omega arith); some = λ _ _. is.0; bounded = is.1 }
ranked Exiting number is = record { none = λ one. absurd (omega arith); some = λ _ _. is.0; bounded = is.1 }
ranked Down number is = record { none = λ one. absurd (omega arith); some = λ _ four. absurd (omega arith); bounded = is }

from_rank : (status : Status) (number : ℕ) → IsRanked (rank status) number → IsNumber status number
from_rank Joining number r = r.none (omega arith)
from_rank WeaklyUp number r = r.none (omega arith)
from_rank Up number r = (r.some (omega arith) (omega arith), r.bounded)
from_rank Leaving number r = (r.some (omega arith) (omega arith), r.bounded)
from_rank Exiting number r = (r.some (omega arith) (omega arith), r.bounded)
from_rank Down number r = r.bounded

older-most : (n m : ℕ) → older_number n m ≤ max n m
older-most n m = grind (arith, nat_tests)

older-none : (n m : ℕ) → n ≡ 0 → m ≡ 0 → older_number n m ≡ 0
older-none n m p q = grind (arith, nat_tests)

pub older-first : (n m : ℕ) → 1 ≤ n → 1 ≤ older_number n m
older-first n m p = grind (arith, nat_tests)

older-second : (n m : ℕ) → 1 ≤ m → 1 ≤ older_number n m
older-second n m p = grind (arith, nat_tests)

ranked_merged : (r q n m : ℕ) → IsRanked r n → IsRanked q m → IsRanked (max r q) (older_number n m)
ranked_merged r q n m x y = record {
  none = λ one. older-none n m (x.none (omega arith)) (y.none (omega arith));
  some = λ two four. elim (one_is r q two) [
    | inl is ↦ older-first n m (x.some is (omega arith))
    | inr is ↦ older-second n m (y.some is (omega arith))
  ];
  bounded = omega (arith, older-most n m, x.bounded, y.bounded);
}
  where
    one_is : (r q : ℕ) → 3 ≤ max r q → (3 ≤ r) ⊎ (3 ≤ q)
    one_is zero q three = inr (omega arith)
    one_is (suc zero) q three = inr (omega arith)
    one_is (suc (suc zero)) q three = inr (omega arith)
    one_is (suc (suc (suc r))) q three = inl (omega arith)

number_merged : (status other : Status) (n m : ℕ) → IsNumber status n → IsNumber other m → IsNumber (greater_status status other) (older_number n m)
number_merged status other n m p q =
    from_rank (greater_status status other) (older_number n m)
    (subst (λ r. IsRanked r (older_number n m)) (sym (rank-greater_status status other)) (ranked_merged (rank status) (rank other) n m (ranked status n p) (ranked other m q)))

pub standing_merged : (x y : Standing) → IsStanding x → IsStanding y → IsStanding (merged_standing x y)
standing_merged (Member status n) (Member other m) p q = number_merged status other n m p q
standing_merged (Member status n) (Buried confirmed) p q = tt
standing_merged (Buried confirmed) (Member status n) p q = tt
standing_merged (Buried confirmed) (Buried other) p q = tt

pub standing_with : (a : Option Standing) (x : Standing) → ((y : Standing) → a ≡ Some y → IsStanding y) → IsStanding x → IsStanding (value_with merged_standing a x)
standing_with None x p q = q
standing_with (Some y) x p q = standing_merged y x (p y refl) q

standing_at : (a b : Option Standing) (x : Standing) → ((y : Standing) → a ≡ Some y → IsStanding y) → ((y : Standing) → b ≡ Some y → IsStanding y) → merged_at merged_standing a b ≡ Some x → IsStanding x
standing_at None b x p q is = q x is
standing_at (Some y) None x p q is = p x is
standing_at (Some y) (Some z) x p q is = subst IsStanding (same_Some (merged_standing y z) x is) (standing_merged y z (p y refl) (q z refl))

-- ---- who is known
module _ {X : Type 0} (f : X → X → X) where
  some_first : (a b : Option X) → is_some a ≡ true → is_some (merged_at f a b) ≡ true
  some_first None b h = absurd (true≢false (sym h))
  some_first (Some x) None h = refl
  some_first (Some x) (Some y) h = refl

  some_second : (a b : Option X) → is_some b ≡ true → is_some (merged_at f a b) ≡ true
  some_second None b h = h
  some_second (Some x) None h = refl
  some_second (Some x) (Some y) h = refl

pub known_first : (s t : Standings) (who : UniqueModel) → IsTrue (is_known s who) → IsTrue (is_known (merged_standings s t) who)
known_first s t who h = ap is_some (get-merged_tables merged_standing s t who) ∙ some_first merged_standing (map.get s who) (map.get t who) h

pub known_second : (s t : Standings) (who : UniqueModel) → IsTrue (is_known t who) → IsTrue (is_known (merged_standings s t) who)
known_second s t who h = ap is_some (get-merged_tables merged_standing s t who) ∙ some_second merged_standing (map.get s who) (map.get t who) h

put_in : {X : Type 0} (b : Bool) (x : X) (a : Option X) → is_some a ≡ true → is_some (cond b (Some x) a) ≡ true
put_in true x a h = refl
put_in false x a h = h

known_more : (s : Standings) (k who : UniqueModel) (x : Standing) → IsTrue (is_known s who) → IsTrue (is_known (known s k x) who)
known_more s k who x h = ap is_some (get-insert s k (value_with merged_standing (map.get s k) x) who) ∙ put_in (eq_by_cmp unique_cmp who k) _ (map.get s who) h

known_after : (effect : Effect) (s : Standings) (who : UniqueModel) → IsTrue (is_known s who) → IsTrue (is_known (after_effect effect s) who)
known_after (Joined k) s who h = known_more s k who _ h
known_after (Rise k status number) s who h = known_more s k who _ h
known_after (Removed k confirmed) s who h = known_more s k who _ h
known_after (Observed subjects) s who h = h

-- an effect forgets nobody
pub known_after_effects : (effects : List Effect) (s : Standings) (who : UniqueModel) → IsTrue (is_known s who) → IsTrue (is_known (after_effects effects s) who)
known_after_effects [] s who h = h
known_after_effects (effect ∷ effects) s who h = known_after_effects effects (after_effect effect s) who (known_after effect s who h)

-- a member is known
pub member_known : (a : Option Standing) → IsTrue (is_some (member_of a)) → IsTrue (is_some a)
member_known None h = h
member_known (Some x) h = refl

-- ---- rows
-- another gossip knows everybody, and counts no less
record IsGrown (g h : GossipState) : Type 0 where
  known : (who : UniqueModel) → IsTrue (is_known g.view.standings who) → IsTrue (is_known h.view.standings who)
  counts : (who : UniqueModel) → count g.version who ≤ count h.version who

row_grown : (g h : GossipState) (observer : UniqueModel) (row : Row) → IsGrown g h → IsRow g observer row → IsRow h observer row
row_grown g h observer row grown is = record {
  observer_known = grown.known observer is.observer_known;
  numbered = is.numbered;
  counted = omega (arith, is.counted, grown.counts observer);
  subjects_known = λ subject in_row. grown.known subject (is.subjects_known subject in_row);
}

-- the later of two rows is one of them
later_one : (own other row : Row) (b : Bool) → Some (if b then other else own) ≡ Some row → (own ≡ row) ⊎ (other ≡ row)
later_one own other row true is = inr (same_Some other row is)
later_one own other row false is = inl (same_Some own row is)

row_of_either : (a b : Option Row) (row : Row) → merged_at later_row a b ≡ Some row → (a ≡ Some row) ⊎ (b ≡ Some row)
row_of_either None b row is = inr is
row_of_either (Some own) None row is = inl is
row_of_either (Some own) (Some other) row is = elim (later_one own other row _ is) [ inl e ↦ inl (ap Some e) | inr e ↦ inr (ap Some e) ]

-- ---- the parts of a gossip
pub parts_kept : (v w : Counts) (s t : Standings) (r q : RowTable) (seen others : UniqueSet) → v ≡ w → s ≡ t → r ≡ q → seen ≡ others
    → IsGossip (record { version = w; view = record { standings = t; rows = q }; seen = others })
    → IsGossip (record { version = v; view = record { standings = s; rows = r }; seen = seen })
parts_kept v w s t r q seen others a b c d h =
    subst IsGossip (λ i. record { version = sym a i; view = record { standings = sym b i; rows = sym c i }; seen = sym d i }) h

-- ---- nothing known
pub nothing_kept : IsGossip nothing_known
nothing_kept = record {
  version = empty_is_version;
  counted = λ who least. absurd (omega (arith, count-empty who));
  standings = λ who x is. absurd (none_there x (sym (get-empty who) ∙ is));
  rows = λ observer row is. absurd (none_there row (sym (get-empty observer) ∙ is));
  seen = λ who is. absurd (true≢false (sym is ∙ has-no_one who));
  few = omega (arith, map.len-empty unique_cmp Standing);
}

-- ---- those that have seen it
-- other processes, all of them members, have seen it
pub seen_kept : (g : GossipState) (seen : UniqueSet) → IsGossip g → ((who : UniqueModel) → IsTrue (has seen who) → IsTrue (is_member g.view.standings who)) → IsGossip (record g { seen = seen })
seen_kept g seen p members = record {
  version = p.version;
  counted = p.counted;
  standings = p.standings;
  rows = λ observer row is. row_grown g (record g { seen = seen }) observer row (record { known = λ _ h. h; counts = λ who. omega arith }) (p.rows observer row is);
  seen = members;
  few = p.few;
}

with_me : (me : UniqueModel) (g : GossipState) → IsGossip g → is_member g.view.standings me ≡ true → (who : UniqueModel) → IsTrue (has (with_one g.seen me) who) → IsTrue (is_member g.view.standings who)
with_me me g p is who h = elim (or_either (eq_by_cmp unique_cmp who me) (has g.seen who) (sym (has-with_one g.seen me who) ∙ h)) [
  | inl tied ↦ ap (is_member g.view.standings) (same_key who me tied) ∙ is
  | inr there ↦ p.seen who there
]

pub noted_kept : (me : UniqueModel) (g : GossipState) → IsGossip g → IsGossip (record g { seen = if is_member g.view.standings me then with_one g.seen me else g.seen })
noted_kept me g p = by_member (is_member g.view.standings me) refl
  where
    by_member : (b : Bool) → is_member g.view.standings me ≡ b → IsGossip (record g { seen = if b then with_one g.seen me else g.seen })
    by_member true is = seen_kept g (with_one g.seen me) p (with_me me g p is)
    by_member false is = p

pub seen_by_kept : (me : UniqueModel) (g : GossipState) → IsGossip g → IsGossip (seen_by me g)
seen_by_kept me g p = by_member (is_member g.view.standings me) (noted_kept me g p)
  where
    by_member : (b : Bool) → IsGossip (record g { seen = if b then with_one g.seen me else g.seen }) → IsGossip (if b then record g { seen = with_one g.seen me } else g)
    by_member true h = h
    by_member false h = h

pub same_kept : (own incoming : GossipState) → IsGossip own → IsGossip (same own incoming)
same_kept own incoming p = seen_kept own (union own.seen others) p (λ who h. elim (or_either (has own.seen who) (has others who) (sym (has-union own.seen others who) ∙ h)) [
  | inl here ↦ p.seen who here
  | inr there ↦ second_so (has incoming.seen who) (is_member own.view.standings who) (sym (has-those incoming.seen (is_member own.view.standings) who) ∙ there)
])
  where
    others : UniqueSet
    others = those incoming.seen (is_member own.view.standings)

-- ---- the merge
pub both_kept : (own incoming : GossipState) → IsGossip own → IsGossip incoming → map.len (merged_standings own.view.standings incoming.view.standings) ≤ most_uniques → IsGossip (both own incoming)
both_kept own incoming p q few = record {
  version = merged_is_version own.version incoming.version p.version q.version;
  counted = λ who least. elim (one_is (count own.version who) (count incoming.version who) (omega (arith, least, count-merged own.version incoming.version who))) [
    | inl is ↦ known_first own.view.standings incoming.view.standings who (p.counted who is)
    | inr is ↦ known_second own.view.standings incoming.view.standings who (q.counted who is)
  ];
  standings = λ who x is.
      standing_at (map.get own.view.standings who) (map.get incoming.view.standings who) x (p.standings who) (q.standings who)
      (sym (get-merged_tables merged_standing own.view.standings incoming.view.standings who) ∙ is);
  rows = λ observer row is.
      elim (row_of_either (map.get own.view.rows observer) (map.get incoming.view.rows observer) row (sym (get-merged_tables later_row own.view.rows incoming.view.rows observer) ∙ is)) [
        | inl here ↦ row_grown own (both own incoming) observer row grown_first (p.rows observer row here)
        | inr there ↦ row_grown incoming (both own incoming) observer row grown_second (q.rows observer row there)
      ];
  seen = λ who is. absurd (true≢false (sym is ∙ has-no_one who));
  few = few;
}
  where
    one_is : (n m : ℕ) → 1 ≤ max n m → (1 ≤ n) ⊎ (1 ≤ m)
    one_is zero m least = inr (omega arith)
    one_is (suc n) m least = inl (omega arith)

    grown_first : IsGrown own (both own incoming)
    grown_first = record { known = known_first own.view.standings incoming.view.standings; counts = merged_covers_first own.version incoming.version }

    grown_second : IsGrown incoming (both own incoming)
    grown_second = record { known = known_second own.view.standings incoming.view.standings; counts = merged_covers_second own.version incoming.version }

pub few_as : (own one incoming other : GossipState) → own ≡ one → incoming ≡ other → map.len (merged_standings one.view.standings other.view.standings) ≤ most_uniques → map.len (merged_standings own.view.standings incoming.view.standings) ≤ most_uniques
few_as own one incoming other is are few =
    subst (λ (n : ℕ). n ≤ most_uniques) (λ i. map.len (merged_standings (sym is i).view.standings (sym are i).view.standings)) few

-- the parts of what two gossips come to, where a node is among those that have seen it
-- ---- an entry
pub updated_kept : (author : UniqueModel) (effects : List Effect) (g : GossipState) → IsGossip g → MayUpdate author effects g → IsGossip (updated author effects g)
updated_kept author effects g p may = record {
  version = bumped_is_version g.version author p.version may.below_bound;
  counted = λ who least. elim (same_or_apart who author) [
    | inl same ↦ subst (λ k. IsTrue (is_known (after_effects effects g.view.standings) k)) (sym same) author_known
    | inr apart ↦ known_after_effects effects g.view.standings who (p.counted who (omega (arith, least, count-bumped_others g.version author who apart)))
  ];
  standings = may.standings;
  rows = λ observer row is. by_observed (observed effects) refl observer row is;
  seen = λ who h. elim (or_either (eq_by_cmp unique_cmp who author) (has no_one who) (sym (has-with_one no_one author who) ∙ h)) [
    | inl tied ↦ ap (is_member (after_effects effects g.view.standings)) (same_key who author tied) ∙ may.stays
    | inr there ↦ absurd (true≢false (sym there ∙ has-no_one who))
  ];
  few = may.few;
}
  where
    author_known : IsTrue (is_known (after_effects effects g.view.standings) author)
    author_known = member_known (map.get (after_effects effects g.view.standings) author) may.stays

    grown : IsGrown g (updated author effects g)
    grown = record { known = known_after_effects effects g.view.standings; counts = bumped_covers g.version author }

    new_row : (subjects : UniqueSet) → observed effects ≡ Some subjects → IsRow (updated author effects g) author (record { number = count g.version author + 1; subjects = subjects })
    new_row subjects is = record {
      observer_known = author_known;
      numbered = omega arith;
      counted = omega (arith, count-bumped_author g.version author);
      subjects_known = λ subject in_row. may.subjects subjects subject is in_row;
    }

    by_observed : (o : Option UniqueSet) → observed effects ≡ o → (observer : UniqueModel) (row : Row) → map.get (after_observed author (count g.version author + 1) o g.view.rows) observer ≡ Some row → IsRow (updated author effects g) observer row
    by_observed None none observer row is = row_grown g (updated author effects g) observer row grown (p.rows observer row is)
    by_observed (Some subjects) some observer row is = elim (same_or_apart observer author) [
      | inl same ↦
          let here : record { number = count g.version author + 1; subjects = subjects } ≡ row = same_Some _ row (sym (get-insert_here g.view.rows author _) ∙ subst (λ k. map.get (map.insert g.view.rows author (record { number = count g.version author + 1; subjects = subjects })) k ≡ Some row) same is) in
          subst (λ k. IsRow (updated author effects g) k row) (sym same) (subst (IsRow (updated author effects g) author) here (new_row subjects some))
      | inr apart ↦
          row_grown g (updated author effects g) observer row grown
          (p.rows observer row (sym (get-insert_elsewhere g.view.rows author _ observer apart) ∙ is))
    ]

-- the parts of a gossip after an entry
pub updated_parts_kept : (author : UniqueModel) (effects : List Effect) (g : GossipState) → IsGossip g → MayUpdate author effects g
    → (v : Counts) (s : Standings) (r : RowTable) (seen : UniqueSet)
    → v ≡ bumped g.version author → s ≡ after_effects effects g.view.standings → r ≡ after_observed author (count g.version author + 1) (observed effects) g.view.rows → seen ≡ with_one no_one author
    → IsGossip (record { version = v; view = record { standings = s; rows = r }; seen = seen })
updated_parts_kept author effects g p may v s r seen a b c d = parts_kept v _ s _ r _ seen _ a b c d (updated_kept author effects g p may)
