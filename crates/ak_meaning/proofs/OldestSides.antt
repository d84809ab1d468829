-- What a resolver decides by the oldest member that counts.
use Rattle.std.proofs.Common.{◌≡◌, ◌≢◌, ◌↔◌, ◌⊎◌, inl, inr, ℕ, ◌<◌, ◌≤◌, Bool, true, false, not, cond, nat_lt, if◌then◌else◌, List, [], ◌∷◌, map, length, Option, None, Some, Contains, refl, sym, ap, ◌∙◌, subst, arith, true≢false}
use Rattle.std.proofs.lemmas.Bool.{ltb-true, ltb-false}
use Rattle.std.proofs.lemmas.Option.{same_Some, none-some}
use Rattle.std.specs.declared.cmp.Ordering.TheVariants.{Less}
use Rattle.ak_gossip.proofs.PartsPlaces.{not_less_itself}
use Rattle.ak_address.specs.Unique.{AddressModel, UniqueModel, unique_cmp}
use Rattle.ak_address.proofs.DistinctLaws.{AreRising}
use Rattle.ak_address.proofs.Elements.{contains_nothing, first_or_rest, in_filter, filter_in, map_in}
use Rattle.ak_address.proofs.OrderLemmas.{unique_total}
use Rattle.ak_member.specs.Standing.{members_of}
use Rattle.ak_member.specs.Age.{counted_pairs, has_role, older_pair, least_pair}
use Rattle.ak_member.specs.View.{View}
use Rattle.ak_member.proofs.MembersLaws.{members_have, have_members}
use Rattle.ak_reach.specs.Unreachable.{unreachable_members}
use Rattle.ak_address.proofs.AmongLaws.{contains_from, among_means}
use Rattle.ak_settings.specs.declared.settings.Strategy.TheVariants.{KeepOldest}
use Rattle.ak_downing.specs.declared.decision.Decision.{Decision}
use Rattle.ak_downing.specs.declared.decision.Decision.TheVariants as decision
use Rattle.ak_downing.specs.Downing.{is_beside, counted_beside, counted_apart, gives_way, by_side, with_oldest, decide}
use Rattle.ak_downing.proofs.LeastLemmas.{least_there, some_least}
use Rattle.ak_downing.proofs.OldestLaws.{way_means, way_given, side_means}
use Rattle.ak_meaning.specs.Resolver.{DoesCount, IsWith, CountsAs, IsOldest, OldestIsWith, OldestIsApart, MustGiveWay, DecidesByOldest, AreDivided}
use Rattle.ak_meaning.proofs.CountingLemmas.{below_none}
use Rattle.ak_meaning.proofs.ResolverLaws.{pairs_counted, counted_there, counted, does_count, count_in, counted_rising, beside_means, apart_means, beside_many, apart_many, turned, same_counted, beside_there, apart_there}

abbrev Pairs : Type 0
Pairs = List (UniqueModel × ℕ)

-- ---- the least of some pairs in order
abbrev NoYounger : UniqueModel × ℕ → UniqueModel × ℕ → Type 0
NoYounger y x = (y.1 < x.1) ⊎ ((y.1 ≡ x.1) × ((x.0 ≡ y.0) ⊎ (unique_cmp y.0 x.0 ≡ Less)))

least_first : (xs : Pairs) → AreRising (map (λ (pair : UniqueModel × ℕ). pair.0) xs) → (y : UniqueModel × ℕ) → least_pair xs ≡ Some y → (x : UniqueModel × ℕ) → Contains xs x → NoYounger y x
least_first [] rising y is x there = absurd (contains_nothing x there)
least_first (z ∷ xs) rising y is x there = by_rest (least_first xs rising.1) (least_pair xs) refl is
  where
    above : (w : UniqueModel × ℕ) → Contains xs w → unique_cmp z.0 w.0 ≡ Less
    above w among = below_none z.0 (map (λ (pair : UniqueModel × ℕ). pair.0) xs) rising.0 w.0 (map_in (λ (pair : UniqueModel × ℕ). pair.0) xs w among)

    itself : (w : UniqueModel × ℕ) → w ≡ z → NoYounger z w
    itself w same = inr (ap (λ (r : UniqueModel × ℕ). r.1) (sym same), inl (ap (λ (r : UniqueModel × ℕ). r.0) same))

    after_first : (m : UniqueModel × ℕ) → z.1 ≤ m.1 → Contains xs x → NoYounger m x → NoYounger z x
    after_first m le among (inl less) = inl (omega arith)
    after_first m le among (inr same) = by_test (nat_lt z.1 x.1) refl
      where
        by_test : (b : Bool) → nat_lt z.1 x.1 ≡ b → NoYounger z x
        by_test true is = inl (ltb-true z.1 x.1 is)
        by_test false is = let ge = ltb-false z.1 x.1 is in let e = same.0 in inr (omega arith, inr (above x among))

    by_test : ((m : UniqueModel × ℕ) → least_pair xs ≡ Some m → (w : UniqueModel × ℕ) → Contains xs w → NoYounger m w) → (m : UniqueModel × ℕ) (b : Bool) → least_pair xs ≡ Some m → nat_lt m.1 z.1 ≡ b → cond b (Some m) (Some z) ≡ Some y → NoYounger y x
    by_test rest m true least less is = elim (first_or_rest z x xs there) [
      | inl same ↦ subst (λ w. NoYounger w x) (same_Some m y is) (inl (let lt = ltb-true m.1 z.1 less in let n : x.1 ≡ z.1 = ap (λ (r : UniqueModel × ℕ). r.1) same in omega arith))
      | inr later ↦ subst (λ w. NoYounger w x) (same_Some m y is) (rest m least x later)
    ]
    by_test rest m false least more is = elim (first_or_rest z x xs there) [
      | inl same ↦ subst (λ w. NoYounger w x) (same_Some z y is) (itself x same)
      | inr later ↦ subst (λ w. NoYounger w x) (same_Some z y is) (after_first m (ltb-false m.1 z.1 more) later (rest m least x later))
    ]

    by_rest : ((m : UniqueModel × ℕ) → least_pair xs ≡ Some m → (w : UniqueModel × ℕ) → Contains xs w → NoYounger m w) → (o : Option (UniqueModel × ℕ)) → least_pair xs ≡ o → older_pair z o ≡ Some y → NoYounger y x
    by_rest rest None none is = elim (first_or_rest z x xs there) [
      | inl same ↦ subst (λ w. NoYounger w x) (same_Some z y is) (itself x same)
      | inr later ↦ let some = some_least xs x later in absurd (none-some some.0 (sym none ∙ some.1))
    ]
    by_rest rest (Some m) least is = by_test rest m (nat_lt m.1 z.1) least refl is

-- ---- ages
module _ (role : List AddressModel) (v : View) where
  pub has_age : (m : UniqueModel × ℕ) → Contains (counted role v) m → CountsAs role v m.0 m.1
  has_age m there =
      let f = in_filter (has_role role) (counted_pairs (members_of v.standings)) m there in
      let h = pairs_counted (members_of v.standings) m f.0 in
      ((h.0, members_have v.standings (m.0, (h.0, m.1)) h.1, h.2), contains_from role m.0.address f.1)

  pub age_in : (who : UniqueModel) (number : ℕ) → CountsAs role v who number → Contains (counted role v) (who, number)
  age_in who number is =
      filter_in (has_role role) (counted_pairs (members_of v.standings)) (who, number)
      (counted_there (members_of v.standings) who is.0.0 number (have_members v.standings who (is.0.0, number) is.0.1) is.0.2) ((among_means role who.address).1 is.1)

  least_is : (y : UniqueModel × ℕ) → least_pair (counted role v) ≡ Some y → IsOldest role v y.0
  least_is y is = record {
    number = y.1;
    counts = has_age y (least_there (counted role v) y is);
    first = λ other later counts. least_first (counted role v) (counted_rising role v) y is (other, later) (age_in other later counts);
  }

  one_oldest : (who other : UniqueModel) → IsOldest role v who → IsOldest role v other → who ≡ other
  one_oldest who other e f = elim (e.first other f.number f.counts) [
    | inl less ↦ elim (f.first who e.number e.counts) [ inl more ↦ absurd (omega arith) | inr same ↦ let n = same.0 in absurd (omega arith) ]
    | inr same ↦ elim same.1 [
      | inl is ↦ sym is
      | inr below ↦ elim (f.first who e.number e.counts) [
        | inl more ↦ let n = same.0 in absurd (omega arith)
        | inr also ↦ elim also.1 [ inl is ↦ is | inr above ↦ absurd (not_less_itself who (unique_total.trans who other who below above)) ]
      ]
    ]
  ]

-- ---- what is decided
must_means : (asked : Bool) (here there : ℕ) → (gives_way asked here there ≡ true) ↔ MustGiveWay asked here there
must_means asked here there = (way_means asked here there, λ m. way_given asked here there m.0 m.1 m.2)

need_not : (asked : Bool) (here there : ℕ) → (gives_way asked here there ≡ false) ↔ (¬ MustGiveWay asked here there)
need_not asked here there = (λ is must. true≢false (sym ((must_means asked here there).1 must) ∙ is), λ never. by_case (gives_way asked here there) refl never)
  where
    by_case : (b : Bool) → gives_way asked here there ≡ b → (¬ MustGiveWay asked here there) → b ≡ false
    by_case true is never = absurd (never ((must_means asked here there).0 is))
    by_case false is never = refl

side_from : (asked : Bool) (beside others : ℕ) (t : Bool) → ((t ≡ true) × (gives_way asked beside others ≡ false)) ⊎ ((t ≡ false) × (gives_way asked others beside ≡ true)) → by_side asked beside others t ≡ decision.DownUnreachable
side_from asked beside others true (inl h) = ap (λ b. if b then decision.DownReachable else decision.DownUnreachable) h.1
side_from asked beside others true (inr h) = absurd (true≢false h.0)
side_from asked beside others false (inl h) = absurd (true≢false (sym h.0))
side_from asked beside others false (inr h) = ap (λ b. if b then decision.DownUnreachable else decision.DownReachable) h.1

gives_up_means : (asked : Bool) (beside others : ℕ) (t : Bool) → by_side asked beside others t ≡ decision.DownReachable → ((t ≡ true) × (gives_way asked beside others ≡ true)) ⊎ ((t ≡ false) × (gives_way asked others beside ≡ false))
gives_up_means asked beside others true is = inl (refl, gives (gives_way asked beside others) is)
  where
    gives : (b : Bool) → (if b then decision.DownReachable else decision.DownUnreachable) ≡ decision.DownReachable → b ≡ true
    gives true is = refl
    gives false is = absurd cc
gives_up_means asked beside others false is = inr (refl, stays (gives_way asked others beside) is)
  where
    stays : (b : Bool) → (if b then decision.DownUnreachable else decision.DownReachable) ≡ decision.DownReachable → b ≡ false
    stays true is = absurd cc
    stays false is = refl

gives_up_from : (asked : Bool) (beside others : ℕ) (t : Bool) → ((t ≡ true) × (gives_way asked beside others ≡ true)) ⊎ ((t ≡ false) × (gives_way asked others beside ≡ false)) → by_side asked beside others t ≡ decision.DownReachable
gives_up_from asked beside others true (inl h) = ap (λ b. if b then decision.DownReachable else decision.DownUnreachable) h.1
gives_up_from asked beside others true (inr h) = absurd (true≢false h.0)
gives_up_from asked beside others false (inl h) = absurd (true≢false (sym h.0))
gives_up_from asked beside others false (inr h) = ap (λ b. if b then decision.DownUnreachable else decision.DownReachable) h.1

not_all : (asked : Bool) (here there : ℕ) (t : Bool) → by_side asked here there t ≢ decision.DownAll
not_all asked here there true = by_case (gives_way asked here there)
  where
    by_case : (b : Bool) → (if b then decision.DownReachable else decision.DownUnreachable) ≢ decision.DownAll
    by_case true is = absurd cc
    by_case false is = absurd cc
not_all asked here there false = by_case (gives_way asked there here)
  where
    by_case : (b : Bool) → (if b then decision.DownUnreachable else decision.DownReachable) ≢ decision.DownAll
    by_case true is = absurd cc
    by_case false is = absurd cc

module _ (asked : Bool) (role : List AddressModel) (v : View) (me : UniqueModel) where
  abbrev b : ℕ
  b = length (counted_beside role v me)

  abbrev a : ℕ
  a = length (counted_apart role v me)

  abbrev decided : Option (UniqueModel × ℕ) → Decision
  decided o = with_oldest asked b a (unreachable_members v) me o

  abbrev GoesOn : Type 0
  GoesOn = (OldestIsWith role v me × (¬ MustGiveWay asked b a)) ⊎ (OldestIsApart role v me × MustGiveWay asked a b)

  abbrev GivesUp : Type 0
  GivesUp = ((who : UniqueModel) → ¬ DoesCount role v who) ⊎ ((OldestIsWith role v me × MustGiveWay asked b a) ⊎ (OldestIsApart role v me × (¬ MustGiveWay asked a b)))

  -- where nobody counts there is no oldest
  nobody : least_pair (counted role v) ≡ None → (who : UniqueModel) → ¬ DoesCount role v who
  nobody none who counts = let n = count_in role v who counts in let some = some_least (counted role v) (who, n.0) n.1 in none-some some.0 (sym none ∙ some.1)

  oldest_counts : (who : UniqueModel) → IsOldest role v who → DoesCount role v who
  oldest_counts who is = does_count role v (who, is.number) (age_in role v who is.number is.counts)

  module _ (y : UniqueModel × ℕ) (least : least_pair (counted role v) ≡ Some y) where
    abbrev t : Bool
    t = is_beside (unreachable_members v) me y.0

    is_with : (t ≡ true) ↔ OldestIsWith role v me
    is_with = (
      λ is. (y.0, least_is role v y least, (beside_means role v me y.0).0 is),
      λ w. (beside_means role v me y.0).1 (subst (IsWith v me) (one_oldest role v w.0 y.0 w.1 (least_is role v y least)) w.2),
    )

    is_apart : (t ≡ false) ↔ OldestIsApart role v me
    is_apart = (
      λ is. (y.0, least_is role v y least, (apart_means role v me y.0).0 is),
      λ w. (apart_means role v me y.0).1 (subst (λ z. ¬ IsWith v me z) (one_oldest role v w.0 y.0 w.1 (least_is role v y least)) w.2),
    )

    some_go_on : (by_side asked b a t ≡ decision.DownUnreachable) ↔ GoesOn
    some_go_on = (
      λ is. elim (side_means asked b a t is) [
        | inl h ↦ inl (is_with.0 h.0, (need_not asked b a).0 h.1)
        | inr h ↦ inr (is_apart.0 h.0, (must_means asked a b).0 h.1)
      ],
      λ g. side_from asked b a t (elim g [
        | inl h ↦ inl (is_with.1 h.0, (need_not asked b a).1 h.1)
        | inr h ↦ inr (is_apart.1 h.0, (must_means asked a b).1 h.1)
      ]),
    )

    some_give_up : (by_side asked b a t ≡ decision.DownReachable) ↔ GivesUp
    some_give_up = (
      λ is. elim (gives_up_means asked b a t is) [
        | inl h ↦ inr (inl (is_with.0 h.0, (must_means asked b a).0 h.1))
        | inr h ↦ inr (inr (is_apart.0 h.0, (need_not asked a b).0 h.1))
      ],
      λ g. elim g [
        | inl none ↦ absurd (none y.0 (oldest_counts y.0 (least_is role v y least)))
        | inr some ↦ gives_up_from asked b a t (elim some [
          | inl h ↦ inl (is_with.1 h.0, (must_means asked b a).1 h.1)
          | inr h ↦ inr (is_apart.1 h.0, (need_not asked a b).1 h.1)
        ])
      ],
    )

  goes_on : (o : Option (UniqueModel × ℕ)) → least_pair (counted role v) ≡ o → (decided o ≡ decision.DownUnreachable) ↔ GoesOn
  goes_on None none = (
    λ is. absurd cc,
    λ g. elim g [
      | inl h ↦ absurd (nobody none h.0.0 (oldest_counts h.0.0 h.0.1))
      | inr h ↦ absurd (nobody none h.0.0 (oldest_counts h.0.0 h.0.1))
    ],
  )
  goes_on (Some y) least = some_go_on y least

  gives_up : (o : Option (UniqueModel × ℕ)) → least_pair (counted role v) ≡ o → (decided o ≡ decision.DownReachable) ↔ GivesUp
  gives_up None none = (λ is. inl (nobody none), λ g. refl)
  gives_up (Some y) least = some_give_up y least

  downs_some : (o : Option (UniqueModel × ℕ)) → decided o ≢ decision.DownAll
  downs_some None is = absurd cc
  downs_some (Some y) is = not_all asked b a (is_beside (unreachable_members v) me y.0) is

  pub decides_by_oldest : DecidesByOldest asked role v me
  decides_by_oldest = record {
    beside = b;
    apart = a;
    beside_are = beside_many role v me;
    apart_are = apart_many role v me;
    others = goes_on (least_pair (counted role v)) refl;
    own = gives_up (least_pair (counted role v)) refl;
    never_all = downs_some (least_pair (counted role v));
  }

pub oldest_kept : (role : List AddressModel) (v : View) (me who : UniqueModel) → IsOldest role v who → IsWith v me who → decide (KeepOldest false) role v me ≡ decision.DownUnreachable
oldest_kept role v me who is with = (decides_by_oldest false role v me).others.1 (inl ((who, is, with), λ must. true≢false (sym must.0)))

-- ---- two sides
one_of_two : (asked : Bool) (b a : ℕ) (t : Bool) → (by_side asked b a t ≡ decision.DownUnreachable) ↔ (¬ (by_side asked a b (not t) ≡ decision.DownUnreachable))
one_of_two asked b a true = by_case (gives_way asked b a)
  where
    by_case : (g : Bool) → ((if g then decision.DownReachable else decision.DownUnreachable) ≡ decision.DownUnreachable) ↔ (¬ ((if g then decision.DownUnreachable else decision.DownReachable) ≡ decision.DownUnreachable))
    by_case true = (λ is. absurd cc, λ is. absurd (is refl))
    by_case false = (λ is not_so. absurd cc, λ is. refl)
one_of_two asked b a false = by_case (gives_way asked a b)
  where
    by_case : (g : Bool) → ((if g then decision.DownUnreachable else decision.DownReachable) ≡ decision.DownUnreachable) ↔ (¬ ((if g then decision.DownReachable else decision.DownUnreachable) ≡ decision.DownUnreachable))
    by_case true = (λ is not_so. absurd cc, λ is. refl)
    by_case false = (λ is. absurd cc, λ is. absurd (is refl))

module _ (asked : Bool) (role : List AddressModel) (v w : View) (me you : UniqueModel) (d : AreDivided role v w me you) where
  pub one_oldest_side : (who : UniqueModel) → DoesCount role v who → (decide (KeepOldest asked) role v me ≡ decision.DownUnreachable) ↔ (¬ (decide (KeepOldest asked) role w you ≡ decision.DownUnreachable))
  one_oldest_side who counts =
      let n = count_in role v who counts in
      let some = some_least (counted role v) (who, n.0) n.1 in
      let y = some.0 in
      let here = length (counted_beside role v me) in
      let there = length (counted_apart role v me) in
      let t = is_beside (unreachable_members v) me y.0 in
      let mine : decide (KeepOldest asked) role v me ≡ by_side asked here there t = ap (with_oldest asked here there (unreachable_members v) me) some.1 in
      let yours : decide (KeepOldest asked) role w you ≡ by_side asked there here (not t) =
      (λ i. with_oldest asked (beside_there role v w me you d i) (apart_there role v w me you d i) (unreachable_members w) you (least_pair (same_counted role v w me you d i)))
      ∙ ap (with_oldest asked there here (unreachable_members w) you) some.1
      ∙ ap (by_side asked there here) (turned role v w me you d y.0 (does_count role v y (least_there (counted role v) y some.1))) in
      let one = one_of_two asked here there t in
      (λ is. subst (λ d. ¬ (d ≡ decision.DownUnreachable)) (sym yours) (one.0 (sym mine ∙ is)), λ is. mine ∙ one.1 (subst (λ d. ¬ (d ≡ decision.DownUnreachable)) yours is))
