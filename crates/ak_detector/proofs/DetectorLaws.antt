-- Who is on the ring, who is watched, and who is silent.
use Rattle.std.proofs.Common.{◌≡◌, ◌≢◌, ℕ, ◌+◌, ◌≤◌, Bool, true, false, cond, ◌&&◌, ◌||◌, inl, inr, IsTrue, List, [], ◌∷◌, map, length, take, nat_lt, Option, Some, None, is_some, unwrap_or, if◌then◌else◌, refl, sym, ap, ◌∙◌, arith, true≢false}
use Rattle.std.proofs.lemmas.Bool.{le-ltb}
use Rattle.std.proofs.lemmas.List.{take_all, length-take}
use Rattle.std.proofs.lemmas.List.Folds.{list_any-append}
use Rattle.std.specs.List.{filter}
use Rattle.std.specs.declared.cmp.Ordering.{Ordering}
use Rattle.std.specs.declared.cmp.Ordering.TheVariants.{Less, Equal, Greater}
use Rattle.std.specs.Ordering.{is_eq, is_lt, eq_by_cmp, ordering_reverse}
use Rattle.std.specs.Cmp.{tied_itself, first_so, second_so}
use Rattle.std.specs.FinMap as finmap
use Rattle.ak_address.specs.Unique.{UniqueModel, unique_cmp}
use Rattle.ak_address.specs.Uniques.{has, how_many, in_order, set_of}
use Rattle.ak_address.specs.Counters.{Counters, counter}
use Rattle.ak_address.proofs.OrderLemmas.{unique_total, unique_exact}
use Rattle.ak_address.proofs.TableLaws.{same_key, same_table, get-insert_here}
use Rattle.ak_address.proofs.CountersLaws.{among, among-filter, among-take, has-set_of, how_many-set_of, raised_same, get-with_each, passes, among_passing}
use Rattle.ak_address.proofs.BoolLemmas.{or_either}
use Rattle.ak_member.specs.declared.status.Status.{Status}
use Rattle.ak_member.specs.declared.standing.Standing.{Standing}
use Rattle.ak_member.specs.declared.standing.Standing.TheVariants.{Member, Buried}
use Rattle.ak_member.specs.Standing.{Standings, is_member, member_of, as_member, member_pairs, members_of}
use Rattle.ak_detector.specs.Detector.{most_watched, others_around, watch_ring, is_silent, silent, watching, heard, ticked}
use Rattle.ak_detector.proofs.DetectorLemmas.{is_silent_by, has-silent}

-- ---- the other members
members_by_pair : (pairs : List (UniqueModel × Standing)) → map (λ (pair : UniqueModel × (Status × ℕ)). pair.0) (member_pairs pairs) ≡ map (λ (e : UniqueModel × Standing). e.0) (filter (λ (e : UniqueModel × Standing). is_some (as_member e.1)) pairs)
members_by_pair [] = refl
members_by_pair ((who, Member status number) ∷ pairs) = ap (λ l. who ∷ l) (members_by_pair pairs)
members_by_pair ((who, Buried confirmed) ∷ pairs) = members_by_pair pairs

member_one : (who : UniqueModel) (o : Option Standing) → passes (λ (e : UniqueModel × Standing). is_some (as_member e.1)) who o ≡ is_some (member_of o)
member_one who None = refl
member_one who (Some x) = refl

abbrev names : Standings → List UniqueModel
names s = map (λ (pair : UniqueModel × (Status × ℕ)). pair.0) (members_of s)

among_members : (s : Standings) (who : UniqueModel) → among who (names s) ≡ is_member s who
among_members s who =
    ap (among who) (members_by_pair (finmap.entries s))
    ∙ among_passing (λ (e : UniqueModel × Standing). is_some (as_member e.1)) s who
    ∙ member_one who (finmap.get s who)

-- on one side or the other, where it is not the node itself
abbrev is_other : UniqueModel → UniqueModel → Bool
is_other me who = is_lt (unique_cmp me who) || is_lt (unique_cmp who me)

both_sides : (m a b : Bool) → ((m && a) || (m && b)) ≡ (m && (a || b))
both_sides true a b = refl
both_sides false a b = refl

among_others : (me : UniqueModel) (s : Standings) (who : UniqueModel) → among who (others_around me s) ≡ (is_member s who && is_other me who)
among_others me s who =
    let after : UniqueModel → Bool = λ u. is_lt (unique_cmp me u) in
    let before : UniqueModel → Bool = λ u. is_lt (unique_cmp u me) in
    list_any-append (eq_by_cmp unique_cmp who) (filter after (names s)) (filter before (names s))
    ∙ (λ i. among-filter after (names s) who i || among-filter before (names s) who i)
    ∙ (λ i. (among_members s who i && after who) || (among_members s who i && before who))
    ∙ both_sides (is_member s who) (after who) (before who)

not_other : (me : UniqueModel) → is_other me me ≡ false
not_other me = ap (λ r. is_lt r || is_lt r) (tied_itself unique_total me)

other : (me who : UniqueModel) → who ≢ me → is_other me who ≡ true
other me who apart = by_order (unique_cmp me who) refl
  where
    by_order : (r : Ordering) → unique_cmp me who ≡ r → (is_lt r || is_lt (unique_cmp who me)) ≡ true
    by_order Less is = refl
    by_order Equal is = absurd (apart (sym (unique_exact me who is)))
    by_order Greater is = ap is_lt (unique_total.antisymm who me ∙ ap ordering_reverse is)

-- ---- the ring
pub ring_others : (me : UniqueModel) (s : Standings) (who : UniqueModel) → has (watch_ring me s) who ≡ true → (is_member s who && is_other me who) ≡ true
ring_others me s who is = sym (among_others me s who) ∙ among-take most_watched (others_around me s) who (sym (has-set_of (take most_watched (others_around me s)) who) ∙ is)

pub ring_members : (me : UniqueModel) (s : Standings) (who : UniqueModel) → IsTrue (has (watch_ring me s) who) → is_member s who ≡ true
ring_members me s who is = first_so _ _ (ring_others me s who is)

pub ring_without : (me : UniqueModel) (s : Standings) → has (watch_ring me s) me ≡ false
ring_without me s = by_presence (has (watch_ring me s) me) refl
  where
    by_presence : (b : Bool) → has (watch_ring me s) me ≡ b → b ≡ false
    by_presence true is = sym (second_so _ _ (ring_others me s me is)) ∙ not_other me
    by_presence false is = refl

pub ring_few : (me : UniqueModel) (s : Standings) → how_many (watch_ring me s) ≤ most_watched
ring_few me s =
    let few = how_many-set_of (take most_watched (others_around me s)) in
    let most = length-take most_watched (others_around me s) in
    omega arith

pub ring_all : (me : UniqueModel) (s : Standings) (who : UniqueModel) → length (others_around me s) ≤ most_watched → is_member s who ≡ true → who ≢ me → has (watch_ring me s) who ≡ true
ring_all me s who few is apart =
    ap (λ l. has (set_of l) who) (take_all most_watched (others_around me s) few)
    ∙ has-set_of (others_around me s) who
    ∙ among_others me s who
    ∙ (λ i. is i && other me who apart i)

-- ---- who is watched
module _ (me : UniqueModel) (s : Standings) (deadline : ℕ) (c : Counters) (who : UniqueModel) where
  get-kept : finmap.get (finmap.retain_keys c (λ u. is_silent deadline c u && is_member s u)) who ≡ cond (is_silent deadline c who && is_member s who) (finmap.get c who) None
  get-kept =
      let test : UniqueModel → Bool = λ u. is_silent deadline c u && is_member s u in
      finmap.get-retain_keys c test who (λ x tied. ap test (sym (same_key who x (ap is_eq tied))))

  pub get-watching : finmap.get (watching me s deadline c) who ≡ cond (has (watch_ring me s) who) (Some (counter c who)) (cond (is_silent deadline c who && is_member s who) (finmap.get c who) None)
  get-watching =
      get-with_each c (in_order (watch_ring me s)) (finmap.retain_keys c (λ u. is_silent deadline c u && is_member s u)) who
      ∙ (λ i. cond (sym (finmap.contains_key-keys (watch_ring me s) who) i) (Some (counter c who)) (get-kept i))

  by_parts : (r t : Bool) (k : Option ℕ) → is_some (cond r (Some (unwrap_or k 0)) (cond t k None)) ≡ (r || (t && is_some k))
  by_parts true t k = refl
  by_parts false true k = refl
  by_parts false false k = refl

  pub is_watched : finmap.contains_key (watching me s deadline c) who ≡ (has (watch_ring me s) who || ((is_silent deadline c who && is_member s who) && finmap.contains_key c who))
  is_watched = ap is_some get-watching ∙ by_parts (has (watch_ring me s) who) (is_silent deadline c who && is_member s who) (finmap.get c who)

  -- whoever is watched is a member
  pub watched_member : finmap.contains_key (watching me s deadline c) who ≡ true → is_member s who ≡ true
  watched_member is = elim (or_either (has (watch_ring me s) who) ((is_silent deadline c who && is_member s who) && finmap.contains_key c who) (sym is_watched ∙ is)) [
    | inl ring ↦ ring_members me s who ring
    | inr kept ↦ second_so (is_silent deadline c who) (is_member s who) (first_so _ _ kept)
  ]

  -- the ring is watched
  pub ring_watched : has (watch_ring me s) who ≡ true → finmap.contains_key (watching me s deadline c) who ≡ true
  ring_watched is = is_watched ∙ ap (λ b. b || ((is_silent deadline c who && is_member s who) && finmap.contains_key c who)) is

  -- and a counter is kept
  pub kept_counter : finmap.contains_key (watching me s deadline c) who ≡ true → counter (watching me s deadline c) who ≡ counter c who
  kept_counter is = ap (λ o. unwrap_or o 0) get-watching ∙ by_case (has (watch_ring me s) who) (is_silent deadline c who && is_member s who) (finmap.get c who) (sym (ap is_some get-watching) ∙ is)
    where
      by_case : (r t : Bool) (k : Option ℕ) → is_some (cond r (Some (unwrap_or k 0)) (cond t k None)) ≡ true → unwrap_or (cond r (Some (unwrap_or k 0)) (cond t k None)) 0 ≡ unwrap_or k 0
      by_case true t k there = refl
      by_case false true k there = refl
      by_case false false k there = absurd (true≢false (sym there))

-- who is silent and a member stays watched, on the ring or not
pub silent_stay : (me : UniqueModel) (s : Standings) (deadline : ℕ) (c : Counters) (who : UniqueModel) → has (silent deadline c) who ≡ true → is_member s who ≡ true → finmap.contains_key (watching me s deadline c) who ≡ true
silent_stay me s deadline c who quiet is = is_watched me s deadline c who ∙ by_ring (has (watch_ring me s) who) (finmap.get c who) (sym (has-silent deadline c who) ∙ quiet)
  where
    by_ring : (r : Bool) (k : Option ℕ) → is_silent_by deadline k ≡ true → (r || ((nat_lt deadline (unwrap_or k 0) && is_member s who) && is_some k)) ≡ true
    by_ring true k there = refl
    by_ring false None there = absurd (true≢false (sym there))
    by_ring false (Some n) there = λ i. (there i && is i) && true

-- the node itself is not watched, where it was not before
pub not_itself : (me : UniqueModel) (s : Standings) (deadline : ℕ) (c : Counters) → finmap.contains_key c me ≡ false → finmap.contains_key (watching me s deadline c) me ≡ false
not_itself me s deadline c none =
    is_watched me s deadline c me
    ∙ (λ i. ring_without me s i || ((is_silent deadline c me && is_member s me) && none i))
    ∙ and_false (is_silent deadline c me && is_member s me)
  where
    and_false : (b : Bool) → (b && false) ≡ false
    and_false true = refl
    and_false false = refl

-- ---- who is silent
present : (deadline : ℕ) (o : Option ℕ) → is_silent_by deadline o ≡ true → is_some o ≡ true
present deadline None is = absurd (true≢false (sym is))
present deadline (Some n) is = refl

-- whoever is silent is watched
pub silent_watched : (deadline : ℕ) (c : Counters) (who : UniqueModel) → has (silent deadline c) who ≡ true → finmap.contains_key c who ≡ true
silent_watched deadline c who is = present deadline (finmap.get c who) (sym (has-silent deadline c who) ∙ is)

-- a tick watches the same
pub ticked_same : (deadline : ℕ) (c : Counters) (who : UniqueModel) → finmap.contains_key (ticked deadline c) who ≡ finmap.contains_key c who
ticked_same deadline c who = raised_same (deadline + 1) c who

-- whoever was heard is not silent
pub heard_not_silent : (deadline : ℕ) (c : Counters) (who : UniqueModel) → has (silent deadline (heard who c)) who ≡ false
heard_not_silent deadline c who = has-silent deadline (heard who c) who ∙ by_presence (finmap.contains_key c who) refl
  where
    absent : (o : Option ℕ) → is_some o ≡ false → is_silent_by deadline o ≡ false
    absent None is = refl
    absent (Some n) is = absurd (true≢false is)

    by_presence : (b : Bool) → finmap.contains_key c who ≡ b → is_silent_by deadline (finmap.get (if b then finmap.insert c who 0 else c) who) ≡ false
    by_presence true there = ap (is_silent_by deadline) (get-insert_here c who 0) ∙ le-ltb deadline 0 (omega arith)
    by_presence false there = absent (finmap.get c who) there

-- a detector that watches by these members watches by them already
pub watching_again : (me : UniqueModel) (s : Standings) (deadline : ℕ) (c : Counters) → watching me s deadline (watching me s deadline c) ≡ watching me s deadline c
watching_again me s deadline c = same_table _ _ (λ who.
    get-watching me s deadline (watching me s deadline c) who
    ∙ ap (λ (o : Option ℕ). cond (has (watch_ring me s) who) (Some (unwrap_or o 0)) (cond (nat_lt deadline (unwrap_or o 0) && is_member s who) o None)) (get-watching me s deadline c who)
    ∙ by_case (has (watch_ring me s) who) (is_member s who) (finmap.get c who)
    ∙ sym (get-watching me s deadline c who))
  where
    once : Bool → Bool → Option ℕ → Option ℕ
    once ring member o = cond ring (Some (unwrap_or o 0)) (cond (nat_lt deadline (unwrap_or o 0) && member) o None)

    nothing : (b : Bool) → cond {A = Option ℕ} b None None ≡ None
    nothing true = refl
    nothing false = refl

    by_silence : (member : Bool) (o : Option ℕ) (silent : Bool) → (nat_lt deadline (unwrap_or o 0) && member) ≡ silent → once false member (cond silent o None) ≡ cond silent o None
    by_silence member o true is = ap (λ b. cond b o None) is
    by_silence member o false is = nothing (nat_lt deadline 0 && member)

    by_case : (ring member : Bool) (o : Option ℕ) → once ring member (once ring member o) ≡ once ring member o
    by_case true member o = refl
    by_case false member o = by_silence member o (nat_lt deadline (unwrap_or o 0) && member) refl
