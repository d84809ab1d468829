-- A decision is made over the members that have the role alone; and over all that count, where each of them has it.
use Rattle.std.proofs.Common.{◌≡◌, ℕ, ◌*◌, Bool, true, false, not, ◌&&◌, nat_lt, nat_le, if◌then◌else◌, List, [], ◌∷◌, inl, inr, map, length, Some, is_some, Contains, refl, sym, ap, ◌∙◌, subst, true≢false}
use Rattle.std.specs.List.{filter}
use Rattle.std.specs.declared.cmp.Ordering.TheVariants.{Less}
use Rattle.std.specs.FinMap as finmap
use Rattle.ak_gossip.specs.Gossip.{GossipState}
use Rattle.ak_gossip.proofs.InvariantLemmas.{member_known}
use Rattle.ak_gossip.proofs.PartsPlaces.{not_less_itself}
use Rattle.ak_address.specs.Distinct.{distinct}
use Rattle.ak_address.specs.Unique.{AddressModel, UniqueModel, unique_cmp}
use Rattle.ak_address.specs.Uniques.{UniqueSet}
use Rattle.ak_address.proofs.AmongLaws.{among_means}
use Rattle.ak_address.proofs.DistinctLaws.{AreRising}
use Rattle.ak_address.proofs.Elements.{contains_first, contains_rest, first_or_rest, contains_nothing, map_in}
use Rattle.ak_address.proofs.OrderLemmas.{unique_total}
use Rattle.ak_converge.specs.Convergence.{is_converged, is_settled}
use Rattle.ak_downing.specs.declared.decision.Decision.TheVariants as decision
use Rattle.ak_downing.specs.Downing.{is_beside, by_first, with_oldest, reachable_addresses, decide}
use Rattle.ak_downing.proofs.RoleLaws.{decided_alike, reached_alike}
use Rattle.ak_member.specs.declared.status.Status.{Status}
use Rattle.ak_member.specs.declared.status.Status.TheVariants.{Joining, WeaklyUp, Up, Leaving, Exiting, Down}
use Rattle.ak_member.specs.Age.{counted_pairs, role_pairs, least_pair}
use Rattle.ak_member.specs.Standing.{Standings, member_of, members_of, is_joining}
use Rattle.ak_member.specs.View.{View}
use Rattle.ak_member.proofs.CountedLaws.{all_have_role}
use Rattle.ak_member.proofs.MembersLaws.{members_have}
use Rattle.ak_membership.specs.Tick.{joining_pairs, joining_addresses}
use Rattle.ak_reach.specs.Unreachable.{unreachable_members}
use Rattle.ak_settings.specs.declared.settings.Strategy.{Strategy}
use Rattle.ak_settings.specs.declared.settings.Strategy.TheVariants.{StaticQuorum, KeepMajority, KeepOldest, DownAll}
use Rattle.ak_settings.specs.Settings.{SettingsModel}
use Rattle.ak_schedule.specs.declared.event.Event.{Event}
use Rattle.ak_world.specs.Fold.{IsIn}
use Rattle.ak_world.specs.InRun.{in_gossip, stands}
use Rattle.ak_world.specs.World.{run}
use Rattle.ak_world.proofs.InRunLemmas.{named_started}
use Rattle.ak_meaning.specs.Roles.{HaveSameCounted, EachHasRole, EachJoiningHasRole, all_joining, all_reachable, settles_over_all, decide_over_all}
use Rattle.ak_meaning.proofs.CountingLemmas.{below_none}
use Rattle.ak_meaning.proofs.OldestSides.{has_age, age_in}
use Rattle.ak_meaning.proofs.ResolverLaws.{pairs_counted, counted, does_count, counted_rising, beside_means}

abbrev Pairs : Type 0
Pairs = List (UniqueModel × ℕ)

abbrev whose : UniqueModel × ℕ → UniqueModel
whose pair = pair.0

-- ---- two lists in order that have the same are one
after_first : (x : UniqueModel × ℕ) (xs : Pairs) → AreRising (map whose (x ∷ xs)) → (y : UniqueModel × ℕ) → Contains xs y → unique_cmp x.0 y.0 ≡ Less
after_first x xs rising y there = below_none x.0 (map whose xs) rising.0 y.0 (map_in whose xs y there)

both_less : (one other : UniqueModel) → unique_cmp one other ≡ Less → unique_cmp other one ≡ Less → ⊥
both_less one other less more = not_less_itself one (unique_total.trans one other one less more)

same_first : (x y : UniqueModel × ℕ) (xs ys : Pairs) → AreRising (map whose (x ∷ xs)) → AreRising (map whose (y ∷ ys)) → Contains (y ∷ ys) x → Contains (x ∷ xs) y → x ≡ y
same_first x y xs ys one other there here = elim (first_or_rest y x ys there) [
  | inl same ↦ same
  | inr later ↦ elim (first_or_rest x y xs here) [
    | inl same ↦ sym same
    | inr also ↦ absurd (both_less x.0 y.0 (after_first x xs one y also) (after_first y ys other x later))
  ]
]

-- what stands after the first of one list stands after the first of the other
rest_there : (x y : UniqueModel × ℕ) (xs ys : Pairs) → AreRising (map whose (x ∷ xs)) → x ≡ y → (z : UniqueModel × ℕ) → Contains xs z → Contains (y ∷ ys) z → Contains ys z
rest_there x y xs ys rising same z later there = elim (first_or_rest y z ys there) [
  | inl first ↦ absurd (not_less_itself x.0 (subst (λ (w : UniqueModel × ℕ). unique_cmp x.0 w.0 ≡ Less) (first ∙ sym same) (after_first x xs rising z later)))
  | inr rest ↦ rest
]

same_rising : (xs ys : Pairs) → AreRising (map whose xs) → AreRising (map whose ys) → ((z : UniqueModel × ℕ) → Contains xs z → Contains ys z) → ((z : UniqueModel × ℕ) → Contains ys z → Contains xs z) → xs ≡ ys
same_rising [] [] one other there here = refl
same_rising [] (y ∷ ys) one other there here = absurd (contains_nothing y (here y (contains_first y ys)))
same_rising (x ∷ xs) [] one other there here = absurd (contains_nothing x (there x (contains_first x xs)))
same_rising (x ∷ xs) (y ∷ ys) one other there here =
    let same = same_first x y xs ys one other (there x (contains_first x xs)) (here y (contains_first y ys)) in
    let rest = same_rising xs ys one.1 other.1
    (λ z later. rest_there x y xs ys one same z later (there z (contains_rest x z xs later)))
    (λ z later. rest_there y x ys xs other (sym same) z later (here z (contains_rest y z ys later))) in
    λ i. same i ∷ rest i

-- ---- over the members that have the role alone
same_truth : (a b : Bool) → (a ≡ true → b ≡ true) → (b ≡ true → a ≡ true) → a ≡ b
same_truth true true there here = refl
same_truth true false there here = sym (there refl)
same_truth false true there here = here refl
same_truth false false there here = refl

module _ (role : List AddressModel) (v w : View) (me : UniqueModel) (s : HaveSameCounted role v w me) where
  same_counted : counted role v ≡ counted role w
  same_counted =
      same_rising (counted role v) (counted role w) (counted_rising role v) (counted_rising role w)
      (λ z there. age_in role w z.0 z.1 ((s.counted z.0 z.1).0 (has_age role v z there)))
      (λ z there. age_in role v z.0 z.1 ((s.counted z.0 z.1).1 (has_age role w z there)))

  same_beside : (z : UniqueModel × ℕ) → Contains (counted role v) z → is_beside (unreachable_members v) me z.0 ≡ is_beside (unreachable_members w) me z.0
  same_beside z there =
      let means = s.beside z.0 (does_count role v z there) in
      same_truth (is_beside (unreachable_members v) me z.0) (is_beside (unreachable_members w) me z.0)
      (λ is. (beside_means role w me z.0).1 (means.0 ((beside_means role v me z.0).0 is)))
      (λ is. (beside_means role v me z.0).1 (means.1 ((beside_means role w me z.0).0 is)))

  pub same_decision : (strategy : Strategy) → decide strategy role v me ≡ decide strategy role w me
  same_decision strategy = decided_alike role v w me same_counted same_beside strategy

  pub same_reached : reachable_addresses role v me ≡ reachable_addresses role w me
  same_reached = reached_alike role v w me same_counted same_beside

-- ---- over all that count
module _ (role : List AddressModel) (v : View) (each : EachHasRole role v.standings) where
  all_pairs : role_pairs role (members_of v.standings) ≡ counted_pairs (members_of v.standings)
  all_pairs = all_have_role role (counted_pairs (members_of v.standings)) (λ m there.
      let h = pairs_counted (members_of v.standings) m there in
      (among_means role m.0.address).1 (each m.0 m.1 (h.0, members_have v.standings (m.0, (h.0, m.1)) h.1, h.2)))

  abbrev addresses : Pairs → ℕ
  addresses pairs = distinct (map (λ (pair : UniqueModel × ℕ). pair.0.address) pairs)

  pub settled_over_all : (quorum : ℕ) (seen : UniqueSet) → is_settled quorum role v seen ≡ settles_over_all quorum v seen
  settled_over_all quorum seen = ap (λ pairs. is_converged v seen && nat_le quorum (addresses pairs)) all_pairs

  abbrev beside : UniqueModel → Pairs → Pairs
  beside me pairs = filter (λ (pair : UniqueModel × ℕ). is_beside (unreachable_members v) me pair.0) pairs

  abbrev apart : UniqueModel → Pairs → Pairs
  apart me pairs = filter (λ (pair : UniqueModel × ℕ). not (is_beside (unreachable_members v) me pair.0)) pairs

  pub reached_over_all : (me : UniqueModel) → reachable_addresses role v me ≡ all_reachable v me
  reached_over_all me = ap (λ pairs. addresses (beside me pairs)) all_pairs

  pub decided_over_all : (strategy : Strategy) (me : UniqueModel) → decide strategy role v me ≡ decide_over_all strategy v me
  decided_over_all (StaticQuorum quorum) me =
      ap (λ pairs.
      if nat_le (2 * quorum) (addresses pairs) then decision.DownAll
      else (if nat_le quorum (addresses (beside me pairs)) then decision.DownUnreachable else decision.DownReachable)) all_pairs
  decided_over_all KeepMajority me =
      ap (λ pairs.
      if nat_lt (length (apart me pairs)) (length (beside me pairs)) then decision.DownUnreachable
      else (if nat_lt (length (beside me pairs)) (length (apart me pairs)) then decision.DownReachable else by_first (unreachable_members v) me pairs)) all_pairs
  decided_over_all (KeepOldest alone) me =
      ap (λ pairs. with_oldest alone (length (beside me pairs)) (length (apart me pairs)) (unreachable_members v) me (least_pair pairs)) all_pairs
  decided_over_all DownAll me = refl

-- ---- all that are Joining
only_joining : (status : Status) → is_joining status ≡ true → status ≡ Joining
only_joining Joining is = refl
only_joining WeaklyUp is = absurd (true≢false (sym is))
only_joining Up is = absurd (true≢false (sym is))
only_joining Leaving is = absurd (true≢false (sym is))
only_joining Exiting is = absurd (true≢false (sym is))
only_joining Down is = absurd (true≢false (sym is))

pairs_joining : (pairs : List (UniqueModel × (Status × ℕ))) (m : UniqueModel × ℕ) → Contains (joining_pairs pairs) m → Contains pairs (m.0, (Joining, m.1))
pairs_joining [] m there = absurd (contains_nothing m there)
pairs_joining (pair ∷ pairs) m there = next (is_joining pair.1.0) refl (λ h. pairs_joining pairs m h) there
  where
    next : (b : Bool) → is_joining pair.1.0 ≡ b → (Contains (joining_pairs pairs) m → Contains pairs (m.0, (Joining, m.1)))
        → Contains (if b then (pair.0, pair.1.1) ∷ joining_pairs pairs else joining_pairs pairs) m → Contains (pair ∷ pairs) (m.0, (Joining, m.1))
    next true is rest there = elim (first_or_rest (pair.0, pair.1.1) m (joining_pairs pairs) there) [
      | inl same ↦
          subst (λ (r : UniqueModel × ℕ). Contains (pair ∷ pairs) (r.0, (Joining, r.1))) (sym same)
          (subst (λ (status : Status). Contains (pair ∷ pairs) (pair.0, (status, pair.1.1))) (only_joining pair.1.0 is) (contains_first pair pairs))
      | inr later ↦ contains_rest pair (m.0, (Joining, m.1)) pairs (rest later)
    ]
    next false is rest there = contains_rest pair (m.0, (Joining, m.1)) pairs (rest there)

pub joining_over_all : (role : List AddressModel) (s : Standings) → EachJoiningHasRole role s → joining_addresses role s ≡ all_joining s
joining_over_all role s each = ap (map (λ (pair : UniqueModel × ℕ). pair.0.address)) (all_have_role role (joining_pairs (members_of s)) (λ m there.
    (among_means role m.0.address).1 (each m.0 (m.1, members_have s (m.0, (Joining, m.1)) (pairs_joining (members_of s) m there)))))

-- ---- over runs: whoever is a member is at a listed address
module _ (settings : SettingsModel) (events : List Event) (same : settings.role ≡ settings.listed) (g : GossipState) (there : IsIn g (run settings events)) where
  listed_has_role : (who : UniqueModel) (m : Status × ℕ) → member_of (finmap.get g.view.standings who) ≡ Some m → Contains settings.role who.address
  listed_has_role who m is =
      let known = member_known (finmap.get g.view.standings who) (ap is_some is) in
      let started = named_started settings events who (stands g.view.standings (in_gossip g there) known) in
      subst (λ (l : List AddressModel). Contains l who.address) (sym same) ((among_means settings.listed who.address).0 started.listed)

  pub counted_have_role : EachHasRole settings.role g.view.standings
  counted_have_role who number is = listed_has_role who (is.0, number) is.1

  pub joining_have_role : EachJoiningHasRole settings.role g.view.standings
  joining_have_role who is = listed_has_role who (Joining, is.0) is.1
