-- Each update that a rule makes may be made.
use Rattle.std.proofs.Common.{◌≡◌, ◌≢◌, ℕ, ◌+◌, ◌<◌, ◌≤◌, Bool, true, false, inl, inr, if◌then◌else◌, List, [], ◌∷◌, length, Option, Some, None, is_some, Contains, IsTrue, refl, sym, ap, ◌∙◌, subst, arith, true≢false}
use Rattle.std.proofs.lemmas.Option.{same_Some, slice_get_within}
use Rattle.std.specs.FinMap as map
use Rattle.ak_address.specs.Unique.{UniqueModel}
use Rattle.ak_address.specs.Uniques.{UniqueSet}
use Rattle.ak_address.proofs.Elements.{contains_first, contains_rest, index_of}
use Rattle.ak_address.proofs.TableLaws.{same_key}
use Rattle.ak_clock.specs.declared.version.TheConstants.{BOUND}
use Rattle.ak_clock.specs.Version.{count}
use Rattle.ak_member.specs.declared.effect.Effect.{Effect}
use Rattle.ak_member.specs.declared.effect.Effect.TheVariants.{Rise}
use Rattle.ak_member.specs.declared.status.Status.{Status}
use Rattle.ak_member.specs.declared.status.Status.TheVariants.{Joining, WeaklyUp, Up, Leaving, Exiting, Down}
use Rattle.ak_member.specs.declared.standing.Standing.{Standing}
use Rattle.ak_member.specs.declared.standing.Standing.TheVariants.{Member, Buried}
use Rattle.ak_member.specs.Standing.{Standings, member_of, members_of, member_pairs, is_member, is_up, is_joining, is_member_with}
use Rattle.ak_member.specs.Age.{counts}
use Rattle.ak_member.proofs.MembersLaws.{members_have}
use Rattle.ak_gossip.specs.Gossip.{GossipState, is_known, most_uniques, IsGossip, IsStanding, MayUpdate}
use Rattle.ak_gossip.proofs.InvariantLemmas.{member_known}
use Rattle.ak_leader.specs.Leader.{leader, leaders_effects, founding_effects, weak_effects, greatest_number, all_founded}
use Rattle.ak_leader.specs.Led.{LedTo}
use Rattle.ak_leader.specs.Led.LedTo.{rises, exits, confirms, removes}
use Rattle.ak_leader.proofs.LedLaws.{each_led, founds_at}
use Rattle.ak_leader.proofs.WeakLaws.{weak_from}
use Rattle.ak_leader.proofs.LeaderLaws.{leader_is}
use Rattle.ak_downing.specs.Downing.{all_downed}
use Rattle.ak_downing.proofs.DownedLaws.{downed_has}
use Rattle.ak_membership.specs.Tick.{is_process}
use Rattle.ak_membership.proofs.Causes.{status_of}
use Rattle.ak_membership.proofs.MayRise.{HasNumber, IsFit, AllFit, fit_may}

all_fit : (s : Standings) (author : UniqueModel) (effects : List Effect) → ((x : Effect) → Contains effects x → IsFit s author x) → AllFit s author effects
all_fit s author [] each = tt
all_fit s author (x ∷ effects) each = (each x (contains_first x effects), all_fit s author effects (λ y there. each y (contains_rest x y effects there)))

-- there are no more members than are known
members_few : (pairs : List (UniqueModel × Standing)) → length (member_pairs pairs) ≤ length pairs
members_few [] = omega arith
members_few ((who, Member status number) ∷ pairs) = let le = members_few pairs in omega arith
members_few ((who, Buried confirmed) ∷ pairs) = let le = members_few pairs in omega arith

founded_few : (number : ℕ) (ms : List (UniqueModel × (Status × ℕ))) → length (all_founded number ms) ≤ length ms
founded_few number [] = omega arith
founded_few number (m ∷ ms) = by_case (is_joining m.1.0) (founded_few (number + 1) ms) (founded_few number ms)
  where
    by_case : (b : Bool) → length (all_founded (number + 1) ms) ≤ length ms → length (all_founded number ms) ≤ length ms
        → length (if b then Rise m.0 Up (number + 1) ∷ all_founded (number + 1) ms else all_founded number ms) ≤ length (m ∷ ms)
    by_case true more same = omega arith
    by_case false more same = omega arith

module _ (g : GossipState) (p : IsGossip g) where
  -- the number of a member that is Up or Leaving
  with_number : (who : UniqueModel) (m : Status × ℕ) → member_of (map.get g.view.standings who) ≡ Some m → ((number : ℕ) → IsStanding (Member m.0 number) → 1 ≤ number) → HasNumber g.view.standings who
  with_number who m at least status number is =
      let same : (status, number) ≡ m = same_Some (status, number) m (sym (ap member_of is) ∙ at) in
      least number (subst (λ s. IsStanding (Member s number)) (ap (λ (q : Status × ℕ). q.0) same) (p.standings who (Member status number) is))

  up_number : (who : UniqueModel) (m : Status × ℕ) → member_of (map.get g.view.standings who) ≡ Some m → is_up m.0 ≡ true → HasNumber g.view.standings who
  up_number who (Joining, k) at is = absurd (true≢false (sym is))
  up_number who (WeaklyUp, k) at is = absurd (true≢false (sym is))
  up_number who (Up, k) at is = with_number who (Up, k) at (λ number h. h.0)
  up_number who (Leaving, k) at is = absurd (true≢false (sym is))
  up_number who (Exiting, k) at is = absurd (true≢false (sym is))
  up_number who (Down, k) at is = absurd (true≢false (sym is))

  known_member : (who : UniqueModel) (m : Status × ℕ) → member_of (map.get g.view.standings who) ≡ Some m → IsTrue (is_known g.view.standings who)
  known_member who m at = member_known (map.get g.view.standings who) (ap is_some at)

  module _ (me : UniqueModel) (room : count g.version me < BOUND) (member : IsTrue (is_member g.view.standings me)) where
    pub leaving_may : (who : UniqueModel) → is_member_with is_up g.view.standings who ≡ true → MayUpdate me (Rise who Leaving 0 ∷ []) g
    leaving_may who up =
        let h = status_of is_up (member_of (map.get g.view.standings who)) up in
        fit_may me (Rise who Leaving 0 ∷ []) g p room member ((known_member who h.0 h.1, (refl, up_number who h.0 h.1 h.2)), tt)

    pub down_may : (who : UniqueModel) → is_member g.view.standings who ≡ true → MayUpdate me (Rise who Down 0 ∷ []) g
    down_may who there = fit_may me (Rise who Down 0 ∷ []) g p room member ((member_known (map.get g.view.standings who) there, refl), tt)

    pub downed_may : (test : UniqueModel → Bool) → MayUpdate me (all_downed test (members_of g.view.standings)) g
    downed_may test = fit_may me _ g p room member (all_fit g.view.standings me _ (λ x there.
        let d = downed_has test (members_of g.view.standings) x there in
        subst (IsFit g.view.standings me) (sym d.4) (known_member d.0.0 d.0.1 (members_have g.view.standings d.0 d.1), refl)))

    pub founding_may : MayUpdate me (founding_effects g.view.standings) g
    founding_may = fit_may me _ g p room member (all_fit g.view.standings me _ (λ x there.
        let at = index_of (founding_effects g.view.standings) x there in
        let d = founds_at g.view.standings at.0 x at.1 in
        let within = slice_get_within (founding_effects g.view.standings) at.0 x at.1 in
        let founded = founded_few 0 (members_of g.view.standings) in
        let members = members_few (map.entries g.view.standings) in
        let all = map.len-entries g.view.standings in
        let few : map.len g.view.standings ≤ most_uniques = p.few in
        subst (IsFit g.view.standings me) (sym d.2) (known_member d.0 (Joining, d.1.0) d.1.1, (omega arith, omega arith))))

    -- the leader counts, so it is none of those that it removes
    leads_counted : is_process me (leader g.view) ≡ true → (number : ℕ) × (status : Status) × (member_of (map.get g.view.standings me) ≡ Some (status, number)) × IsTrue (counts status)
    leads_counted is = by_case (leader g.view) refl is
      where
        by_case : (o : Option UniqueModel) → leader g.view ≡ o → is_process me o ≡ true → (number : ℕ) × (status : Status) × (member_of (map.get g.view.standings me) ≡ Some (status, number)) × IsTrue (counts status)
        by_case None at is = absurd (true≢false (sym is))
        by_case (Some who) at is =
            let l = (leader_is g.view (Some who) (sym at)).0 in
            (l.0, l.1.0, ap (λ u. member_of (map.get g.view.standings u)) (sym (same_key who me is)) ∙ l.1.1, l.1.2)

    led_fits : is_process me (leader g.view) ≡ true → (confirmed : UniqueSet) (pair : UniqueModel × (Status × ℕ)) → member_of (map.get g.view.standings pair.0) ≡ Some pair.1 → (x : Effect) → LedTo g.view confirmed pair.0 pair.1.0 x → IsFit g.view.standings me x
    led_fits leads confirmed pair at x is = elim is as (λ y h. IsFit g.view.standings me y) [
      | rises number joins least most ↦ (known_member pair.0 pair.1 at, (least, most))
      | exits leaving ↦ (known_member pair.0 pair.1 at, (refl, with_number pair.0 pair.1 at (λ number h. (subst (λ s. IsStanding (Member s number)) leaving h).0)))
      | confirms status said ↦ (known_member pair.0 pair.1 at, other (elim status [ inl exiting ↦ ap counts exiting | inr down ↦ ap counts down ]))
      | removes down unsaid lost ↦ (known_member pair.0 pair.1 at, other (ap counts down))
    ]
      where
        other : counts pair.1.0 ≡ false → me ≢ pair.0
        other no_more same =
            let mine = leads_counted leads in
            let is : (mine.1, mine.0) ≡ pair.1 = same_Some (mine.1, mine.0) pair.1 (sym mine.2 ∙ ap (λ u. member_of (map.get g.view.standings u)) same ∙ at) in
            true≢false (sym mine.3 ∙ ap (λ (m : Status × ℕ). counts m.0) is ∙ no_more)

    pub letting_in_may : MayUpdate me (weak_effects g.view) g
    letting_in_may = fit_may me _ g p room member (all_fit g.view.standings me _ (λ x there.
        let d = weak_from g.view x there in
        subst (IsFit g.view.standings me) (sym d.3) (known_member d.0 (Joining, d.1.0) d.1.1, refl)))

    pub leading_may : is_process me (leader g.view) ≡ true → (confirmed : UniqueSet) → MayUpdate me (leaders_effects g.view confirmed) g
    leading_may leads confirmed = fit_may me _ g p room member (all_fit g.view.standings me _ (λ x there.
        let d = each_led g.view confirmed (greatest_number (members_of g.view.standings)) (members_of g.view.standings) x there in
        led_fits leads confirmed d.0 (members_have g.view.standings d.0 d.1) x d.2))
