-- Why the effects of a founding, of a leader and of a replacement may be written.
use Rattle.std.proofs.Common.{◌≡◌, ℕ, Bool, true, ◌&&◌, inl, inr, [], ◌∷◌, Option, Some, None, is_some, Contains, IsTrue, refl, sym, ap, ◌∙◌, subst, true≢false, nat_le}
use Rattle.std.specs.FinMap as map
use Rattle.std.specs.Cmp.{first_so, second_so}
use Rattle.ak_address.specs.Distinct.{distinct}
use Rattle.ak_address.specs.Unique.{UniqueModel}
use Rattle.ak_address.proofs.Elements.{first_or_rest, contains_nothing, index_of}
use Rattle.ak_member.specs.declared.effect.Effect.{Effect}
use Rattle.ak_member.specs.declared.status.Status.{Status}
use Rattle.ak_member.specs.declared.status.Status.TheVariants.{Joining, Down}
use Rattle.ak_member.specs.Standing.{Standings, member_of, members_of, has_status, is_joining, is_waiting, is_member_with}
use Rattle.ak_member.specs.Standing as standing
use Rattle.ak_member.proofs.MembersLaws.{members_have}
use Rattle.ak_settings.specs.Settings.{settling_size}
use Rattle.ak_converge.specs.Convergence.{is_converged}
use Rattle.ak_leader.specs.Leader.{leaders_effects, greatest_number, founding_effects, weak_effects}
use Rattle.ak_leader.specs.Led.{IsMemberWith, LedTo}
use Rattle.ak_leader.specs.Led.LedTo.{rises, exits, confirms, removes}
use Rattle.ak_leader.proofs.LedLaws.{each_led, founds_at, founds_each, joins}
use Rattle.ak_leader.proofs.WeakLaws.{weak_from}
use Rattle.ak_downing.specs.Downing.{all_downed}
use Rattle.ak_downing.proofs.DownedLaws.{downed_has}
use Rattle.ak_membership.specs.declared.state.MembershipState.{MembershipState}
use Rattle.ak_membership.specs.Tick.{founds, has_settled, joining_addresses}
use Rattle.ak_membership.specs.Knowledge.{Given, IsCause}

-- the status of a member whose status passes a test
pub status_of : (test : Status → Bool) (o : Option (Status × ℕ)) → has_status test o ≡ true → (m : Status × ℕ) × (o ≡ Some m) × (test m.0 ≡ true)
status_of test None is = absurd (true≢false (sym is))
status_of test (Some (status, number)) is = ((status, number), refl, is)

-- a member is one, and its status passes a test that it passes
pub member_is : (s : Standings) (who : UniqueModel) (m : Status × ℕ) → member_of (map.get s who) ≡ Some m → IsTrue (standing.is_member s who)
member_is s who m at = ap is_some at

pub passes_with : (test : Status → Bool) (s : Standings) (who : UniqueModel) (status : Status) → test status ≡ true → IsMemberWith s who status → IsTrue (is_member_with test s who)
passes_with test s who status is member = ap (has_status test) member.1 ∙ is

-- a member that is Joining, by the test
pub joining_member : (s : Standings) (who : UniqueModel) → IsTrue (is_member_with is_joining s who) → IsMemberWith s who Joining
joining_member s who is =
    let h = status_of is_joining (member_of (map.get s who)) is in
    (h.0.1, h.1 ∙ ap (λ status. Some (status, h.0.1)) (joins h.0.0 h.2))

module _ (given : Given) (m : MembershipState) where
  -- the founder is Joining, and is among those that it raises
  pub founding_causes : IsTrue (founds m) → (x : Effect) → Contains (founding_effects m.gossip.view.standings) x → IsCause given m (founding_effects m.gossip.view.standings) x
  founding_causes is x there =
      let s = m.gossip.view.standings in
      let j = is_member_with is_joining s m.me in
      let agree = is_converged m.gossip.view m.gossip.seen in
      let enough = nat_le (settling_size m.settings.strategy) (distinct (joining_addresses m.settings.role s)) in
      let both = first_so (m.founder && j) agree (first_so (m.founder && j && agree) enough is) in
      let joining = second_so m.founder j both in
      let mine = founds_each s m.me (joining_member s m.me joining) in
      let at = index_of (founding_effects s) x there in
      let d = founds_at s at.0 x at.1 in
      subst (IsCause given m (founding_effects s)) (sym d.2)
      (member_is s d.0 (Joining, d.1.0) d.1.1, (passes_with is_waiting s d.0 Joining refl d.1, inl (first_so m.founder j both, joining, mine)))

  -- the leader acts in a settled view
  pub leading_causes : IsTrue (has_settled m) → (x : Effect) → Contains (leaders_effects m.gossip.view m.confirmed) x → IsCause given m (leaders_effects m.gossip.view m.confirmed) x
  leading_causes settled x there =
      let s = m.gossip.view.standings in
      let d = each_led m.gossip.view m.confirmed (greatest_number (members_of s)) (members_of s) x there in
      by_cause d.0 (members_have s d.0 d.1) x d.2
    where
      by_cause : (pair : UniqueModel × (Status × ℕ)) → member_of (map.get m.gossip.view.standings pair.0) ≡ Some pair.1 → (y : Effect) → LedTo m.gossip.view m.confirmed pair.0 pair.1.0 y → IsCause given m (leaders_effects m.gossip.view m.confirmed) y
      by_cause pair at y is = elim is as (λ z h. IsCause given m (leaders_effects m.gossip.view m.confirmed) z) [
        | rises number waits least most ↦ (member_is m.gossip.view.standings pair.0 pair.1 at, (ap (has_status is_waiting) at ∙ waits, inr settled))
        | exits leaving ↦ (member_is m.gossip.view.standings pair.0 pair.1 at, settled)
        | confirms status said ↦ (member_is m.gossip.view.standings pair.0 pair.1 at, (settled, said))
        | removes down unsaid lost ↦ (member_is m.gossip.view.standings pair.0 pair.1 at, settled)
      ]

  -- the leader of a view that does not settle lets in whom it can reach
  pub letting_in_causes : (x : Effect) → Contains (weak_effects m.gossip.view) x → IsCause given m (weak_effects m.gossip.view) x
  letting_in_causes x there =
      let s = m.gossip.view.standings in
      let d = weak_from m.gossip.view x there in
      subst (IsCause given m (weak_effects m.gossip.view)) (sym d.3) (member_is s d.0 (Joining, d.1.0) d.1.1, passes_with is_joining s d.0 Joining refl d.1)

  -- members go Down
  pub downing_causes : (test : UniqueModel → Bool) (x : Effect) → Contains (all_downed test (members_of m.gossip.view.standings)) x → IsCause given m (all_downed test (members_of m.gossip.view.standings)) x
  downing_causes test x there =
      let s = m.gossip.view.standings in
      let d = downed_has test (members_of s) x there in
      subst (IsCause given m _) (sym d.4) (member_is s d.0.0 d.0.1 (members_have s d.0 d.1), tt)

  -- one effect alone
  pub one_cause : (x : Effect) → IsCause given m (x ∷ []) x → (y : Effect) → Contains (x ∷ []) y → IsCause given m (x ∷ []) y
  one_cause x cause y there = elim (first_or_rest x y [] there) [ inl is ↦ subst (IsCause given m (x ∷ [])) (sym is) cause | inr none ↦ absurd (contains_nothing y none) ]
