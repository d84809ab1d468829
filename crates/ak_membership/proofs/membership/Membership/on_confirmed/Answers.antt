use Rattle.std.proofs.Common.{ap, ◌∙◌}
use Rattle.ak_sight.specs.Counted.{kept_tally_of}
use Rattle.std.proofs.Common.{subst, sym, true≢false}
use Rattle.ak_membership.specs.declared.state.MembershipState.{MembershipState}
use Rattle.ak_membership.specs.MembershipContracts.{IsSameProcess}
use Rattle.ak_membership.proofs.MembershipLemmas.{confirmed_keeps, confirmed_same}
use Rattle.ak_membership.proofs.membership.Membership.on_confirmed.Goals as goal

pub invariant_of-self : goal.invariant_of-self
invariant_of-self c = (
  confirmed_keeps c.self.inside.state c.on_confirmed.new.self c.self.invariant.0 c.args.from.now c.on_confirmed.result c.on_confirmed.ensures.ok c.on_confirmed.ensures.err,
  λ is. absurd (true≢false (sym is)),
  let same = confirmed_same c.self.inside.state c.on_confirmed.new.self c.args.from.now c.on_confirmed.result c.on_confirmed.ensures.ok c.on_confirmed.ensures.err in
      c.self.invariant.2 ∙ (λ i. kept_tally_of (sym same.settings i).role (sym c.on_confirmed.ensures.gossip i)),
)

pub returns-clause-same : goal.returns-clause-same
returns-clause-same c = subst (λ (m : MembershipState). IsSameProcess m c.on_confirmed.new.self) c.self.view_is (confirmed_same c.self.inside.state c.on_confirmed.new.self c.args.from.now c.on_confirmed.result c.on_confirmed.ensures.ok c.on_confirmed.ensures.err)
