use Rattle.std.proofs.Common.{ap, ◌∙◌}
use Rattle.ak_sight.specs.Counted.{kept_tally_of}
use Rattle.ak_membership.specs.declared.state.MembershipState.{MembershipState}
use Rattle.std.proofs.Common.{false, sym, subst}
use Rattle.ak_membership.specs.MembershipContracts.{IsMembership, IsAtRest}
use Rattle.ak_membership.proofs.MembershipLemmas.{close_keeps}
use Rattle.ak_membership.proofs.RestLemmas.{rests_closed_again}
use Rattle.ak_membership.proofs.membership.Membership.close.Goals as goal

pub invariant_of-self : goal.invariant_of-self
invariant_of-self c =
    let closed = c.close_at_rest.ensures.state_after in (
      subst IsMembership (sym closed) (close_keeps false c.self.inside.state c.self.invariant.0),
      λ rests. subst IsAtRest (sym closed) (rests_closed_again c.self.inside.state (c.self.invariant.1 rests)),
      c.self.invariant.2 ∙ ap (λ (m : MembershipState). kept_tally_of m.settings.role m.gossip) (sym closed),
    )

pub invariant_of-self-2 : goal.invariant_of-self-2
invariant_of-self-2 c = (
  subst IsMembership (sym (c.in_ok-due.ensures {u = tt}).ok.state_after) (close_keeps c.args.stopping c.self.inside.state c.self.invariant.0),
  (c.in_ok-due.ensures {u = tt}).rest,
  c.self.invariant.2 ∙ ap (λ (m : MembershipState). kept_tally_of m.settings.role m.gossip) (sym (c.in_ok-due.ensures {u = tt}).ok.state_after),
)
