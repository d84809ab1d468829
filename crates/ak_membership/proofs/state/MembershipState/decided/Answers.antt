use Rattle.std.proofs.Common.{◌≡◌, ap, ◌∙◌}
use Rattle.ak_downing.specs.Downing.{decide, downs}
use Rattle.ak_downing.specs.Sides.{seen_with}
use Rattle.ak_membership.proofs.state.MembershipState.decided.Goals as goal

pub returns : goal.returns
returns c =
    let m = c.args.self.now in
    let members = c.members-members.result.now in
    let rows = c.rows-rows.result.now in
    let view : seen_with members rows ≡ m.gossip.view = λ i. seen_with (c.members-members.ensures i) (c.rows-rows.ensures i) in
    c.in_ok-effects.ensures.ok
    ∙ ap (λ d. downs d (seen_with members rows) m.me) c.decide-decision.ensures
    ∙ (λ i. downs (decide (c.strategy.ensures i) (c.role_of.ensures i) (view i) m.me) (view i) m.me)
