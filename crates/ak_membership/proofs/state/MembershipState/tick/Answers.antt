use Rattle.std.proofs.Common.{◌≡◌, ap, ◌∙◌, arith}
use Rattle.ak_membership.specs.declared.state.MembershipState.{MembershipState}
use Rattle.ak_membership.specs.Knowledge.{nothing_given}
use Rattle.ak_membership.proofs.Walk.{updates_leave}
use Rattle.ak_membership.proofs.state.MembershipState.tick.Goals as goal

pub count-requires : goal.count-requires
count-requires c =
    let same : c.updates.new.self.ticks ≡ c.args.self.now.ticks = ap (λ (m : MembershipState). m.ticks) (c.in_ok-change.ensures {u = tt}).ok.state_after ∙ (updates_leave nothing_given c.args.self.now).ticks in
    omega (arith, same, c.requires.ticks)
