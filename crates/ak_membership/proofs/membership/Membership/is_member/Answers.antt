use Rattle.std.proofs.Common.{ap, ◌∙◌}
use Rattle.ak_membership.specs.Membership.{is_member}
use Rattle.ak_membership.proofs.RestLemmas.{member_at_rest}
use Rattle.ak_membership.proofs.membership.Membership.is_member.Goals as goal

pub returns-then-self : goal.returns-then-self
returns-then-self c =
    c.knows_anybody.ensures
    ∙ member_at_rest c.self.inside.state c.self.invariant.0 (c.self.invariant.1 c.if-self.true)
    ∙ ap is_member c.self.view_is
