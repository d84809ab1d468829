use Rattle.std.proofs.Common.{◌≡◌, true, subst}
use Rattle.ak_member.specs.Standing.{Standings, is_up, is_member_with}
use Rattle.ak_membership.proofs.RuleLemmas.{leaves, may_leave, answered_or}
use Rattle.ak_membership.proofs.state.MembershipState.leave.Goals as goal

pub raise-requires-clause-may : goal.raise-requires-clause-may
raise-requires-clause-may c =
    may_leave c.args.self.now c.invariant.ensures c.args.who.now c.if-not-is_member.ensures
    (subst (λ (s : Standings). true ≡ is_member_with is_up s c.args.who.now) c.members.ensures c.if-not-is_up.ensures)

pub returns-clause-answers : goal.returns-clause-answers
returns-clause-answers c =
    let up = subst (λ (s : Standings). true ≡ is_member_with is_up s c.args.who.now) c.members.ensures c.if-not-is_up.ensures in
    answered_or _ _ c.args.self.now c.raise.new.self c.raise.result c.or_no_memory.result c.or_no_memory.ensures
    (leaves c.args.who.now c.args.self.now c.if-not-is_member.ensures c.if-not-has_member.ensures up) c.raise.ensures.ok _ _ (λ counting. counting) c.raise.ensures.err
