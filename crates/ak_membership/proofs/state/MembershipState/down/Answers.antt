use Rattle.std.proofs.Common.{refl, sym}
use Rattle.ak_membership.proofs.RuleLemmas.{stays_down, downs, may_down, answered_or}
use Rattle.ak_membership.proofs.state.MembershipState.down.Goals as goal

pub returns-then-is_down-clause-answers : goal.returns-then-is_down-clause-answers
returns-then-is_down-clause-answers c =
    (_, stays_down c.args.who.now c.args.self.now c.if-not-is_member.ensures c.if-not-has_member.ensures c.if-is_down.ensures, record { state_after = refl; change_told = c.unchanged.ensures })

pub raise-requires-clause-may : goal.raise-requires-clause-may
raise-requires-clause-may c = may_down c.args.self.now c.invariant.ensures c.args.who.now c.if-not-is_member.ensures c.if-not-has_member.ensures

pub returns-clause-answers : goal.returns-clause-answers
returns-clause-answers c =
    answered_or _ _ c.args.self.now c.raise.new.self c.raise.result c.or_no_memory.result c.or_no_memory.ensures
    (downs c.args.who.now c.args.self.now c.if-not-is_member.ensures c.if-not-has_member.ensures c.if-is_down.ensures) c.raise.ensures.ok _ _ (λ counting. (counting, sym c.if-is_down.ensures)) c.raise.ensures.err
