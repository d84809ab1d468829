use Rattle.std.proofs.Common.{refl, ap, sym, ◌∙◌, true≢false}
use Rattle.ak_membership.specs.declared.change.Change.{Change}
use Rattle.ak_membership.specs.declared.change.Reply.TheVariants.{Welcome}
use Rattle.ak_membership.proofs.RuleLemmas.{at_unlisted, at_member, at_tombstone, at_beside, at_free, answered_or}
use Rattle.ak_membership.proofs.state.MembershipState.on_join.Goals as goal

pub returns-then-not-is_listed-clause-answers : goal.returns-then-not-is_listed-clause-answers
returns-then-not-is_listed-clause-answers c = (at_unlisted c.args.from.now c.args.self.now c.if-not-is_member.ensures c.if-not-is_listed.ensures, refl)

pub returns-then-has_member-clause-answers : goal.returns-then-has_member-clause-answers
returns-then-has_member-clause-answers c =
    (_, at_member c.args.from.now c.args.self.now c.if-not-is_member.ensures c.if-not-is_listed.ensures c.if-has_member.ensures, record { state_after = refl; change_told = ap (λ (x : Change). record x { reply = Welcome }) c.unchanged-change.ensures })

pub returns-then-knows-clause-answers : goal.returns-then-knows-clause-answers
returns-then-knows-clause-answers c =
    (_, at_tombstone c.args.from.now c.args.self.now c.if-not-is_member.ensures c.if-not-is_listed.ensures c.if-has_member.ensures c.if-knows.ensures, record { state_after = refl; change_told = c.unchanged.ensures })

pub returns-then-has_member_beside-clause-answers : goal.returns-then-has_member_beside-clause-answers
returns-then-has_member_beside-clause-answers c =
    answered_or _ _ c.args.self.now c.replace.new.self c.replace.result c.or_no_memory.result c.or_no_memory.ensures
    (at_beside c.args.from.now c.args.self.now c.if-not-is_member.ensures c.if-not-is_listed.ensures c.if-has_member.ensures c.if-knows.ensures c.if-has_member_beside.ensures) c.replace.ensures.ok _ _ (λ cause. (cause.0, sym c.if-knows.ensures, λ beside. cause.1)) c.replace.ensures.err

pub returns-clause-answers : goal.returns-clause-answers
returns-clause-answers c =
    answered_or _ _ c.args.self.now c.admit.new.self c.admit.result c.or_no_memory-2.result c.or_no_memory-2.ensures
    (at_free c.args.from.now c.args.self.now c.if-not-is_member.ensures c.if-not-is_listed.ensures c.if-has_member.ensures c.if-knows.ensures c.if-has_member_beside.ensures c.if-is_full.ensures) c.admit.ensures.ok _ _ (λ counting. (counting, sym c.if-knows.ensures, λ beside. absurd (true≢false (sym (c.if-has_member_beside.ensures ∙ beside))))) c.admit.ensures.err
