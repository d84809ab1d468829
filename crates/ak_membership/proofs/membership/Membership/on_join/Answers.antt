use Rattle.std.proofs.Common.{subst, false, Some, None, refl, sym, ◌∙◌, true≢false}
use Rattle.ak_membership.specs.declared.state.MembershipState.{MembershipState}
use Rattle.ak_membership.specs.Membership.{on_join}
use Rattle.ak_membership.specs.MembershipContracts.{IsSameProcess, Answers, IsAccepted, MayAdmit}
use Rattle.ak_membership.proofs.MembershipLemmas.{answered_keeps, answered_same}
use Rattle.ak_membership.proofs.RestLemmas.{rests_joined}
use Rattle.ak_membership.proofs.Walk.{join_learns}
use Rattle.ak_membership.proofs.membership.Membership.on_join.Goals as goal
use Rattle.ak_membership.proofs.membership.Membership.on_join.Goals.{then-self, else-self}

pub invariant_of-self : goal.invariant_of-self
invariant_of-self c = (
  answered_keeps c.self.inside.state c.on_join-done.new.self c.self.invariant.0 (record { founds = false; asks = Some c.args.from.now; brings = None }) _ _ c.on_join-done.result (join_learns _ c.self.inside.state c.args.from.now refl) c.on_join-done.ensures.answers,
  λ rests. elim c.if-self.branch [
    | then-self w ↦ rests_joined c.args.from.now c.self.inside.state c.on_join-done.new.self _ c.on_join-done.result c.on_join-done.ensures.answers (sym w.makes_none-self-inside.ensures ∙ sym w.self-is ∙ rests) (c.self.invariant.1 w.if-self.true)
    | else-self w ↦ absurd (true≢false (sym rests ∙ w.self-is ∙ w.if-self.false))
  ],
  c.on_join-done.ensures.tally,
)

pub returns-clause-answers : goal.returns-clause-answers
returns-clause-answers c = subst (λ (m : MembershipState). Answers (MayAdmit c.args.from.now m × IsAccepted (on_join c.args.from.now m)) (on_join c.args.from.now m) m c.on_join-done.result c.on_join-done.new.self) c.self.view_is c.on_join-done.ensures.answers

pub returns-clause-same : goal.returns-clause-same
returns-clause-same c = subst (λ (m : MembershipState). IsSameProcess m c.on_join-done.new.self) c.self.view_is (answered_same c.self.inside.state c.on_join-done.new.self (record { founds = false; asks = Some c.args.from.now; brings = None }) _ _ c.on_join-done.result (join_learns _ c.self.inside.state c.args.from.now refl) c.on_join-done.ensures.answers)
