use Rattle.std.proofs.Common.{subst, sym, ◌∙◌, true≢false}
use Rattle.ak_membership.specs.Knowledge.{nothing_given}
use Rattle.ak_membership.specs.declared.state.MembershipState.{MembershipState}
use Rattle.ak_membership.specs.Membership.{down}
use Rattle.ak_membership.specs.MembershipContracts.{IsSameProcess, Answers, IsAccepted, MayDown}
use Rattle.ak_membership.proofs.MembershipLemmas.{answered_keeps, answered_same}
use Rattle.ak_membership.proofs.RestLemmas.{rests_downed}
use Rattle.ak_membership.proofs.Walk.{down_learns}
use Rattle.ak_membership.proofs.membership.Membership.down.Goals as goal
use Rattle.ak_membership.proofs.membership.Membership.down.Goals.{then-self, else-self}

pub invariant_of-self : goal.invariant_of-self
invariant_of-self c = (
  answered_keeps c.self.inside.state c.down-done.new.self c.self.invariant.0 nothing_given _ _ c.down-done.result (down_learns nothing_given c.self.inside.state c.args.who.now) c.down-done.ensures.answers,
  λ rests. elim c.if-self.branch [
    | then-self w ↦ rests_downed c.args.who.now c.self.inside.state c.down-done.new.self _ c.down-done.result c.down-done.ensures.answers (sym w.makes_none-self-inside.ensures ∙ sym w.self-is ∙ rests) (c.self.invariant.1 w.if-self.true)
    | else-self w ↦ absurd (true≢false (sym rests ∙ w.self-is ∙ w.if-self.false))
  ],
  c.down-done.ensures.tally,
)

pub returns-clause-answers : goal.returns-clause-answers
returns-clause-answers c = subst (λ (m : MembershipState). Answers (MayDown c.args.who.now m × IsAccepted (down c.args.who.now m)) (down c.args.who.now m) m c.down-done.result c.down-done.new.self) c.self.view_is c.down-done.ensures.answers

pub returns-clause-same : goal.returns-clause-same
returns-clause-same c = subst (λ (m : MembershipState). IsSameProcess m c.down-done.new.self) c.self.view_is (answered_same c.self.inside.state c.down-done.new.self nothing_given _ _ c.down-done.result (down_learns nothing_given c.self.inside.state c.args.who.now) c.down-done.ensures.answers)
