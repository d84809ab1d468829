use Rattle.std.proofs.Common.{◌≡◌, None, not, sym, ap, ◌∙◌, subst, true≢false}
use Rattle.ak_membership.specs.Tick.{tick}
use Rattle.ak_membership.specs.Knowledge.{nothing_given}
use Rattle.ak_membership.specs.declared.change.Change.{Change}
use Rattle.ak_membership.specs.declared.state.MembershipState.{MembershipState}
use Rattle.ak_membership.specs.MembershipContracts.{IsSameProcess, IsAtRest}
use Rattle.ak_membership.proofs.MembershipLemmas.{made_keeps, made_same}
use Rattle.ak_membership.proofs.RestLemmas.{rests_ticked, none_there}
use Rattle.ak_membership.proofs.Walk.{tick_learns}
use Rattle.ak_membership.proofs.membership.Membership.tick.Goals as goal
use Rattle.ak_membership.proofs.membership.Membership.tick.Goals.{then-self, else-self}

pub invariant_of-self : goal.invariant_of-self
invariant_of-self c =
    let same = (c.in_err-change.ensures {u = tt}).err in (
      made_keeps c.self.inside.state c.tick.new.self c.self.invariant.0 nothing_given (tick c.self.inside.state) c.tick.result (tick_learns nothing_given c.self.inside.state) c.tick.ensures.ok c.tick.ensures.err,
      λ rests. subst IsAtRest (sym same) (c.self.invariant.1 rests),
      c.tick.ensures.tally,
    )

pub invariant_of-self-2 : goal.invariant_of-self-2
invariant_of-self-2 c = (
  made_keeps c.self.inside.state c.tick.new.self c.self.invariant.0 nothing_given (tick c.self.inside.state) c.tick.result (tick_learns nothing_given c.self.inside.state) c.tick.ensures.ok c.tick.ensures.err,
  λ rests. elim c.if-self.branch [
    | then-self w ↦
        let made = (c.in_ok-change.ensures {u = tt}).ok in
        let none : c.in_ok-change.change.number ≡ None = none_there c.in_ok-change.change.number (w.is_none-self-inside.ensures ∙ ap not (sym w.self-is ∙ rests)) in
        subst IsAtRest (sym made.state_after) (rests_ticked c.self.inside.state (ap (λ (change : Change). change.number) (sym made.change_told) ∙ none) (c.self.invariant.1 w.if-self.true))
    | else-self w ↦ absurd (true≢false (sym rests ∙ w.self-is ∙ w.if-self.false))
  ],
  c.tick.ensures.tally,
)

pub returns-clause-same : goal.returns-clause-same
returns-clause-same c = subst (λ (m : MembershipState). IsSameProcess m c.tick.new.self) c.self.view_is (made_same c.self.inside.state c.tick.new.self nothing_given (tick c.self.inside.state) c.tick.result (tick_learns nothing_given c.self.inside.state) c.tick.ensures.ok c.tick.ensures.err)
