use Rattle.std.proofs.Common.{Bool, Ok, Err, refl, sym, subst, arith}
use Rattle.std.proofs.lemmas.Result.{err_from_is_err_and}
use Rattle.ak_driver.specs.ReplayContracts.{HeadingAnswers}
use Rattle.ak_driver.proofs.ReplayLemmas.{turn_header, turn_refused, stands_opened, stands_running}
use Rattle.ak_driver.proofs.replay.Replay.turn.Goals as goal

pub returns-in_err-heading-in-Heading-clause-turn :
    goal.returns-in_err-heading-in-Heading-clause-turn
returns-in_err-heading-in-Heading-clause-turn g c =
    let p = err_from_is_err_and c.from_residual.result c.from_residual.ensures.1 in
    turn_refused c.args.self.now.stage _ _ c.args.line.now _ _ c.in-Heading.draft c.heading.new.draft _ c.args.self.now.line p.1 c.in-Heading.is
    (subst (λ e. HeadingAnswers (Err e) c.args.line.now c.in-Heading.draft c.heading.new.draft) (sym p.2) c.in_err-heading-in-Heading.ensures)
    c.requires.short (omega arith) refl

pub returns-then-branch-clause-turn : goal.returns-then-branch-clause-turn
returns-then-branch-clause-turn g c =
    turn_header c.args.self.now.stage c.args.line.now _ _ c.in-Heading.draft c.heading.new.draft c.args.self.now.line c.in-Heading.is
    (subst (λ (b : Bool). HeadingAnswers (Ok b) c.args.line.now c.in-Heading.draft c.heading.new.draft) c.if-branch.true c.in_ok-heading-in-Heading.ensures)
    (omega arith) refl

pub returns-else-branch-clause-ready : goal.returns-else-branch-clause-ready
returns-else-branch-clause-ready g c =
    c.run.ensures.ready _
    (stands_opened c.args.self.now.stage c.in-Heading.draft c.heading.new.draft c.open.new.self c.args.line.now c.args.self.now.line c.in-Heading.is
    (subst (λ (b : Bool). HeadingAnswers (Ok b) c.args.line.now c.in-Heading.draft c.heading.new.draft) c.if-branch.false c.in_ok-heading-in-Heading.ensures)
    c.open.ensures.stage c.open.ensures.line (omega arith))

pub returns-in-Running-clause-ready : goal.returns-in-Running-clause-ready
returns-in-Running-clause-ready g c =
    c.run-in-Running.ensures.ready _ (stands_running c.args.self.now c.in-Running.field-0 c.args.line.now c.in-Running.is c.requires.ready (omega arith))
