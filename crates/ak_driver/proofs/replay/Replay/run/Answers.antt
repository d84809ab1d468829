use Rattle.std.proofs.Common.{◌≡◌, ℕ, List, Err, sym, subst}
use Rattle.std.proofs.lemmas.Result.{err_from_is_err_and}
use Rattle.ak_driver.specs.ReplayContracts.{RunningAnswers}
use Rattle.ak_driver.proofs.ReplayLemmas.{turn_event, turn_declined}
use Rattle.ak_driver.proofs.replay.Replay.run.Goals as goal
use Rattle.ak_driver.proofs.replay.Replay.run.Goals.{then-branch, else-branch}

pub returns-in_err-running-in-Running-clause-turn :
    goal.returns-in_err-running-in-Running-clause-turn
returns-in_err-running-in-Running-clause-turn c =
    let p = err_from_is_err_and c.from_residual.result c.from_residual.ensures.1 in
    turn_declined c.args.self.now _ _ c.args.line.now _ _ c.in-Running.world c.running.new.world _ c.args.self.now.steps p.1 c.in-Running.is c.requires.opened
    (subst (λ e. RunningAnswers (Err e) c.args.line.now c.args.self.now.steps c.in-Running.world c.running.new.world c.args.out.now.items c.running.new.out.items) (sym p.2) c.in_err-running-in-Running.ensures)

pub returns-after-branch-clause-turn : goal.returns-after-branch-clause-turn
returns-after-branch-clause-turn c =
    elim c.if-branch.branch [
      | then-branch w ↦ rw w.self-is
          (turn_event c.args.self.now _ c.args.line.now _ _ c.in-Running.world c.running.new.world c.args.self.now.steps c.in-Running.is c.requires.opened c.in_ok-running-in-Running.ensures)
      | else-branch w ↦ rw w.self-is
          (turn_event c.args.self.now _ c.args.line.now _ _ c.in-Running.world c.running.new.world c.args.self.now.steps c.in-Running.is c.requires.opened c.in_ok-running-in-Running.ensures)
    ]
