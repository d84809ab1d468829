use Rattle.std.proofs.Common.{ℕ, sym, subst, ◌∙◌}
use Rattle.ak_driver.specs.ReplayContracts.{progress, FinishAnswers, Ended}
use Rattle.ak_driver.proofs.ReplayLemmas.{finish_opened}
use Rattle.ak_driver.proofs.ReplayLoop.{progress_line}
use Rattle.ak_driver.proofs.replay.Replay.ends.Goals as goal

pub returns-clause-ends : goal.returns-clause-ends
returns-clause-ends g c =
    let old = c.args.self.now in
    let after = c.finish-end.new.out.items in (
      c.finish-end.result,
      after,
      finish_opened c.finish-end.result old.stage c.open.new.self.stage old.line c.args.out.now.items after c.open.ensures.stage
          (subst (λ (n : ℕ). FinishAnswers c.finish-end.result (progress c.open.new.self.stage n) c.args.out.now.items after) c.open.ensures.line c.finish-end.ensures),
      subst
          (λ (n : ℕ). Ended c.finish-end.result n after c.ended.result (g.W.Sink.faults c.args.output.now) (g.W.Sink.faults c.ended.new.output) (g.W.Sink.written c.args.output.now) (g.W.Sink.written c.ended.new.output))
          (c.open.ensures.line ∙ sym (progress_line old.stage old.line))
          c.ended.ensures.ended,
    )
