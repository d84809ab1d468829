use Rattle.std.proofs.lemmas.Result.{err_from_is_err_and}
use Rattle.ak_turns.specs.TurnsContracts.{progress_of}
use Rattle.ak_turns.proofs.BeginLemmas.{begins_unfounded, begins_starved, begins_joined}
use Rattle.ak_turns.proofs.turns.begin.Goals as goal

pub returns-in_err-take_some-clause-begins : goal.returns-in_err-take_some-clause-begins
returns-in_err-take_some-clause-begins g c =
    let p = err_from_is_err_and c.from_residual.result c.from_residual.ensures.1 in
    begins_unfounded c.args.config.now c.from_residual.result p.0 c.in_err-take_some.field-0.0 (progress_of c.args.process.now) (progress_of c.take_some.new.process) (progress_of c.take_some.new.process)
    _ _ _ _ c.founding.result c.requires.start c.founding.ensures.value c.in_err-take_some.ensures.step p.1 p.2

pub returns-in_err-join-clause-begins : goal.returns-in_err-join-clause-begins
returns-in_err-join-clause-begins g c =
    let p = err_from_is_err_and c.from_residual-in_err-join.result c.from_residual-in_err-join.ensures.1 in
    begins_starved c.args.config.now c.from_residual-in_err-join.result p.0 (progress_of c.args.process.now) (progress_of c.take_some.new.process) (progress_of c.take_some.new.process)
    _ _ _ _ c.founding.result c.requires.start c.founding.ensures.value c.in_ok-take_some.ensures.step p.1 p.2

pub returns-clause-begins : goal.returns-clause-begins
returns-clause-begins g c =
    begins_joined c.args.config.now c.take_some-2.result (progress_of c.args.process.now) (progress_of c.take_some.new.process) (progress_of c.take_some-2.new.process)
    _ _ _ _ _ _ c.founding.result c.in_ok-join.join c.requires.start c.founding.ensures.value c.in_ok-join.ensures.value c.in_ok-take_some.ensures.step c.take_some-2.ensures.step
