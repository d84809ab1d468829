use Rattle.std.proofs.Common.{◌<◌, arith, ap, ◌∙◌}
use Rattle.std.proofs.lemmas.Result.{err_from_is_err_and}
use Rattle.ak_turns.specs.Turns.{GoesOn}
use Rattle.ak_turns.specs.TurnsContracts.{progress_of}
use Rattle.ak_turns.proofs.RunLemmas.{along_start, half_turn, whole_turn, stops_unbegun, stops_heard, stops_ticking, ends_done, ends_turns}
use Rattle.ak_turns.proofs.TurnsLemmas.{runs_as, runs_stop, stops_at_once, runs_unheard, some_steps, bounds_next, idle_next, comes_nearer, cause_writes, cause_some, cause_as}
use Rattle.ak_turns.proofs.turns.take_turns.Goals as goal

pub returns-in_err-buffer-clause-runs : goal.returns-in_err-buffer-clause-runs
returns-in_err-buffer-clause-runs g c =
    let p = err_from_is_err_and c.from_residual.result c.from_residual.ensures.1 in
    runs_stop c.args.config.now c.args.ticks c.from_residual.result p.0 _ (progress_of c.args.process.now) _ _ _ _ _ p.1 p.2
    (stops_at_once c.args.config.now c.args.ticks (progress_of c.args.process.now) _ _ _ c.requires.start)

pub returns-in_err-begin-clause-cause : goal.returns-in_err-begin-clause-cause
returns-in_err-begin-clause-cause g c =
    let p = err_from_is_err_and c.from_residual-in_err-begin.result c.from_residual-in_err-begin.ensures.1 in
    cause_as c.from_residual-in_err-begin.result p.0 c.in_err-begin.field-0.0 _ _ p.1 p.2
    (cause_writes c.in_err-begin.field-0.0 _ _ _ _ _ c.in_err-begin.ensures.begins.2.writes c.begin.ensures.faults)

pub returns-in_err-begin-clause-runs : goal.returns-in_err-begin-clause-runs
returns-in_err-begin-clause-runs g c =
    let p = err_from_is_err_and c.from_residual-in_err-begin.result c.from_residual-in_err-begin.ensures.1 in
    runs_stop c.args.config.now c.args.ticks c.from_residual-in_err-begin.result p.0 c.in_err-begin.field-0.0 (progress_of c.begin.new.process) _ _ _ _ _ p.1 p.2
    (stops_unbegun c.args.config.now c.args.ticks c.in_err-begin.field-0.0 _ _ _ _ _ (progress_of c.begin.new.process) c.in_err-begin.ensures.begins)

pub turns-init : goal.turns-init
turns-init g c =
    let ticks = ap (λ t. t.ticks) c.start-timer.ensures in
    let idle = ap (λ t. t.idle) c.start-timer.ensures in
    let few = c.in_ok-begin.ensures.few in (
      along_start c.args.config.now c.args.ticks _ _ _ _ _ _ (progress_of c.begin.new.process) c.start-timer.result c.now.result c.in_ok-begin.ensures.begins c.now.ensures c.start-timer.ensures,
      c.in_ok-begin.ensures.counted,
      omega (arith, ticks, idle, few),
      omega (arith, ticks),
      omega (arith, idle),
      c.in_ok-buffer.ensures.len,
      c.begin.ensures.faults,
      c.in_ok-begin.ensures.begins.1.faults,
    )

pub returns-in_err-heard-clause-runs : goal.returns-in_err-heard-clause-runs
returns-in_err-heard-clause-runs g c =
    let p = err_from_is_err_and c.from_residual-in_err-heard.result c.from_residual-in_err-heard.ensures.1 in
    let ticks = c.ticks.ensures in
    let goes : GoesOn c.args.ticks c.turns.timer = (omega (arith, ticks, c.turns-test.true), c.turns.invariant.4) in
    runs_as c.args.config.now c.args.ticks c.from_residual-in_err-heard.result p.0 c.in_err-heard.field-0.0 (progress_of c.turns.process) _ _ _ _ _ p.1 p.2
    (runs_unheard c.args.config.now c.args.ticks c.in_err-heard.field-0.0 _ _ _ _ _ _ _ (progress_of c.turns.process) c.turns.timer c.turns.invariant.0 goes c.in_err-heard.ensures.hears)

pub returns-in_err-take_some-clause-cause : goal.returns-in_err-take_some-clause-cause
returns-in_err-take_some-clause-cause g c =
    let p = err_from_is_err_and c.from_residual-in_err-take_some.result c.from_residual-in_err-take_some.ensures.1 in
    cause_as c.from_residual-in_err-take_some.result p.0 c.in_err-take_some.field-0.0 _ _ p.1 p.2
    (cause_some c.in_ok-heard.heard c.in_err-take_some.field-0.0 _ _ _ _ _ _ _ _ c.in_err-take_some.ensures.step (c.take_some.ensures.faults ∙ c.in_ok-heard.ensures.cause ∙ c.turns.invariant.6))

pub returns-in_err-take_some-clause-runs : goal.returns-in_err-take_some-clause-runs
returns-in_err-take_some-clause-runs g c =
    let p = err_from_is_err_and c.from_residual-in_err-take_some.result c.from_residual-in_err-take_some.ensures.1 in
    let ticks = c.ticks.ensures in
    let goes : GoesOn c.args.ticks c.turns.timer = (omega (arith, ticks, c.turns-test.true), c.turns.invariant.4) in
    runs_stop c.args.config.now c.args.ticks c.from_residual-in_err-take_some.result p.0 c.in_err-take_some.field-0.0 (progress_of c.take_some.new.process) _ _ _ _ _ p.1 p.2
    (stops_heard c.args.config.now c.args.ticks c.in_err-take_some.field-0.0 _ _ _ _ _ _ _ _ _ (progress_of c.turns.process) (progress_of c.take_some.new.process) c.turns.timer c.in_ok-heard.heard
    c.turns.invariant.0 goes c.in_ok-heard.ensures.hears c.in_err-take_some.ensures.step)

pub take_some-requires-in-turns-clause-steps : goal.take_some-requires-in-turns-clause-steps
take_some-requires-in-turns-clause-steps g c =
    let one = some_steps (progress_of c.turns.process) (progress_of c.take_some.new.process) _ _ _ _ c.in_ok-heard.heard c.in_ok-take_some.ensures.step in
    omega (arith, one, c.turns.invariant.2, c.turns.invariant.3, c.turns.invariant.4, c.requires.few)

pub returns-in_err-take_some-2-clause-runs : goal.returns-in_err-take_some-2-clause-runs
returns-in_err-take_some-2-clause-runs g c =
    let p = err_from_is_err_and c.from_residual-in_err-take_some-2.result c.from_residual-in_err-take_some-2.ensures.1 in
    let ticks = c.ticks.ensures in
    let goes : GoesOn c.args.ticks c.turns.timer = (omega (arith, ticks, c.turns-test.true), c.turns.invariant.4) in
    let half = half_turn c.args.config.now c.args.ticks _ _ _ _ _ _ _ _ _ (progress_of c.turns.process) (progress_of c.take_some.new.process) c.turns.timer c.in_ok-heard.heard
    c.turns.invariant.0 goes c.in_ok-heard.ensures.hears c.in_ok-take_some.ensures.step in
    runs_stop c.args.config.now c.args.ticks c.from_residual-in_err-take_some-2.result p.0 c.in_err-take_some-2.field-0.0 (progress_of c.take_some-in-turns.new.process) _ _ _ _ _ p.1 p.2
    (stops_ticking c.args.config.now c.args.ticks c.in_err-take_some-2.field-0.0 _ _ _ _ _ _ _ _ _ (progress_of c.take_some.new.process) (progress_of c.take_some-in-turns.new.process) c.turns.timer
    c.now-in-turns.result c.read-word.result c.tick.result half c.now-in-turns.ensures c.read-word.ensures.tick c.tick.ensures.value c.in_err-take_some-2.ensures.step)

pub returns-then-idle-eq-MOST_IDLE-clause-runs : goal.returns-then-idle-eq-MOST_IDLE-clause-runs
returns-then-idle-eq-MOST_IDLE-clause-runs g c =
    let ticks = c.ticks.ensures in
    let goes : GoesOn c.args.ticks c.turns.timer = (omega (arith, ticks, c.turns-test.true), c.turns.invariant.4) in
    let half = half_turn c.args.config.now c.args.ticks _ _ _ _ _ _ _ _ _ (progress_of c.turns.process) (progress_of c.take_some.new.process) c.turns.timer c.in_ok-heard.heard
    c.turns.invariant.0 goes c.in_ok-heard.ensures.hears c.in_ok-take_some.ensures.step in
    let whole = whole_turn c.args.config.now c.args.ticks _ _ _ _ _ _ _ _ _ (progress_of c.take_some.new.process) (progress_of c.take_some-in-turns.new.process) c.turns.timer c.read-word.new.self
    c.now-in-turns.result c.read-word.result c.tick.result half c.now-in-turns.ensures c.read-word.ensures.timer c.read-word.ensures.tick c.tick.ensures.value c.in_ok-take_some-2.ensures.step in
    let is = c.idle.ensures in
    ends_turns c.args.config.now c.args.ticks _ _ _ _ _ _ (progress_of c.take_some-in-turns.new.process) c.read-word.new.self whole (omega (arith, is, c.if-idle-eq-MOST_IDLE.true))

pub turns-smaller : goal.turns-smaller
turns-smaller g c =
    let ticks = c.ticks.ensures in
    let few : c.turns.timer.ticks < c.args.ticks = omega (arith, ticks, c.turns-test.true) in
    comes_nearer c.args.ticks c.now-in-turns.result c.turns.timer c.read-word.new.self c.read-word.ensures.timer few c.turns.invariant.4

pub turns-preserved : goal.turns-preserved
turns-preserved g c =
    let ticks = c.ticks.ensures in
    let few : c.turns.timer.ticks < c.args.ticks = omega (arith, ticks, c.turns-test.true) in
    let goes : GoesOn c.args.ticks c.turns.timer = (few, c.turns.invariant.4) in
    let half = half_turn c.args.config.now c.args.ticks _ _ _ _ _ _ _ _ _ (progress_of c.turns.process) (progress_of c.take_some.new.process) c.turns.timer c.in_ok-heard.heard
    c.turns.invariant.0 goes c.in_ok-heard.ensures.hears c.in_ok-take_some.ensures.step in
    let whole = whole_turn c.args.config.now c.args.ticks _ _ _ _ _ _ _ _ _ (progress_of c.take_some.new.process) (progress_of c.take_some-in-turns.new.process) c.turns.timer c.read-word.new.self
    c.now-in-turns.result c.read-word.result c.tick.result half c.now-in-turns.ensures c.read-word.ensures.timer c.read-word.ensures.tick c.tick.ensures.value c.in_ok-take_some-2.ensures.step in
    let one = some_steps (progress_of c.turns.process) (progress_of c.take_some.new.process) _ _ _ _ c.in_ok-heard.heard c.in_ok-take_some.ensures.step in
    let two = some_steps (progress_of c.take_some.new.process) (progress_of c.take_some-in-turns.new.process) _ _ _ _ c.tick.result c.in_ok-take_some-2.ensures.step in
    let bounds = bounds_next c.args.ticks c.now-in-turns.result c.turns.process.steps c.take_some.new.process.steps c.take_some-in-turns.new.process.steps c.turns.timer c.read-word.new.self c.read-word.ensures.timer
    (record { steps_few = c.turns.invariant.2; ticks_few = c.turns.invariant.3 }) few c.turns.invariant.4 one two in
    let idle = idle_next c.now-in-turns.result c.turns.timer c.read-word.new.self c.read-word.ensures.timer c.turns.invariant.4 in
    let is = c.idle.ensures in (
      whole,
      c.in_ok-take_some-2.ensures.counted,
      bounds.steps_few,
      bounds.ticks_few,
      omega (arith, is, idle, c.if-idle-eq-MOST_IDLE.false),
      c.turns.invariant.5,
      c.take_some-in-turns.ensures.faults ∙ c.take_some.ensures.faults ∙ c.in_ok-heard.ensures.cause ∙ c.turns.invariant.6,
      whole.has.faults,
    )

pub returns-clause-runs : goal.returns-clause-runs
returns-clause-runs g c =
    let ticks = c.ticks.ensures in
    ends_done c.args.config.now c.args.ticks _ _ _ _ _ _ (progress_of c.turns.process) c.turns.timer c.turns.invariant.0 (omega (arith, ticks, c.turns-test.false, c.turns.invariant.3))
