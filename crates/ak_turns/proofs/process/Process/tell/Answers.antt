use Rattle.std.proofs.Common.{◌≡◌, ◌+◌, List, length, ap, sym, subst, arith}
use Rattle.std.proofs.lemmas.Result.{err_from_is_err_and}
use Rattle.ak_node.specs.Sends.{AreValid}
use Rattle.ak_wire.specs.declared.action.Action.{Action}
use Rattle.ak_wire.specs.Wire.{sent}
use Rattle.ak_wire.proofs.Sending.{sent_most}
use Rattle.ak_turns.proofs.Counting.{outcome_counts, step_unsent}
use Rattle.ak_turns.proofs.process.Process.tell.Goals as goal

pub returns-in_err-print_head-clause-step : goal.returns-in_err-print_head-clause-step
returns-in_err-print_head-clause-step g c =
    let p = err_from_is_err_and c.from_residual.result c.from_residual.ensures.1 in
    step_unsent c.from_residual.result p.0 c.args.happening.now _ _ _ _ _ p.1

pub returns-in_err-actions-clause-step : goal.returns-in_err-actions-clause-step
returns-in_err-actions-clause-step g c =
    let p = err_from_is_err_and c.from_residual-in_err-actions.result c.from_residual-in_err-actions.ensures.1 in
    step_unsent c.from_residual-in_err-actions.result p.0 c.args.happening.now _ _ _ _ _ p.1

pub tell_all-requires-clause-valid : goal.tell_all-requires-clause-valid
tell_all-requires-clause-valid g c = subst (λ (xs : List Action). AreValid xs) (sym c.as_slice.ensures) c.in_ok-actions.ensures.valid

pub tell_all-requires-clause-number : goal.tell_all-requires-clause-number
tell_all-requires-clause-number g c =
    let most = sent_most c.as_slice.result.now in
    let asked = c.requires.counted.sends in
    let steps = c.requires.steps in
    omega (arith, most, asked, steps)

pub returns-clause-counted : goal.returns-clause-counted
returns-clause-counted g c =
    let most = sent_most c.as_slice.result.now in
    let asked = c.requires.counted.sends in
    let after : c.in_ok-after.after ≡ c.args.self.now.asked + 1 + length (sent c.as_slice.result.now) = c.in_ok-after.ensures.tells.2 in
    let counts = outcome_counts c.args.happening.now c.args.self.now.node.state in
    let before = c.requires.counted.node_steps in
    let is = ap (λ s. s.steps) c.in_ok-actions.ensures.does.state_after in
    record { node_steps = omega (arith, counts, before, is); sends = omega (arith, most, asked, after) }
