use Rattle.std.proofs.Common.{[], ◌++◌, ap, ◌∙◌, arith}
use Rattle.std.proofs.lemmas.Result.{err_from_is_err_and}
use Rattle.ak_region.specs.RegionModel.{Message}
use Rattle.ak_region.specs.Turns.{turn_gone}
use Rattle.ak_region.proofs.EmptyLemmas.{those_gone}
use Rattle.ak_region.proofs.WalkLemmas.{next_gone, next_left}
use Rattle.ak_region.proofs.buffer.take_those_for.Goals as goal

pub turns-preserved : goal.turns-preserved
turns-preserved c =
    let d : Message = record { entity = []; payload = 0 } in
    let n = c.args.division.now in
    let s = c.args.shard in
    let xs = c.args.buffer.now.items in
    let i = c.turns.invariant in
    record {
      gone = c.in_ok-turn.ensures.gone ∙ ap (λ l. l ++ turn_gone n s c.turns.buffer.items) i.gone ∙ next_gone n s c.turns._turn xs c.turns.buffer.items d (omega arith) i.left;
      left = c.in_ok-turn.ensures.left ∙ next_left n s c.turns._turn xs c.turns.buffer.items d (omega arith) i.left;
      shorter = omega (arith, i.shorter, c.in_ok-turn.ensures.shorter);
      within = rw c.in_ok-turn.ensures.capacity (omega (arith, i.within, c.in_ok-turn.ensures.shorter));
    }

pub returns-in_err-turn-clause-memory : goal.returns-in_err-turn-clause-memory
returns-in_err-turn-clause-memory c =
    let d : Message = record { entity = []; payload = 0 } in
    let p = err_from_is_err_and c.from_residual.result c.from_residual.ensures.1 in
    rw p.1 (those_gone c.args.division.now c.args.shard c.turns._turn c.args.buffer.now.items c.turns.buffer.items d (omega arith) c.turns.invariant.left c.in_err-turn.ensures.memory)
