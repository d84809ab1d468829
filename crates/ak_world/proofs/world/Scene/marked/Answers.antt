use Rattle.std.proofs.Common.{◌≡◌, length, sym, ap, ◌∙◌, arith}
use Rattle.ak_world.specs.WorldContracts.{states}
use Rattle.ak_world.proofs.MarginRuns.{end_within}
use Rattle.ak_world.proofs.WorldLemmas.{length-states}
use Rattle.ak_world.proofs.world.Scene.marked.Goals as goal

pub number_of-requires : goal.number_of-requires
number_of-requires c =
    let same : length c.deref.result.now ≡ length c.args.self.now.nodes.items = ap length c.deref.ensures.value in
    let within = end_within (states c.deref.result.now) c.as_slice.result.now c.in-Some-first_end.index (sym c.first_end.ensures ∙ c.in-Some-first_end.is) in
    omega (arith, within, length-states c.deref.result.now, same, c.requires)
