use Rattle.std.proofs.Common.{[]}
use Rattle.ak_generate.specs.Generator.{seeded}
use Rattle.ak_world.specs.World.{empty_world}
use Rattle.ak_sweeps.proofs.GeneratedRuns.{reached_start, some_rest, one_rest}
use Rattle.ak_sweeps.proofs.LineLaws.{some_line, one_line, some_list, one_list}
use Rattle.ak_sweeps.proofs.laws.each_seed_has_one_line.Goals as goal

pub returns : goal.returns
returns c = record {
  run = λ seed most. some_rest most (seeded seed) empty_world [] (reached_start seed);
  one_run = λ seed most. one_rest most (seeded seed) empty_world;
  line = some_line;
  one_line = one_line;
  lines = λ first count most. some_list count first most;
  one_list = λ first count most. one_list count first most;
}
