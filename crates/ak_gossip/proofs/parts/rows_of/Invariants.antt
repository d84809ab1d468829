use Rattle.std.proofs.Common.{◌≡◌, drop}
use Rattle.std.specs.FinMap as map
use Rattle.ak_address.specs.Uniques.{no_one}
use Rattle.ak_gossip.specs.PartsWalk.{with_indices, with_part_rows}
use Rattle.ak_gossip.proofs.parts.rows_of.Given as goal

-- with the parts that are left it comes to what all come to, and the last subjects are those at their indices
abbrev pub invariant-parts : goal.invariant-parts
invariant-parts l = record {
  rows : with_part_rows l.parts l.rows (drop l.part-index l.parts) ≡ with_part_rows l.parts map.empty l.parts;
  last : l.last.them ≡ with_indices l.parts no_one l.last.indices.now;
}
