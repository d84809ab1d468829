use Rattle.std.proofs.Common.{sym, subst}
use Rattle.ak_gossip.specs.Parts.{AreParts}
use Rattle.ak_gossip.proofs.PartsLaws.{valid_parts}
use Rattle.ak_wire.proofs.writing.write_gossip.Goals as goal

pub write_parts-requires : goal.write_parts-requires
write_parts-requires c = subst AreParts (sym c.requires) (valid_parts c.args.gossip.now c.invariant.ensures)
