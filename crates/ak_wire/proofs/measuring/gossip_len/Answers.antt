use Rattle.std.proofs.Common.{sym, subst}
use Rattle.ak_gossip.specs.Parts.{AreParts}
use Rattle.ak_gossip.proofs.PartsLaws.{valid_parts}
use Rattle.ak_wire.proofs.measuring.gossip_len.Goals as goal

pub parts_len-requires : goal.parts_len-requires
parts_len-requires c = subst AreParts (sym c.requires) (valid_parts c.args.gossip.now c.invariant.ensures)
