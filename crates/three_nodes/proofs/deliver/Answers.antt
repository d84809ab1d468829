use Rattle.ak_wire.proofs.DatagramFields.{spelled_valid}
use Rattle.three_nodes.proofs.deliver.Goals as goal

-- what is read in any version of the format has a spelling in the one that is written
pub give-requires : goal.give-requires
give-requires g c = spelled_valid c.args.bytes.now c.in-Ok.packet c.in-Ok.ensures.spelled
