use Rattle.ak_field.proofs.Written.{part_fits}
use Rattle.ak_field.proofs.write_lists.write_parts.Goals as goal

pub write_each_part-requires : goal.write_each_part-requires
write_each_part-requires c = part_fits c.args.list.now c.requires
