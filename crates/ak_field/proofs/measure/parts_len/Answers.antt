use Rattle.ak_field.proofs.Written.{part_fits}
use Rattle.ak_field.proofs.measure.parts_len.Goals as goal

pub each_part_len-requires-clause-subjects : goal.each_part_len-requires-clause-subjects
each_part_len-requires-clause-subjects c = part_fits c.args.list.now c.requires
