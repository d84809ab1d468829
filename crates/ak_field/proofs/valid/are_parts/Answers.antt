use Rattle.ak_field.proofs.ValidLists.{are_parts_when}
use Rattle.ak_field.proofs.valid.are_parts.Goals as goal

pub returns : goal.returns
returns c = are_parts_when c.args.list.now c.have_processes.result (c.parts_valid.ensures.0 c.if-not-parts_valid.false) c.have_processes.ensures
