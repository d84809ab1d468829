use Rattle.std.proofs.Common.{arith}
use Rattle.std.specs.FinMap as map
use Rattle.std.proofs.lemmas.Option.{slice_get_within}
use Rattle.ak_wire.proofs.checking.processes.Goals as goal

pub returns : goal.returns
returns c i pair at =
    let es = map.entries c.args.members.now in
    c.members.invariant i pair (omega (arith, slice_get_within es i pair at, c.members-test.false, c.uniques-index-end.ensures, map.len-entries c.args.members.now)) at
