use Rattle.std.proofs.Common.{◌+◌, arith}
use Rattle.std.specs.FinMap as map
use Rattle.ak_address.proofs.TableLemmas.{place_in_range}
use Rattle.ak_detector.proofs.RingLaws.{side_before, side_after, sides_there, sides_nowhere}
use Rattle.ak_detector.proofs.ring.sides.Goals as goal

pub overflow_add-result : goal.overflow_add-result
overflow_add-result c = omega (arith, place_in_range c.args.members.now c.args.me.now c.in-Ok.place c.in-Ok.ensures, c.requires, c.ranges.end.fits)

pub returns-in-Ok-clause-before : goal.returns-in-Ok-clause-before
returns-in-Ok-clause-before c =
    let s = c.args.members.now in
    side_before c.args.me.now (map.entries s) c.in-Ok.place (c.in-Ok.place + 1) (sides_there c.args.me.now (map.entries s) c.in-Ok.place (map.entries_sorted s) c.in-Ok.ensures)

pub returns-in-Ok-clause-after : goal.returns-in-Ok-clause-after
returns-in-Ok-clause-after c =
    let s = c.args.members.now in
    side_after c.args.me.now (map.entries s) c.in-Ok.place (c.in-Ok.place + 1) (sides_there c.args.me.now (map.entries s) c.in-Ok.place (map.entries_sorted s) c.in-Ok.ensures)

pub returns-in-Err-clause-before : goal.returns-in-Err-clause-before
returns-in-Err-clause-before c =
    let s = c.args.members.now in
    side_before c.args.me.now (map.entries s) c.in-Err.place c.in-Err.place (sides_nowhere c.args.me.now (map.entries s) c.in-Err.place (map.entries_sorted s) c.in-Err.ensures)

pub returns-in-Err-clause-after : goal.returns-in-Err-clause-after
returns-in-Err-clause-after c =
    let s = c.args.members.now in
    side_after c.args.me.now (map.entries s) c.in-Err.place c.in-Err.place (sides_nowhere c.args.me.now (map.entries s) c.in-Err.place (map.entries_sorted s) c.in-Err.ensures)
