use Rattle.std.proofs.lemmas.Option.{slice_get_within}
use Rattle.ak_member.specs.Slots.{standings_of}
use Rattle.ak_member.proofs.MergeLemmas.{noted_same}
use Rattle.ak_member.proofs.merging.note_known.Goals as goal

pub set-requires : goal.set-requires
set-requires c = let e = c.in-Some.ensures in slice_get_within c.args.slots.now.entries c.in-Some.slot (c.args.who.now, e.0) e.1

pub returns-then-has_standing-clause-after : goal.returns-then-has_standing-clause-after
returns-then-has_standing-clause-after c =
    let e = c.in-Some.ensures in
    noted_same (standings_of c.args.slots.now.entries) c.args.who.now e.0 c.args.standing c.with_known-merged.result e.2 (c.with_known-merged.ensures c.args.who.now e.0 e.1) (c.has_standing.ensures c.if-has_standing.true c.args.who.now e.0 e.1)
