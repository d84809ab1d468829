use Rattle.std.proofs.Common.{sym, arith}
use Rattle.std.specs.FinMap as map
use Rattle.ak_gossip.proofs.SeenLemmas.{not_none}
use Rattle.ak_field.specs.Spelling.{counted}
use Rattle.ak_field.proofs.Written.{goes_on, is_done}
use Rattle.ak_field.proofs.write_lists.write_counts.Goals as goal
use Rattle.ak_field.proofs.write_lists.write_counts.Goals.{in-Some+in_ok-write_counted, in_default}

pub counts-preserved : goal.counts-preserved
counts-preserved c = elim c.match-at.branch [
  | in-Some+in_ok-write_counted w ↦
      goes_on counted (map.entries c.args.counts.now) c.args.out.now.items c.counts.index c.counts.out.items c.match-at.out.items (w.in-Some.who.now, w.in-Some.count)
      (sym w.in-Some.ensures.pair) (rw w.out-is w.in_ok-write_counted.ensures) c.counts.invariant
  | in_default w ↦
      absurd (not_none (map.entries c.args.counts.now) c.counts.index (omega (arith, c.len-index-end.ensures, map.len-entries c.args.counts.now)) (sym w.in_default.ensures.pair))
]

pub returns : goal.returns
returns c =
    is_done counted (map.entries c.args.counts.now) c.args.out.now.items c.counts.index c.counts.out.items (omega (arith, c.len-index-end.ensures, map.len-entries c.args.counts.now)) c.counts.invariant
