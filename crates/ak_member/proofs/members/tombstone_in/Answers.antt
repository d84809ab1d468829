use Rattle.std.proofs.Common.{◌+◌, drop, slice_get, sym, ap, ◌∙◌, arith}
use Rattle.std.specs.FinMap as map
use Rattle.ak_member.specs.Standing.{tombstone_pairs}
use Rattle.ak_member.proofs.MemberLemmas.{wanted_here, wanted_later, wanted_past, none_left, keeps_tombstones}
use Rattle.ak_member.proofs.members.tombstone_in.Goals as goal
use Rattle.ak_member.proofs.members.tombstone_in.Goals.{then-is_some+else-left-eq0, else-is_some}

pub returns-then-left-eq0 : goal.returns-then-left-eq0
returns-then-left-eq0 c =
    wanted_here tombstone_pairs keeps_tombstones (λ t. (t.unique.now, t.confirmed)) c.tombstone_at-found.result (map.entries c.args.members.now) c.pairs.pair c.pairs.left _ (sym (c.if-is_some.ensures {u = tt})) c.if-left-eq0.true c.tombstone_at-found.ensures c.pairs.invariant

pub pairs-preserved : goal.pairs-preserved
pairs-preserved c =
    let pairs = map.entries c.args.members.now in
    let wanted = slice_get (tombstone_pairs pairs) c.args.index in
    elim c.if-is_some.branch [
      | then-is_some+else-left-eq0 w ↦ ap (slice_get (tombstone_pairs (drop (c.pairs.pair + 1) pairs))) w.left-is ∙ wanted_later tombstone_pairs keeps_tombstones (λ t. (t.unique.now, t.confirmed)) c.tombstone_at-found.result pairs c.pairs.pair c.pairs.left wanted (sym (w.if-is_some.ensures {u = tt})) w.if-left-eq0.false c.tombstone_at-found.ensures c.pairs.invariant
      | else-is_some w ↦ ap (slice_get (tombstone_pairs (drop (c.pairs.pair + 1) pairs))) w.left-is ∙ wanted_past tombstone_pairs keeps_tombstones (λ t. (t.unique.now, t.confirmed)) c.tombstone_at-found.result pairs c.pairs.pair c.pairs.left wanted (sym (w.if-is_some.ensures {u = tt})) c.tombstone_at-found.ensures c.pairs.invariant
    ]

pub returns : goal.returns
returns c = none_left tombstone_pairs keeps_tombstones (map.entries c.args.members.now) c.pairs.pair c.pairs.left _ (let past = map.len-entries c.args.members.now in omega arith) c.pairs.invariant
