use Rattle.std.proofs.Common.{length, arith}
use Rattle.std.specs.FinMap as map
use Rattle.ak_member.specs.Standing.{tombstone_pairs}
use Rattle.ak_member.proofs.MemberLemmas.{counted_more, all_counted, keeps_tombstones, one_there, none_there}
use Rattle.ak_member.proofs.members.tombstones_in.Goals as goal
use Rattle.ak_member.proofs.members.tombstones_in.Goals.{then-is_some, else-is_some}

pub pairs-preserved : goal.pairs-preserved
pairs-preserved c =
    let next = counted_more tombstone_pairs keeps_tombstones (λ t. (t.unique.now, t.confirmed)) c.tombstone_at.result (map.entries c.args.members.now) c.pairs.pair c.pairs.count (length (tombstone_pairs (map.entries c.args.members.now))) c.tombstone_at.ensures c.pairs.invariant.so_far in
    elim c.if-is_some.branch [
      | then-is_some w ↦ let one = one_there c.tombstone_at.result (w.if-is_some.ensures {u = tt}) in record { few = omega arith; so_far = omega arith }
      | else-is_some w ↦ let none = none_there c.tombstone_at.result (w.if-is_some.ensures {u = tt}) in record { few = omega arith; so_far = omega arith }
    ]

pub returns : goal.returns
returns c =
    all_counted tombstone_pairs keeps_tombstones (map.entries c.args.members.now) c.pairs.pair c.pairs.count _ (let past = map.len-entries c.args.members.now in omega arith) c.pairs.invariant.so_far
