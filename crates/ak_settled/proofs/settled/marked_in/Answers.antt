use Rattle.std.proofs.Common.{length, arith}
use Rattle.std.specs.FinMap as map
use Rattle.ak_member.proofs.MemberLemmas.{counted_more, all_counted, one_there, none_there}
use Rattle.ak_settled.specs.Ticks.{marked_pairs, marked}
use Rattle.ak_settled.proofs.SettledLemmas.{keeps_marked}
use Rattle.ak_settled.proofs.settled.marked_in.Goals as goal
use Rattle.ak_settled.proofs.settled.marked_in.Goals.{then-is_some, else-is_some}

pub pairs-preserved : goal.pairs-preserved
pairs-preserved c =
    let next = counted_more marked_pairs keeps_marked (λ who. who.now) c.marked_in_pair.result (map.entries c.args.counters.now) c.pairs.pair c.pairs.count (length (marked c.args.counters.now)) c.marked_in_pair.ensures c.pairs.invariant.so_far in
    elim c.if-is_some.branch [
      | then-is_some w ↦ let one = one_there c.marked_in_pair.result (w.if-is_some.ensures {u = tt}) in record { few = omega arith; so_far = omega arith }
      | else-is_some w ↦ let none = none_there c.marked_in_pair.result (w.if-is_some.ensures {u = tt}) in record { few = omega arith; so_far = omega arith }
    ]

pub returns : goal.returns
returns c = all_counted marked_pairs keeps_marked (map.entries c.args.counters.now) c.pairs.pair c.pairs.count _ (let past = map.len-entries c.args.counters.now in omega arith) c.pairs.invariant.so_far
