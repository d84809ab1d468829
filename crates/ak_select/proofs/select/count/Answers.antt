use Rattle.std.proofs.Common.{length, option_copied, arith}
use Rattle.std.specs.FinMap as map
use Rattle.ak_member.specs.View.{View}
use Rattle.ak_member.proofs.MemberLemmas.{counted_more, all_counted, one_there, none_there}
use Rattle.ak_select.specs.Walk.{candidates_among}
use Rattle.ak_select.proofs.SelectLemmas.{keeps_candidates}
use Rattle.ak_select.proofs.select.count.Goals as goal
use Rattle.ak_select.proofs.select.count.Goals.{then-is_some, else-is_some}

pub pairs-preserved : goal.pairs-preserved
pairs-preserved c =
    let v : View = record { standings = c.args.members.now; rows = c.args.rows.now } in
    let seen = option_copied c.args.seen in
    let next = counted_more (candidates_among v c.args.me.now seen) (keeps_candidates v c.args.me.now seen) (λ who. who.now) c.candidate_at_pair.result (map.entries c.args.members.now) c.pairs.pair c.pairs.count (length (candidates_among v c.args.me.now seen (map.entries c.args.members.now))) c.candidate_at_pair.ensures c.pairs.invariant.so_far in
    elim c.if-is_some.branch [
      | then-is_some w ↦ let one = one_there c.candidate_at_pair.result (w.if-is_some.ensures {u = tt}) in record { few = omega arith; so_far = omega arith }
      | else-is_some w ↦ let none = none_there c.candidate_at_pair.result (w.if-is_some.ensures {u = tt}) in record { few = omega arith; so_far = omega arith }
    ]

pub returns : goal.returns
returns c =
    let v : View = record { standings = c.args.members.now; rows = c.args.rows.now } in
    let seen = option_copied c.args.seen in
    all_counted (candidates_among v c.args.me.now seen) (keeps_candidates v c.args.me.now seen) (map.entries c.args.members.now) c.pairs.pair c.pairs.count _ (let past = map.len-entries c.args.members.now in omega arith) c.pairs.invariant.so_far
