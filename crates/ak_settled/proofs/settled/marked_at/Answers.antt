use Rattle.std.proofs.Common.{◌+◌, drop, slice_get, sym, ap, ◌∙◌, arith}
use Rattle.std.specs.FinMap as map
use Rattle.ak_member.proofs.MemberLemmas.{wanted_here, wanted_later, wanted_past, none_left}
use Rattle.ak_settled.specs.Ticks.{marked_pairs, marked}
use Rattle.ak_settled.proofs.SettledLemmas.{keeps_marked}
use Rattle.ak_settled.proofs.settled.marked_at.Goals as goal
use Rattle.ak_settled.proofs.settled.marked_at.Goals.{then-is_some+else-left-eq0, else-is_some}

pub returns-then-left-eq0 : goal.returns-then-left-eq0
returns-then-left-eq0 c =
    wanted_here marked_pairs keeps_marked (λ u. u.now) c.marked_in_pair-found.result (map.entries c.args.counters.now) c.pairs.pair c.pairs.left _ (sym (c.if-is_some.ensures {u = tt})) c.if-left-eq0.true c.marked_in_pair-found.ensures c.pairs.invariant

pub pairs-preserved : goal.pairs-preserved
pairs-preserved c =
    let pairs = map.entries c.args.counters.now in
    let wanted = slice_get (marked c.args.counters.now) c.args.index in
    elim c.if-is_some.branch [
      | then-is_some+else-left-eq0 w ↦ ap (slice_get (marked_pairs (drop (c.pairs.pair + 1) pairs))) w.left-is ∙ wanted_later marked_pairs keeps_marked (λ u. u.now) c.marked_in_pair-found.result pairs c.pairs.pair c.pairs.left wanted (sym (w.if-is_some.ensures {u = tt})) w.if-left-eq0.false c.marked_in_pair-found.ensures c.pairs.invariant
      | else-is_some w ↦ ap (slice_get (marked_pairs (drop (c.pairs.pair + 1) pairs))) w.left-is ∙ wanted_past marked_pairs keeps_marked (λ u. u.now) c.marked_in_pair-found.result pairs c.pairs.pair c.pairs.left wanted (sym (w.if-is_some.ensures {u = tt})) c.marked_in_pair-found.ensures c.pairs.invariant
    ]

pub returns : goal.returns
returns c = none_left marked_pairs keeps_marked (map.entries c.args.counters.now) c.pairs.pair c.pairs.left _ (let past = map.len-entries c.args.counters.now in omega arith) c.pairs.invariant
