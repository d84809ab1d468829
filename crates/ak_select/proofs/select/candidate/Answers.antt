use Rattle.std.proofs.Common.{◌+◌, drop, slice_get, option_copied, sym, ap, ◌∙◌, arith}
use Rattle.std.specs.FinMap as map
use Rattle.ak_member.specs.View.{View}
use Rattle.ak_member.proofs.MemberLemmas.{wanted_here, wanted_later, wanted_past, none_left}
use Rattle.ak_select.specs.Walk.{candidates_among}
use Rattle.ak_select.proofs.SelectLemmas.{keeps_candidates}
use Rattle.ak_select.proofs.select.candidate.Goals as goal
use Rattle.ak_select.proofs.select.candidate.Goals.{then-is_some+else-left-eq0, else-is_some}

pub returns-then-left-eq0 : goal.returns-then-left-eq0
returns-then-left-eq0 c =
    let v : View = record { standings = c.args.members.now; rows = c.args.rows.now } in
    let seen = option_copied c.args.seen in
    wanted_here (candidates_among v c.args.me.now seen) (keeps_candidates v c.args.me.now seen) (λ who. who.now) c.candidate_at_pair-found.result (map.entries c.args.members.now) c.pairs.pair c.pairs.left _ (sym (c.if-is_some.ensures {u = tt})) c.if-left-eq0.true c.candidate_at_pair-found.ensures c.pairs.invariant

pub pairs-preserved : goal.pairs-preserved
pairs-preserved c =
    let v : View = record { standings = c.args.members.now; rows = c.args.rows.now } in
    let seen = option_copied c.args.seen in
    let kept = candidates_among v c.args.me.now seen in
    let keeps = keeps_candidates v c.args.me.now seen in
    let pairs = map.entries c.args.members.now in
    let wanted = slice_get (kept pairs) c.args.index in
    elim c.if-is_some.branch [
      | then-is_some+else-left-eq0 w ↦ ap (slice_get (kept (drop (c.pairs.pair + 1) pairs))) w.left-is ∙ wanted_later kept keeps (λ who. who.now) c.candidate_at_pair-found.result pairs c.pairs.pair c.pairs.left wanted (sym (w.if-is_some.ensures {u = tt})) w.if-left-eq0.false c.candidate_at_pair-found.ensures c.pairs.invariant
      | else-is_some w ↦ ap (slice_get (kept (drop (c.pairs.pair + 1) pairs))) w.left-is ∙ wanted_past kept keeps (λ who. who.now) c.candidate_at_pair-found.result pairs c.pairs.pair c.pairs.left wanted (sym (w.if-is_some.ensures {u = tt})) c.candidate_at_pair-found.ensures c.pairs.invariant
    ]

pub returns : goal.returns
returns c =
    let v : View = record { standings = c.args.members.now; rows = c.args.rows.now } in
    let seen = option_copied c.args.seen in
    none_left (candidates_among v c.args.me.now seen) (keeps_candidates v c.args.me.now seen) (map.entries c.args.members.now) c.pairs.pair c.pairs.left _ (let past = map.len-entries c.args.members.now in omega arith) c.pairs.invariant
