use Rattle.std.proofs.Common.{◌++◌, ◌+◌, drop, append_assoc, append-nil, sym, ap, ◌∙◌, arith}
use Rattle.std.specs.FinMap as map
use Rattle.ak_member.proofs.MemberLemmas.{kept_pair, kept_at_end}
use Rattle.ak_coordinator.specs.Homes.{loads_counted}
use Rattle.ak_coordinator.proofs.LoadLemmas.{keeps_counted}
use Rattle.ak_coordinator.proofs.loads.loads_by.Goals as goal

pub pairs-preserved : goal.pairs-preserved
pairs-preserved c =
    let kept = loads_counted c.args.counts.now c.args.granted.now in
    let keeps = keeps_counted c.args.counts.now c.args.granted.now in
    let pairs = map.entries c.args.members.now in
    ap (λ l. l ++ kept (drop (c.pairs.pair + 1) pairs)) c.in_ok-push_load.ensures
    ∙ append_assoc c.pairs.loads.items _ _
    ∙ ap (λ l. c.pairs.loads.items ++ l) (sym (kept_pair kept keeps pairs c.pairs.pair c.in_ok-load.load c.in_ok-load.ensures))
    ∙ c.pairs.invariant

pub returns : goal.returns
returns c =
    let kept = loads_counted c.args.counts.now c.args.granted.now in
    let keeps = keeps_counted c.args.counts.now c.args.granted.now in
    let pairs = map.entries c.args.members.now in
    sym (append-nil c.pairs.loads.items)
    ∙ ap (λ l. c.pairs.loads.items ++ l) (sym (kept_at_end kept keeps pairs c.pairs.pair (let past = map.len-entries c.args.members.now in omega arith)))
    ∙ c.pairs.invariant
