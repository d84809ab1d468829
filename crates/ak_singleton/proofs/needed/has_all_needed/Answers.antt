use Rattle.std.proofs.Common.{ap, ◌∙◌, arith}
use Rattle.std.specs.FinMap as map
use Rattle.ak_settled.specs.Settled.{standings_of}
use Rattle.ak_singleton.proofs.NeededLemmas.{somebody_else, nobody_more, nobody_else}
use Rattle.ak_singleton.proofs.needed.has_all_needed.Goals as goal

pub returns-in-Some : goal.returns-in-Some
returns-in-Some c = somebody_else c.args.margin c.args.settled.now.view c.args.these.now c.pairs.pair c.in-Some._who.now c.in-Some.ensures c.pairs.invariant

pub pairs-preserved : goal.pairs-preserved
pairs-preserved c = nobody_more c.args.margin c.args.settled.now.view c.args.these.now c.pairs.pair c.in_default.ensures c.pairs.invariant

pub returns : goal.returns
returns c =
    let past = map.len-entries (standings_of c.args.settled.now.view) in
    let many = c.uniques-pair-end.ensures ∙ ap (λ s. map.len s) c.members.ensures in
    nobody_else c.args.margin c.args.settled.now.view c.args.these.now c.pairs.pair (omega arith) c.pairs.invariant
