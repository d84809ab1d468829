use Rattle.std.proofs.Common.{ap, ◌∙◌, slice_get}
use Rattle.ak_gossip.specs.PartsWalk.{with_process}
use Rattle.ak_gossip.proofs.PartsLemmas.{processes_left}
use Rattle.ak_gossip.proofs.parts.those_at.Goals as goal

pub indices-preserved : goal.indices-preserved
indices-preserved c =
    processes_left c.args.parts.now c.args.indices.now c.indices.index-index c.indices.them c.add_at.new.them _ c.indices-test.true c.indices.invariant
    (c.in_ok-add_at.ensures ∙ ap (λ n. with_process c.indices.them (slice_get c.args.parts.now n)) c.from.ensures)
