use Rattle.std.proofs.Common.{◌≡◌, set, arith, sym, ap, ◌∙◌}
use Rattle.std.proofs.lemmas.List.{nil_from_length, set-get_or}
use Rattle.ak_address.proofs.Failing.{on_err}
use Rattle.ak_member.specs.Standing.{tombstones_of}
use Rattle.ak_shard_id.proofs.Walks.{written}
use Rattle.ak_coordinator.specs.Entry.{unplaced}
use Rattle.ak_coordinator.specs.Tick.{noticed}
use Rattle.ak_coordinator.proofs.TickLemmas.{none_noticed}
use Rattle.ak_coordinator.proofs.RoomLemmas.{waited_at}
use Rattle.ak_coordinator.proofs.tick.notice_each.Goals as goal

pub returns-in_err-notice-clause-lost : goal.returns-in_err-notice-clause-lost
returns-in_err-notice-clause-lost c =
    let at = c.shards.shard in
    let same : set c.shards.entries at c.notice.new.self ≡ c.shards.entries = ap (set c.shards.entries at) (c.in_err-notice.ensures.err ∙ c.at_mut.ensures.value) ∙ set-get_or c.shards.entries at unplaced in
    on_err c.from_residual.result (at, omega arith, same ∙ c.shards.invariant)

pub shards-preserved : goal.shards-preserved
shards-preserved c =
    written (noticed c.args.margin c.args.settled.now.view) _ c.shards.shard c.shards.entries unplaced _ (omega arith) c.shards.invariant (c.in_ok-notice.ensures.ok ∙ ap (noticed c.args.margin c.args.settled.now.view) c.at_mut.ensures.value)

pub returns-then-buried_len-eq0-clause-ok : goal.returns-then-buried_len-eq0-clause-ok
returns-then-buried_len-eq0-clause-ok c =
    let none = nil_from_length (tombstones_of c.members.result.now) (sym c.buried_len.ensures ∙ c.if-buried_len-eq0.true) in
    none_noticed c.args.margin c.args.settled.now.view c.args.entries.now (ap tombstones_of (sym c.members.ensures) ∙ none)

-- where it fails, nodes are still waited for
pub returns-in_err-notice-clause-memory : goal.returns-in_err-notice-clause-memory
returns-in_err-notice-clause-memory c =
    on_err c.from_residual.result (waited_at c.args.margin c.args.settled.now.view c.args.entries.now c.shards.entries c.shards.shard unplaced (omega arith) c.shards.invariant (λ none. c.in_err-notice.ensures.memory (ap (λ e. (noticed c.args.margin c.args.settled.now.view e).waits) c.at_mut.ensures.value ∙ none)))
