use Rattle.std.proofs.Common.{[], is_some, length, get_or, true≢false, sym, ap, ◌∙◌, arith}
use Rattle.std.proofs.lemmas.Option.{get_or_from_slice_get, slice_get-get_or}
use Rattle.ak_shard_id.specs.Division.{shard_in}
use Rattle.ak_region.specs.Slot.{untold, receives}
use Rattle.ak_region.specs.RegionModel.{Message}
use Rattle.ak_region.specs.Stored.{all_slots}
use Rattle.ak_region.proofs.StoredLemmas.{all_length, at_all}
use Rattle.ak_region.proofs.WantedLemmas.{served_wants_nothing, unserved_wants}
use Rattle.ak_region.proofs.buffer.any_wanted.Goals as goal
use Rattle.ak_region.proofs.buffer.any_wanted.Goals.{in-Some+else-not-receives_at, in_default}

pub returns-then-not-receives_at-clause-some : goal.returns-then-not-receives_at-clause-some
returns-then-not-receives_at-clause-some c = λ _ none.
    let slots = all_slots c.args.shards c.args.told.now in
    let many = all_length c.args.shards c.args.told.now c.requires.told in
    let messages = c.args.buffer.now.items in
    let d = c.in-Some.waiting.now in
    let at = c.shard_in-shard.ensures.is ∙ ap (shard_in c.args.division.now) (c.bytes.ensures ∙ ap (λ (m : Message). m.entity) c.waiting.view_is ∙ ap (λ (m : Message). m.entity) (sym (get_or_from_slice_get messages c.messages.index d d (sym c.in-Some.ensures)))) in
    unserved_wants c.args.division.now slots messages c.messages.index d (omega arith) (ap (λ n. receives (get_or slots n untold)) (sym at) ∙ ap receives (at_all c.args.shards c.args.told.now c.shard_in-shard.result) ∙ sym c.receives_at.ensures ∙ c.if-not-receives_at.true) (c.messages.invariant ∙ none)

pub messages-preserved : goal.messages-preserved
messages-preserved c = elim c.match-get.branch [
  | in-Some+else-not-receives_at w ↦
      let slots = all_slots c.args.shards c.args.told.now in
      let many = all_length c.args.shards c.args.told.now c.requires.told in
      let messages = c.args.buffer.now.items in
      let d = w.in-Some.waiting.now in
      let at = w.shard_in-shard.ensures.is ∙ ap (shard_in c.args.division.now) (w.bytes.ensures ∙ ap (λ (m : Message). m.entity) w.waiting.view_is ∙ ap (λ (m : Message). m.entity) (sym (get_or_from_slice_get messages c.messages.index d d (sym w.in-Some.ensures)))) in
      served_wants_nothing c.args.division.now slots messages c.messages.index d (omega arith) (ap (λ n. receives (get_or slots n untold)) (sym at) ∙ ap receives (at_all c.args.shards c.args.told.now w.shard_in-shard.result) ∙ sym w.receives_at.ensures ∙ w.if-not-receives_at.false) ∙ c.messages.invariant
  | in_default w ↦
      let d : Message = record { entity = []; payload = 0 } in
      absurd (true≢false (sym (ap is_some (w.in_default.ensures ∙ slice_get-get_or c.args.buffer.now.items c.messages.index d (omega arith)))))
]
