use Rattle.std.proofs.Common.{◌||◌, ◌==◌, [], true, false, length, length-set, get_or, is_some, true≢false, ◌<◌, sym, ap, ◌∙◌, subst, arith}
use Rattle.std.specs.List.{list_any}
use Rattle.std.proofs.lemmas.Option.{get_or_from_slice_get, slice_get-get_or}
use Rattle.ak_shard_id.specs.Division.{shard_in}
use Rattle.ak_region.specs.Slot.{untold, receives}
use Rattle.ak_region.specs.RegionModel.{Message}
use Rattle.ak_region.specs.Stored.{all_slots}
use Rattle.ak_region.proofs.StoredLemmas.{all_length}
use Rattle.ak_region.proofs.WantedLemmas.{noted_passed, noted_found}
use Rattle.ak_region.proofs.buffer.wanted_in.Goals as goal
use Rattle.ak_region.proofs.buffer.wanted_in.Goals.{in-Some+in_ok-note, in_default}

pub messages-preserved : goal.messages-preserved
messages-preserved c = elim c.match-get.branch [
  | in-Some+in_ok-note w ↦
      let slots = all_slots c.args.shards c.args.told.now in
      let many = all_length c.args.shards c.args.told.now c.requires.told in
      let messages = c.args.buffer.now.items in
      let d = w.in-Some.waiting.now in
      let shard = w.shard_in-shard.result in
      let passed_is = ap (λ v. v.items) w.passed-is ∙ w.in_ok-note.ensures.passed in
      let wanted_is = ap (λ v. v.items) w.wanted-is ∙ w.in_ok-note.ensures.wanted in
      let at = w.shard_in-shard.ensures.is ∙ ap (shard_in c.args.division.now) (w.bytes.ensures ∙ ap (λ (m : Message). m.entity) w.waiting.view_is ∙ ap (λ (m : Message). m.entity) (sym (get_or_from_slice_get messages c.messages.index d d (sym w.in-Some.ensures)))) in
      let below = subst (λ n. shard < n) (sym (many ∙ c.requires.all)) w.shard_in-shard.ensures.below in
      let i = c.messages.invariant in
      record {
        many = ap length passed_is ∙ length-set c.messages.passed.items shard true ∙ i.many;
        passed = λ s lt. ap (λ l. get_or l s false) passed_is
            ∙ noted_passed slots c.messages.passed.items c.messages.wanted.items shard i.many below i.passed s lt
            ∙ ap (λ l. receives (get_or slots s untold) || list_any (λ n. n == s) l) (sym wanted_is);
        found = wanted_is ∙ noted_found c.args.division.now slots messages c.messages.index d c.messages.passed.items c.messages.wanted.items shard (omega arith) at below i.passed i.found;
      }
  | in_default w ↦
      let d : Message = record { entity = []; payload = 0 } in
      absurd (true≢false (sym (ap is_some (w.in_default.ensures ∙ slice_get-get_or c.args.buffer.now.items c.messages.index d (omega arith)))))
]
