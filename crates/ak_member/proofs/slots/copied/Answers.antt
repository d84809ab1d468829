use Rattle.std.proofs.Common.{sym, ap, ◌∙◌}
use Rattle.std.specs.HashMap.{HashMap}
use Rattle.indexmap.specs.IndexMap.{insert_entry}
use Rattle.ak_address.specs.Unique.{UniqueModel}
use Rattle.ak_member.proofs.SlotLemmas.{same_unique, copied_more, copied_past}
use Rattle.ak_member.proofs.slots.copied.Goals as goal
use Rattle.ak_member.proofs.slots.copied.Goals.{in-Some+in_ok-copy-2+in_ok-insert, in_default}

pub slots-preserved : goal.slots-preserved
slots-preserved c =
    let slots = c.args.slots.now.entries in
    let copy = c.slots.copy in
    elim c.match-get_index.branch [
      | in-Some+in_ok-copy-2+in_ok-insert w ↦ copied_more copy slots c.slots.slot w.in-Some.who.now w.in-Some.standing.now c.match-get_index.copy.entries c.len.ensures.unique c.slots.invariant (sym w.in-Some.ensures.entry)
          (ap (λ (m : HashMap _ _ _). m.entries) w.copy-is ∙ w.in_ok-insert.ensures.entries ∙ ap (λ (k : UniqueModel). insert_entry same_unique copy.entries k w.in-Some.standing.now) w.in_ok-copy-2.ensures)
      | in_default w ↦ copied_past slots c.slots.slot c.match-get_index.copy.entries (w.in_default.ensures {u = tt}).entry (ap (λ (m : HashMap _ _ _). m.entries) w.copy-is ∙ c.slots.invariant)
    ]
