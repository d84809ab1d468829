use Rattle.std.proofs.Common.{◌≤◌, List, length, reverse, ap, sym, ◌∙◌, arith}
use Rattle.std.proofs.lemmas.List.{length-reverse}
use Rattle.std.specs.FinMap as map
use Rattle.ak_address.proofs.TableLemmas.{merged_with_none}
use Rattle.ak_member.specs.Standing.{merged_standing, merged_standings}
use Rattle.ak_member.specs.Merging.{all_noted}
use Rattle.ak_member.specs.Slots.{Slot, standings_of}
use Rattle.ak_member.proofs.MergeLemmas.{can_add_unknown, merged_slots, knows_nobody, nobody_counts, on_ok}
use Rattle.ak_member.proofs.members.Members.merge.Goals as goal

-- one that knows nobody brings nothing
pub returns-then-len-eq0-clause-ok : goal.returns-then-len-eq0-clause-ok
returns-then-len-eq0-clause-ok c =
    merged_with_none merged_standing c.args.self.now c.args.other.now (knows_nobody _ (ap map.len (sym c.other.view_is) ∙ sym c.len.ensures ∙ c.if-len-eq0.true))

pub returns-in_err-new-clause-memory : goal.returns-in_err-new-clause-memory
returns-in_err-new-clause-memory c none = absurd (c.if-len-eq0.false (c.len.ensures ∙ nobody_counts _ (c.other.view_is ∙ none)))

pub returns-in_err-reserve-clause-memory : goal.returns-in_err-reserve-clause-memory
returns-in_err-reserve-clause-memory c none = absurd (c.if-len-eq0.false (c.len.ensures ∙ nobody_counts _ (c.other.view_is ∙ none)))

-- there is room for those who are new, and nothing is known of them
pub add_all-requires : goal.add_all-requires
add_all-requires c =
    let s = standings_of c.self.inside.slots.entries in
    let t = standings_of c.other.inside.slots.entries in
    let fits : length (reverse c.in_ok-new.new.items) ≤ c.note_all.new.slots.room = omega (arith, length-reverse c.in_ok-new.new.items, c.in_ok-new.new.ok.0, c.len-2.ensures, c.in_ok-reserve.ensures.ok, c.note_all.ensures.room) in
    can_add_unknown s t (standings_of c.note_all.new.slots.entries) (reverse c.in_ok-new.new.items) c.note_all.new.slots.room
    (c.note_all.ensures.after ∙ ap (λ (es : List Slot). all_noted (map.entries t) (standings_of es)) c.in_ok-reserve.ensures.same)
    c.in_ok-new.ensures
    fits

pub returns-clause-ok : goal.returns-clause-ok
returns-clause-ok c =
    let s = standings_of c.self.inside.slots.entries in
    let t = standings_of c.other.inside.slots.entries in
    on_ok c.add_all.result
    (ap standings_of c.add_all.ensures.after
    ∙ merged_slots s t c.note_all.new.slots.entries (reverse c.in_ok-new.new.items)
    (c.note_all.ensures.after ∙ ap (λ (es : List Slot). all_noted (map.entries t) (standings_of es)) c.in_ok-reserve.ensures.same)
    c.in_ok-new.ensures
    ∙ (λ i. merged_standings (c.self.view_is i) (c.other.view_is i)))
