use Rattle.std.proofs.Common.{slice_get, sym, ap, ◌∙◌}
use Rattle.std.specs.FinMap as map
use Rattle.ak_member.specs.Slots.{SlotsModel, standings_of}
use Rattle.ak_member.proofs.SlotLemmas.{found_in, slot_found}
use Rattle.ak_member.proofs.slots.Slots.slot_of.Goals as goal

pub returns-in-Some : goal.returns-in-Some
returns-in-Some c =
    let e = c.in-Some.ensures in (
      c.in-Some.field-0-2.now,
      sym (ap (λ (s : SlotsModel). slice_get s.entries c.in-Some.slot) c.self.view_is)
          ∙ slot_found c.self.inside.slots.entries c.args.who.now c.in-Some.field-0-1.now c.in-Some.field-0-2.now c.in-Some.slot e.key e.entry,
      sym (ap (λ (s : SlotsModel). map.get (standings_of s.entries) c.args.who.now) c.self.view_is) ∙ sym (found_in c.args.who.now c.self.inside.slots.entries) ∙ sym e.value,
    )

pub returns-in-None : goal.returns-in-None
returns-in-None c =
    sym (ap (λ (s : SlotsModel). map.get (standings_of s.entries) c.args.who.now) c.self.view_is) ∙ sym (found_in c.args.who.now c.self.inside.slots.entries) ∙ sym c.in-None.ensures.value
