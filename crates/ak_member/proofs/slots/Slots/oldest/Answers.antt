use Rattle.std.proofs.Common.{List, ℕ, slice_get, None, option_copied, sym, subst, ap, ◌∙◌}
use Rattle.ak_member.specs.Age.{IsOldest}
use Rattle.ak_member.specs.Slots.{SlotsModel, standings_of}
use Rattle.ak_member.proofs.AgedSlots.{first_is_oldest, none_is_oldest}
use Rattle.ak_member.proofs.slots.Slots.oldest.Goals as goal

pub returns-in-Some : goal.returns-in-Some
returns-in-Some c =
    subst (λ (s : SlotsModel). IsOldest (standings_of s.entries) (option_copied c.process_of.result)) c.self.view_is
    (first_is_oldest c.self.inside.slots.entries c.self.inside.by_age.items c.len.ensures.unique c.self.invariant.ages c.in-Some.slot.now
    (sym (c.in-Some.ensures.value ∙ ap (λ (places : List ℕ). slice_get places 0) c.deref.ensures.value))
    (option_copied c.process_of.result)
    c.process_of.ensures)

pub returns-in-None : goal.returns-in-None
returns-in-None c =
    subst (λ (s : SlotsModel). IsOldest (standings_of s.entries) None) c.self.view_is
    (none_is_oldest c.self.inside.slots.entries c.self.inside.by_age.items c.len.ensures.unique c.self.invariant.ages
    (sym (c.in-None.ensures.value ∙ ap (λ (places : List ℕ). slice_get places 0) c.deref.ensures.value)))
