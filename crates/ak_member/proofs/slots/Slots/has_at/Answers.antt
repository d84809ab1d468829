use Rattle.std.proofs.Common.{Some, slice_get, sym, ap, ◌∙◌}
use Rattle.std.specs.FinMap as map
use Rattle.ak_member.specs.Slots.{SlotsModel, standings_of}
use Rattle.ak_member.proofs.SlotLemmas.{found_by_slot}
use Rattle.ak_member.proofs.slots.Slots.has_at.Goals as goal

pub returns-in-Some : goal.returns-in-Some
returns-in-Some c =
    λ yes.
    let standing = c.in-Some.field-0-1.now in
    let at = sym c.in-Some.ensures.entry ∙ ap (λ u. Some (u, standing)) (c.is.ensures.meaning.0 yes) in (
      standing,
      sym (ap (λ (s : SlotsModel). slice_get s.entries c.args.slot) c.self.view_is) ∙ at,
      sym (ap (λ (s : SlotsModel). map.get (standings_of s.entries) c.args.who.now) c.self.view_is)
          ∙ found_by_slot c.self.inside.slots.entries c.args.slot c.args.who.now standing c.len.ensures.unique at,
    )
