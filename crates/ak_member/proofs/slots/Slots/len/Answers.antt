use Rattle.std.proofs.Common.{ap, ◌∙◌}
use Rattle.std.specs.FinMap as map
use Rattle.ak_member.specs.Slots.{SlotsModel, standings_of}
use Rattle.ak_member.proofs.SlotLemmas.{in_order_len}
use Rattle.ak_member.proofs.slots.Slots.len.Goals as goal

pub returns : goal.returns
returns c =
    c.len.ensures ∙ c.self.inside.order.ok.0 ∙ in_order_len c.self.inside.slots.entries c.self.inside.order.items c.self.invariant.in_order ∙ ap (λ (s : SlotsModel). map.len (standings_of s.entries)) c.self.view_is
