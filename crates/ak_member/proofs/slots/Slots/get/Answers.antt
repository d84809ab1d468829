use Rattle.std.proofs.Common.{sym, ap, ◌∙◌}
use Rattle.std.specs.FinMap as map
use Rattle.ak_member.specs.Slots.{SlotsModel, standings_of}
use Rattle.ak_member.proofs.SlotLemmas.{found_in, in_no_slot}
use Rattle.ak_member.proofs.slots.Slots.get.Goals as goal

pub returns : goal.returns
returns c = c.get.ensures.value ∙ found_in c.args.who.now c.self.inside.slots.entries ∙ ap (λ (s : SlotsModel). map.get (standings_of s.entries) c.args.who.now) c.self.view_is

pub returns-then-len-eq0 : goal.returns-then-len-eq0
returns-then-len-eq0 c =
    in_no_slot c.self.inside.slots.entries c.args.who.now (sym c.len.ensures.len ∙ c.if-len-eq0.true) ∙ ap (λ (s : SlotsModel). map.get (standings_of s.entries) c.args.who.now) c.self.view_is
