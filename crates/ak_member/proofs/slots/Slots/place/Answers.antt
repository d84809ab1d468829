use Rattle.std.proofs.Common.{IsTrue, ℕ, List, sym, subst, ap, ◌∙◌}
use Rattle.std.specs.FinMap as map
use Rattle.ak_address.specs.Unique.{unique_cmp}
use Rattle.ak_address.specs.Pairs.{index}
use Rattle.ak_member.specs.Slots.{SlotsModel, standings_of, picked}
use Rattle.ak_member.proofs.SlotLemmas.{in_order_sorted}
use Rattle.ak_member.proofs.slots.Slots.place.Goals as goal

pub index_of-requires-clause-sorted : goal.index_of-requires-clause-sorted
index_of-requires-clause-sorted c =
    let slots = c.self.inside.slots.entries in
    subst (λ (places : List ℕ). IsTrue (map.is_sorted unique_cmp (picked places slots))) (sym c.deref.ensures.value) (in_order_sorted slots c.self.inside.order.items c.self.invariant.in_order)

pub returns : goal.returns
returns c =
    c.index_of.ensures
    ∙ ap (index unique_cmp c.args.who.now)
    (ap (λ (places : List ℕ). picked places c.self.inside.slots.entries) c.deref.ensures.value ∙ sym c.self.invariant.in_order.pairs ∙ ap (λ (s : SlotsModel). map.entries (standings_of s.entries)) c.self.view_is)
