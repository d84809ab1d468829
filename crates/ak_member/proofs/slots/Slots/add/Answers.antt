use Rattle.std.proofs.Common.{IsTrue, ℕ, List, [], ◌∷◌, ◌++◌, length, insert, sym, subst, ap, ◌∙◌, arith}
use Rattle.std.specs.FinMap as map
use Rattle.ak_address.specs.Unique.{unique_cmp}
use Rattle.ak_address.specs.Pairs.{index}
use Rattle.indexmap.proofs.CallerLemmas.{insert_entry-new}
use Rattle.ak_member.specs.Slots.{Slot, SlotsModel, standings_of, picked, InOrder}
use Rattle.std.proofs.lemmas.List.{length-append}
use Rattle.ak_member.proofs.AgedSlots.{few_ages, out_of_last}
use Rattle.ak_member.proofs.SlotLemmas.{same_unique, found_in, in_order_sorted, in_order_found, in_order_within, in_order_added}
use Rattle.ak_member.proofs.slots.Slots.add.Goals as goal

pub new_index-index-requires-clause-sorted : goal.new_index-index-requires-clause-sorted
new_index-index-requires-clause-sorted c =
    let slots = c.self.inside.slots.entries in
    subst (λ (places : List ℕ). IsTrue (map.is_sorted unique_cmp (picked places slots))) (sym c.deref.ensures.value) (in_order_sorted slots c.self.inside.order.items c.self.invariant.in_order)

pub new_index-index-requires-clause-absent : goal.new_index-index-requires-clause-absent
new_index-index-requires-clause-absent c =
    let slots = c.self.inside.slots.entries in
    ap (λ (places : List ℕ). map.find unique_cmp c.args.who (picked places slots)) c.deref.ensures.value
    ∙ sym (in_order_found slots c.self.inside.order.items c.self.invariant.in_order c.args.who)
    ∙ ap (λ (s : SlotsModel). map.get (standings_of s.entries) c.args.who) c.self.view_is
    ∙ c.requires

pub insert-requires-2 : goal.insert-requires-2
insert-requires-2 c =
    let slots = c.self.inside.slots.entries in
    let within = in_order_within slots c.self.inside.order.items c.self.invariant.in_order c.args.who c.new_index-index.result
    (c.new_index-index.ensures ∙ ap (λ (places : List ℕ). index unique_cmp c.args.who (picked places slots)) c.deref.ensures.value) in
    omega (arith, within, c.self.inside.order.ok.0, c.in_ok-reserve-2.ensures.len)

pub overflow_sub-slot : goal.overflow_sub-slot
overflow_sub-slot c = omega (arith, few_ages c.self.inside.slots.entries c.self.inside.by_age.items c.self.invariant.ages, c.len-slot.ensures.len, c.len.ensures, c.self.inside.by_age.ok.0)

-- a process that has no slot gets the last, and is not in the list by age yet
pub enter-requires-clause-left : goal.enter-requires-clause-left
enter-requires-clause-left c =
    let slots = c.self.inside.slots.entries in
    let none = ap (λ (s : SlotsModel). map.get (standings_of s.entries) c.args.who) c.self.view_is ∙ c.requires in
    let last = c.in_ok-insert.ensures.entries ∙ insert_entry-new same_unique c.self.inside.slots c.args.who c.args.standing (found_in c.args.who slots ∙ none) in
    out_of_last slots c.insert.new.self.entries (c.args.who, c.args.standing) c.self.inside.by_age.items c.reserve.new.self.items c.len-slot.result last c.in_ok-reserve.ensures.items c.len-slot.ensures.len c.self.invariant.ages

pub enter-requires-clause-room : goal.enter-requires-clause-room
enter-requires-clause-room c =
    let slots = c.self.inside.slots.entries in
    let none = ap (λ (s : SlotsModel). map.get (standings_of s.entries) c.args.who) c.self.view_is ∙ c.requires in
    let last = c.in_ok-insert.ensures.entries ∙ insert_entry-new same_unique c.self.inside.slots c.args.who c.args.standing (found_in c.args.who slots ∙ none) in
    let few = few_ages slots c.self.inside.by_age.items c.self.invariant.ages in
    omega (arith, ap length last, length-append slots ((c.args.who, c.args.standing) ∷ []), c.in_ok-reserve.ensures.ok, c.in_ok-reserve.ensures.len, few, c.len-slot.ensures.len, c.len.ensures, c.self.inside.by_age.ok.0)

pub invariant_of-self-2 : goal.invariant_of-self-2
invariant_of-self-2 c =
    let slots = c.self.inside.slots.entries in
    let places = c.self.inside.order.items in
    let none = ap (λ (s : SlotsModel). map.get (standings_of s.entries) c.args.who) c.self.view_is ∙ c.requires in
    let last = c.in_ok-insert.ensures.entries ∙ insert_entry-new same_unique c.self.inside.slots c.args.who c.args.standing (found_in c.args.who slots ∙ none) in
    let goes = c.new_index-index.ensures ∙ ap (λ (ps : List ℕ). index unique_cmp c.args.who (picked ps slots)) c.deref.ensures.value in
    let put = c.in_ok-insert-2.ensures.items ∙ (λ i. insert (c.in_ok-reserve-2.ensures.items i) c.new_index-index.result (c.len-slot.ensures.len i)) in
    let few = few_ages slots c.self.inside.by_age.items c.self.invariant.ages in
    record {
      in_order =
          subst (λ (ps : List ℕ). InOrder c.insert.new.self.entries ps) (sym put)
          (subst (λ (es : List Slot). InOrder es (insert places c.new_index-index.result (length slots))) (sym last)
          (in_order_added slots places c.args.who c.args.standing c.new_index-index.result c.self.invariant.in_order none goes));
      ages = c.enter.ensures.all;
      roomy =
          omega (arith, ap length last, length-append slots ((c.args.who, c.args.standing) ∷ []), c.in_ok-reserve.ensures.ok, c.in_ok-reserve.ensures.len, few, c.len-slot.ensures.len, c.len.ensures, c.self.inside.by_age.ok.0, c.enter.ensures.room);
    }

pub returns-clause-ok : goal.returns-clause-ok
returns-clause-ok c =
    let slots = c.self.inside.slots.entries in
    let none = ap (λ (s : SlotsModel). map.get (standings_of s.entries) c.args.who) c.self.view_is ∙ c.requires in
    c.in_ok-insert.ensures.entries
    ∙ insert_entry-new same_unique c.self.inside.slots c.args.who c.args.standing (found_in c.args.who slots ∙ none)
    ∙ ap (λ (s : SlotsModel). s.entries ++ (c.args.who, c.args.standing) ∷ []) c.self.view_is

-- where there is room, the list by age has it
pub returns-in_err-reserve-clause-succeeds : goal.returns-in_err-reserve-clause-succeeds
returns-in_err-reserve-clause-succeeds c room =
    let few = few_ages c.self.inside.slots.entries c.self.inside.by_age.items c.self.invariant.ages in
    absurd (omega (arith, room, ap (λ (s : SlotsModel). s.room) c.self.view_is, c.in_err-reserve.ensures.full, few, c.len-slot.ensures.len, c.len.ensures, c.self.inside.by_age.ok.0))
