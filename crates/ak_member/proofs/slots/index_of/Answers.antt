use Rattle.std.proofs.Common.{◌≡◌, ℕ, ◌+◌, ◌-◌, ◌/◌, ◌<◌, length, List, get_or, sym, ap, ◌∙◌, arith}
use Rattle.std.proofs.lemmas.List.{length-map}
use Rattle.std.proofs.lemmas.Option.{slice_get-get_or}
use Rattle.ak_address.specs.Unique.{unique_cmp}
use Rattle.ak_address.proofs.OrderLemmas.{unique_total}
use Rattle.ak_address.proofs.TableLaws.{is_true}
use Rattle.ak_address.proofs.Pairs.{is_equal, is_less, is_neither, index_here, index_between, above_up_to, below_from, above_before}
use Rattle.ak_member.specs.Slots.{Slot, no_slot, picked}
use Rattle.ak_member.proofs.slots.index_of.Goals as goal

pub returns-then-is_eq : goal.returns-then-is_eq
returns-then-is_eq c =
    let es : List Slot = picked c.args.order.now c.args.slots.now.entries in
    let middle : ℕ = c.halves.low + (c.halves.high - c.halves.low) / 2 in
    let within : middle < length es = omega (arith, c.halves.invariant.in_range, c.halves-test.true, length-map c.args.order.now (λ place. get_or c.args.slots.now.entries place no_slot)) in
    let at = slice_get-get_or es middle no_slot within in
    let tied = ap (unique_cmp c.args.who.now) (sym c.process_at.ensures) ∙ sym c.compare-compared.ensures ∙ is_equal _ _ c.is_eq.ensures c.if-is_eq.true in
    sym (index_here unique_cmp c.args.who.now es middle _ (above_before unique_cmp c.args.who.now unique_total es (is_true _ c.requires.sorted) middle _ at tied) at tied)

pub halves-preserved-then-is_lt : goal.halves-preserved-then-is_lt
halves-preserved-then-is_lt c =
    let es : List Slot = picked c.args.order.now c.args.slots.now.entries in
    let middle : ℕ = c.halves.low + (c.halves.high - c.halves.low) / 2 in
    let within : middle < length es = omega (arith, c.halves.invariant.in_range, c.halves-test.true, length-map c.args.order.now (λ place. get_or c.args.slots.now.entries place no_slot)) in
    let at = slice_get-get_or es middle no_slot within in
    let less = ap (unique_cmp c.args.who.now) (sym c.process_at.ensures) ∙ sym c.compare-compared.ensures ∙ is_less _ _ c.is_lt.ensures c.if-is_lt.true in
    record {
      in_order = omega arith;
      in_range = omega (arith, c.halves.invariant.in_range, c.halves-test.true);
      above = c.halves.invariant.above;
      below = below_from unique_cmp c.args.who.now unique_total es (is_true _ c.requires.sorted) middle _ at less;
    }

pub halves-preserved : goal.halves-preserved
halves-preserved c =
    let es : List Slot = picked c.args.order.now c.args.slots.now.entries in
    let middle : ℕ = c.halves.low + (c.halves.high - c.halves.low) / 2 in
    let within : middle < length es = omega (arith, c.halves.invariant.in_range, c.halves-test.true, length-map c.args.order.now (λ place. get_or c.args.slots.now.entries place no_slot)) in
    let at = slice_get-get_or es middle no_slot within in
    let greater = ap (unique_cmp c.args.who.now) (sym c.process_at.ensures) ∙ sym c.compare-compared.ensures ∙ is_neither _ _ _ c.is_eq.ensures c.if-is_eq.false c.is_lt.ensures c.if-is_lt.false in
    record {
      in_order = omega (arith, c.halves-test.true);
      in_range = c.halves.invariant.in_range;
      above = above_up_to unique_cmp c.args.who.now unique_total es (is_true _ c.requires.sorted) middle _ at greater;
      below = c.halves.invariant.below;
    }

pub returns : goal.returns
returns c =
    let es : List Slot = picked c.args.order.now c.args.slots.now.entries in
    let below = c.halves.invariant.below in
    let met : c.halves.low ≡ c.halves.high = omega (arith, c.halves.invariant.in_order, c.halves-test.false) in
    sym (index_between unique_cmp c.args.who.now es c.halves.low (omega (arith, met, c.halves.invariant.in_range, length-map c.args.order.now (λ place. get_or c.args.slots.now.entries place no_slot))) c.halves.invariant.above
    (λ i e le is. below i e (omega (arith, met, le)) is))
