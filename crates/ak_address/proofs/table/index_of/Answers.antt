use Rattle.std.proofs.Common.{◌≡◌, ℕ, ◌+◌, ◌-◌, ◌/◌, ◌<◌, length, sym, ◌∙◌, arith}
use Rattle.std.proofs.lemmas.Option.{slice_get-get_or}
use Rattle.ak_address.specs.Unique.{unique_cmp}
use Rattle.ak_address.proofs.OrderLemmas.{unique_total}
use Rattle.ak_address.proofs.TableLaws.{is_true}
use Rattle.ak_address.proofs.Pairs.{is_equal, is_less, is_neither, index_here, index_between, above_up_to, below_from, above_before}
use Rattle.ak_address.proofs.table.index_of.Goals as goal

pub returns-then-is_eq : goal.returns-then-is_eq
returns-then-is_eq g c =
    let es = c.args.entries.now in
    let middle : ℕ = c.halves.low + (c.halves.high - c.halves.low) / 2 in
    let within : middle < length es = omega (arith, c.halves.invariant.in_range, c.halves-test.true) in
    let at = slice_get-get_or es middle c.index-entries-middle.result within in
    let tied = sym c.compare-order.ensures ∙ is_equal _ _ c.is_eq.ensures c.if-is_eq.true in
    sym (index_here unique_cmp c.args.who.now es middle _ (above_before unique_cmp c.args.who.now unique_total es (is_true _ c.requires) middle _ at tied) at tied)

pub halves-preserved-then-is_lt : goal.halves-preserved-then-is_lt
halves-preserved-then-is_lt g c =
    let es = c.args.entries.now in
    let middle : ℕ = c.halves.low + (c.halves.high - c.halves.low) / 2 in
    let within : middle < length es = omega (arith, c.halves.invariant.in_range, c.halves-test.true) in
    let at = slice_get-get_or es middle c.index-entries-middle.result within in
    let less = sym c.compare-order.ensures ∙ is_less _ _ c.is_lt.ensures c.if-is_lt.true in
    record {
      in_order = omega arith;
      in_range = omega (arith, within);
      above = c.halves.invariant.above;
      below = below_from unique_cmp c.args.who.now unique_total es (is_true _ c.requires) middle _ at less;
    }

pub halves-preserved : goal.halves-preserved
halves-preserved g c =
    let es = c.args.entries.now in
    let middle : ℕ = c.halves.low + (c.halves.high - c.halves.low) / 2 in
    let within : middle < length es = omega (arith, c.halves.invariant.in_range, c.halves-test.true) in
    let at = slice_get-get_or es middle c.index-entries-middle.result within in
    let greater = sym c.compare-order.ensures ∙ is_neither _ _ _ c.is_eq.ensures c.if-is_eq.false c.is_lt.ensures c.if-is_lt.false in
    record {
      in_order = omega (arith, c.halves-test.true);
      in_range = c.halves.invariant.in_range;
      above = above_up_to unique_cmp c.args.who.now unique_total es (is_true _ c.requires) middle _ at greater;
      below = c.halves.invariant.below;
    }

pub returns : goal.returns
returns g c =
    let below = c.halves.invariant.below in
    let met : c.halves.low ≡ c.halves.high = omega (arith, c.halves.invariant.in_order, c.halves-test.false) in
    sym (index_between unique_cmp c.args.who.now c.args.entries.now c.halves.low (omega (arith, met, c.halves.invariant.in_range)) c.halves.invariant.above
    (λ i e le is. below i e (omega (arith, met, le)) is))
