use Rattle.std.proofs.Common.{◌≡◌, ℕ, ◌+◌, ◌-◌, ◌/◌, ◌<◌, length, List, sym, ap, ◌∙◌, arith}
use Rattle.std.proofs.lemmas.List.{length-map}
use Rattle.std.proofs.lemmas.Option.{slice_get-get_or}
use Rattle.ak_address.proofs.TableLaws.{is_true}
use Rattle.ak_address.proofs.Pairs.{is_equal, is_less, is_neither, index_here, index_between, above_up_to, below_from, above_before}
use Rattle.ak_member.specs.Ages.{AgeKey, age_cmp, key_at, keyed}
use Rattle.ak_member.proofs.AgeLemmas.{age_total, key_in}
use Rattle.ak_member.proofs.ages.index_of_age.Goals as goal

pub returns-then-is_eq : goal.returns-then-is_eq
returns-then-is_eq c =
    let es : List (AgeKey × ℕ) = keyed (key_at c.args.slots.now.entries) c.args.by_age.now in
    let middle : ℕ = c.halves.low + (c.halves.high - c.halves.low) / 2 in
    let none : AgeKey × ℕ = ((c.args.number, c.args.who.now), 0) in
    let within : middle < length es = omega (arith, c.halves.invariant.in_range, c.halves-test.true, length-map {B = AgeKey × ℕ} c.args.by_age.now (λ place. (key_at c.args.slots.now.entries place, place))) in
    let at = slice_get-get_or es middle none within in
    let tied = ap (age_cmp (c.args.number, c.args.who.now)) (key_in (key_at c.args.slots.now.entries) c.args.by_age.now middle none (omega (arith, within, length-map {B = AgeKey × ℕ} c.args.by_age.now (λ place. (key_at c.args.slots.now.entries place, place)))) ∙ sym c.age_in-other_number.ensures) ∙ sym c.compare_ages-compared.ensures ∙ is_equal _ _ c.is_eq.ensures c.if-is_eq.true in
    sym (index_here age_cmp (c.args.number, c.args.who.now) es middle _ (above_before age_cmp (c.args.number, c.args.who.now) age_total es (is_true _ c.requires.sorted) middle _ at tied) at tied)

pub halves-preserved-then-is_lt : goal.halves-preserved-then-is_lt
halves-preserved-then-is_lt c =
    let es : List (AgeKey × ℕ) = keyed (key_at c.args.slots.now.entries) c.args.by_age.now in
    let middle : ℕ = c.halves.low + (c.halves.high - c.halves.low) / 2 in
    let none : AgeKey × ℕ = ((c.args.number, c.args.who.now), 0) in
    let within : middle < length es = omega (arith, c.halves.invariant.in_range, c.halves-test.true, length-map {B = AgeKey × ℕ} c.args.by_age.now (λ place. (key_at c.args.slots.now.entries place, place))) in
    let at = slice_get-get_or es middle none within in
    let less = ap (age_cmp (c.args.number, c.args.who.now)) (key_in (key_at c.args.slots.now.entries) c.args.by_age.now middle none (omega (arith, within, length-map {B = AgeKey × ℕ} c.args.by_age.now (λ place. (key_at c.args.slots.now.entries place, place)))) ∙ sym c.age_in-other_number.ensures) ∙ sym c.compare_ages-compared.ensures ∙ is_less _ _ c.is_lt.ensures c.if-is_lt.true in
    record {
      in_order = omega arith;
      in_range = omega (arith, c.halves.invariant.in_range, c.halves-test.true);
      above = c.halves.invariant.above;
      below = below_from age_cmp (c.args.number, c.args.who.now) age_total es (is_true _ c.requires.sorted) middle _ at less;
    }

pub halves-preserved : goal.halves-preserved
halves-preserved c =
    let es : List (AgeKey × ℕ) = keyed (key_at c.args.slots.now.entries) c.args.by_age.now in
    let middle : ℕ = c.halves.low + (c.halves.high - c.halves.low) / 2 in
    let none : AgeKey × ℕ = ((c.args.number, c.args.who.now), 0) in
    let within : middle < length es = omega (arith, c.halves.invariant.in_range, c.halves-test.true, length-map {B = AgeKey × ℕ} c.args.by_age.now (λ place. (key_at c.args.slots.now.entries place, place))) in
    let at = slice_get-get_or es middle none within in
    let greater = ap (age_cmp (c.args.number, c.args.who.now)) (key_in (key_at c.args.slots.now.entries) c.args.by_age.now middle none (omega (arith, within, length-map {B = AgeKey × ℕ} c.args.by_age.now (λ place. (key_at c.args.slots.now.entries place, place)))) ∙ sym c.age_in-other_number.ensures) ∙ sym c.compare_ages-compared.ensures ∙ is_neither _ _ _ c.is_eq.ensures c.if-is_eq.false c.is_lt.ensures c.if-is_lt.false in
    record {
      in_order = omega (arith, c.halves-test.true);
      in_range = c.halves.invariant.in_range;
      above = above_up_to age_cmp (c.args.number, c.args.who.now) age_total es (is_true _ c.requires.sorted) middle _ at greater;
      below = c.halves.invariant.below;
    }

pub returns : goal.returns
returns c =
    let es : List (AgeKey × ℕ) = keyed (key_at c.args.slots.now.entries) c.args.by_age.now in
    let below = c.halves.invariant.below in
    let met : c.halves.low ≡ c.halves.high = omega (arith, c.halves.invariant.in_order, c.halves-test.false) in
    sym (index_between age_cmp (c.args.number, c.args.who.now) es c.halves.low (omega (arith, met, c.halves.invariant.in_range, length-map {B = AgeKey × ℕ} c.args.by_age.now (λ place. (key_at c.args.slots.now.entries place, place)))) c.halves.invariant.above
    (λ i e le is. below i e (omega (arith, met, le)) is))
