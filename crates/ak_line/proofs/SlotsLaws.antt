-- Rows of a region are marks, and a change of one slot is a change of one mark.
use Rattle.std.proofs.Common.{◌≡◌, ℕ, ◌<◌, ◌&&◌, max, ltb, Bool, true, false, if◌then◌else◌, is_some, List, length, get_or, set, Option, Some, None, refl, sym, ap, ◌∙◌, subst, arith, ltb-true}
use Rattle.std.proofs.Math.Nat.{max-eq_left}
use Rattle.std.proofs.lemmas.Option.{same_Some}
use Rattle.std.proofs.lemmas.List.{get_or-set_same, get_or-set_other}
use Rattle.ak_line.specs.Shards.{put_at, yielded}
use Rattle.ak_line.specs.Slots.{Slot, IsSlot, no_slot, shown, hosted_slot, kept_above, handed_slot, by_shard}
use Rattle.ak_line.proofs.PlacedPuts.{at_put}

pub no_slot_is : IsSlot no_slot
no_slot_is = record { newest = λ n is. absurd (differ n is); positive = λ n is. absurd (differ n is) }
  where
    differ : (n : ℕ) → None ≡ Some n → ⊥
    differ n is = absurd (cc)

pub hosted_slot_is : (n : ℕ) (slot : Slot) → slot.mark < n → IsSlot (hosted_slot n slot)
hosted_slot_is n slot greater = record { newest = λ m is. sym (same_Some n m is); positive = λ m is. subst (λ k. 0 < k) (same_Some n m is) (omega (arith, greater)) }

-- what stays hosted was hosted, with a greater number
kept_was : (n : ℕ) (o : Option ℕ) (m : ℕ) → kept_above n o ≡ Some m → (o ≡ Some m) × (n < m)
kept_was n None m is = absurd (cc)
kept_was n (Some k) m is = by_test (ltb n k) refl is
  where
    by_test : (t : Bool) → ltb n k ≡ t → (if t then Some k else None) ≡ Some m → (Some k ≡ Some m) × (n < m)
    by_test true less same = (same, subst (λ x. n < x) (same_Some k m same) (ltb-true n k less))
    by_test false more same = absurd (cc)

pub handed_slot_is : (n : ℕ) (slot : Slot) → IsSlot slot → IsSlot (handed_slot n slot)
handed_slot_is n slot r = record {
  newest = λ m is.
      let was = kept_was n slot.hosted m is in
      let at = r.newest m was.0 in
      let less = was.1 in
      at ∙ sym (max-eq_left (let e = at in omega (arith, e, less)));
  positive = λ m is. r.positive m (kept_was n slot.hosted m is).0;
}

-- a slot that is handed off shows the mark that is yielded
pub handed_shown : (n : ℕ) (slot : Slot) → IsSlot slot → shown (handed_slot n slot) ≡ yielded n (shown slot)
handed_shown n slot r = ap (λ b. record { number = max slot.mark n; hosts = b }) (by_hosted slot.hosted refl)
  where
    by_test : (m : ℕ) (t : Bool) → is_some (if t then Some m else None) ≡ t
    by_test m true = refl
    by_test m false = refl

    by_hosted : (o : Option ℕ) → slot.hosted ≡ o → is_some (kept_above n o) ≡ (is_some o && ltb n slot.mark)
    by_hosted None is = refl
    by_hosted (Some m) is = by_test m (ltb n m) ∙ ap (ltb n) (r.newest m is)

-- one slot replaced is one value replaced
pub by_shard_set : {R X : Type 0} (read : R → X) (none : R) (slots : List R) (s : ℕ) (slot : R) → s < length slots → (j : ℕ) → by_shard read none (set slots s slot) j ≡ put_at s (read slot) (by_shard read none slots) j
by_shard_set read none slots s slot inside j = at_put (λ x. read (get_or (set slots s slot) j none) ≡ x) s (read slot) (λ k. read (get_or slots k none)) j
    (λ is. subst (λ k. read (get_or (set slots s slot) k none) ≡ read slot) (sym is) (ap read (get_or-set_same slots s slot none inside)))
    (λ other. ap read (get_or-set_other slots s j slot none other))

-- and so as functions
pub by_shard_is : {R X : Type 0} (read : R → X) (none : R) (slots : List R) (s : ℕ) (slot : R) → s < length slots → by_shard read none (set slots s slot) ≡ put_at s (read slot) (by_shard read none slots)
by_shard_is read none slots s slot inside = λ k j. by_shard_set read none slots s slot inside j k
