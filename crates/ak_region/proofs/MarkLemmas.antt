-- What each call of a region does to its marks.
use Rattle.std.proofs.Common.{◌≡◌, ℕ, zero, suc, ◌+◌, ◌==◌, ◌<◌, ◌&&◌, max, ltb, Bool, true, false, not, cond, List, [], ◌∷◌, ◌++◌, length, get_or, set, map, Option, Some, None, is_some, refl, sym, ap, ◌∙◌, subst, arith, true≢false}
use Rattle.std.proofs.lemmas.Bool.{eqb-true, eq-eqb, ne_eqb, ltb-true, lt-ltb, le-ltb, leb-true, leb-false}
use Rattle.std.proofs.Math.Nat.{max-eq_left}
use Rattle.std.proofs.lemmas.List.{get_or-set_same, get_or-set_other}
use Rattle.std.proofs.lemmas.Option.{same_Some}
use Rattle.std.specs.Prelude.{nat_le, nat_lt}
use Rattle.ak_member.specs.Standing.{Standings}
use Rattle.ak_line.specs.Shards.{unmarked, put_at, yielded}
use Rattle.ak_line.specs.Told.{marks_told}
use Rattle.ak_line.proofs.SlotsLaws.{by_shard_is}
use Rattle.ak_region.specs.declared.slot.Hosting.{Hosting}
use Rattle.ak_region.specs.declared.slot.Hosting.TheVariants.{New, Again, Ignored}
use Rattle.ak_region.specs.Shards.{ShardSlot, IsSlot}
use Rattle.ak_region.specs.Slot.{untold, host_of, host_answer, is_given_up, gives_up, handed_off, without_stranger}
use Rattle.ak_region.specs.RegionModel.{RegionModel}
use Rattle.ak_region.specs.Region.{with_slot, after_forget, reports_from, reports}
use Rattle.ak_region.specs.Marks.{shown, marks_of, AreSlots}

-- ---- one slot replaced is one mark replaced
pub marks_put : (region : RegionModel) (shard : ℕ) (slot : ShardSlot) → shard < length region.slots → marks_of (with_slot region shard slot) ≡ put_at shard (shown slot) (marks_of region)
marks_put region shard slot inside = by_shard_is shown untold region.slots shard slot inside

-- what stands at a shard already changes nothing
put_same : {X : Type 0} (s : ℕ) (x : X) (xs : ℕ → X) → x ≡ xs s → put_at s x xs ≡ xs
put_same s x xs is = λ i j. by_test j (j == s) refl i
  where
    by_test : (j : ℕ) (b : Bool) → (j == s) ≡ b → cond b x (xs j) ≡ xs j
    by_test j true at = is ∙ ap xs (sym (eqb-true j s at))
    by_test j false at = refl

pub marks_same : (region : RegionModel) (shard : ℕ) (slot : ShardSlot) → shard < length region.slots → shown slot ≡ marks_of region shard → marks_of (with_slot region shard slot) ≡ marks_of region
marks_same region shard slot inside same = marks_put region shard slot inside ∙ put_same shard (shown slot) (marks_of region) same

-- ---- each slot stays one
pub slots_put : (region : RegionModel) (shard : ℕ) (slot : ShardSlot) → shard < length region.slots → IsSlot slot → AreSlots region → AreSlots (with_slot region shard slot)
slots_put region shard slot inside is all j = by_test (j == shard) refl
  where
    by_test : (b : Bool) → (j == shard) ≡ b → IsSlot (get_or (set region.slots shard slot) j untold)
    by_test true at = subst IsSlot (sym (ap (λ k. get_or (set region.slots shard slot) k untold) (eqb-true j shard at) ∙ get_or-set_same region.slots shard slot untold inside)) is
    by_test false at = subst IsSlot (sym (get_or-set_other region.slots shard j slot untold (λ same. true≢false (sym (eq-eqb j shard same) ∙ at)))) (all j)

pub untold_is : IsSlot untold
untold_is = record { newest = λ n is. absurd (differ n is); positive = λ n is. absurd (differ n is) }
  where
    differ : (n : ℕ) → None ≡ Some n → ⊥
    differ n is = absurd (cc)

-- ---- the order to host
pub newly_hosts : (number : ℕ) (slot : ShardSlot) → host_answer number slot ≡ New → (is_some slot.hosted ≡ false) × (slot.mark < number)
newly_hosts number slot is = by_hosted slot.hosted refl is
  where
    by_newer : (b : Bool) → nat_lt slot.mark number ≡ b → cond {A = Hosting} b New Ignored ≡ New → slot.mark < number
    by_newer true less fits = ltb-true slot.mark number less
    by_newer false more fits = absurd (cc)

    never : (b : Bool) → cond {A = Hosting} b Again Ignored ≡ New → ⊥
    never true fits = absurd (cc)
    never false fits = absurd (cc)

    by_hosted : (o : Option ℕ) → slot.hosted ≡ o → host_of number o (nat_lt slot.mark number) ≡ New → (is_some slot.hosted ≡ false) × (slot.mark < number)
    by_hosted None none fits = (ap is_some none, by_newer (nat_lt slot.mark number) refl fits)
    by_hosted (Some m) some fits = absurd (never (m == number) fits)

-- ---- a hand-off
pub handed_shown : (number : ℕ) (slot : ShardSlot) → IsSlot slot → shown (handed_off number slot) ≡ yielded number (shown slot)
handed_shown number slot r = λ i. record { number = max slot.mark number; hosts = by_hosted slot.hosted refl i }
  where
    kept : (m : ℕ) (b : Bool) → is_some (cond {A = Option ℕ} b None (Some m)) ≡ not b
    kept m true = refl
    kept m false = refl

    opposite : (m : ℕ) (b : Bool) → nat_le m number ≡ b → not b ≡ ltb number m
    opposite m true le = sym (le-ltb number m (leb-true m number le))
    opposite m false lt = sym (lt-ltb number m (leb-false m number lt))

    by_hosted : (o : Option ℕ) → slot.hosted ≡ o → is_some (cond {A = Option ℕ} (is_given_up number o) None o) ≡ (is_some o && ltb number slot.mark)
    by_hosted None is = refl
    by_hosted (Some m) is = kept m (nat_le m number) ∙ opposite m (nat_le m number) refl ∙ ap (ltb number) (r.newest m is)

-- ---- that homes are forgotten leaves the marks
pub forgotten_slot : (s : Standings) (slots : List ShardSlot) (k : ℕ) → get_or (map (without_stranger s) slots) k untold ≡ without_stranger s (get_or slots k untold)
forgotten_slot s [] k = refl
forgotten_slot s (slot ∷ slots) zero = refl
forgotten_slot s (slot ∷ slots) (suc k) = forgotten_slot s slots k

pub forget_marks : (s : Standings) (region : RegionModel) → marks_of (after_forget s region) ≡ marks_of region
forget_marks s region = λ i shard. shown (forgotten_slot s region.slots shard i)

pub forget_slots : (s : Standings) (region : RegionModel) → AreSlots region → AreSlots (after_forget s region)
forget_slots s region all shard =
    subst IsSlot (sym (forgotten_slot s region.slots shard)) (let a = all shard in record { newest = a.newest; positive = a.positive })

-- ---- the reports tell the marks
unhosted : (slot : ShardSlot) → IsSlot slot → (slot.mark == 0) ≡ true → record { number = 0; hosts = false } ≡ shown slot
unhosted slot is none = λ i. record { number = sym (eqb-true slot.mark 0 none) i; hosts = by_hosted slot.hosted refl i }
  where
    by_hosted : (o : Option ℕ) → slot.hosted ≡ o → false ≡ is_some o
    by_hosted None at = refl
    by_hosted (Some m) at = let p = is.positive m at in let e = is.newest m at in let z = eqb-true slot.mark 0 none in absurd (omega arith)

-- those of the shards from a number on tell nothing of shards below
told_below : (start : ℕ) (slots : List ShardSlot) (shard : ℕ) → shard < start → marks_told (reports_from start slots) shard ≡ unmarked shard
told_below start [] shard less = refl
told_below start (slot ∷ slots) shard less = by_mark (slot.mark == 0) (told_below (start + 1) slots shard (omega arith))
  where
    apart : (start == shard) ≡ false
    apart = ne_eqb start shard (λ same. omega (arith, same, less))

    by_mark : (b : Bool) → marks_told (reports_from (start + 1) slots) shard ≡ unmarked shard
        → marks_told (cond b [] (record { shard = start; number = slot.mark; hosted = is_some slot.hosted } ∷ []) ++ reports_from (start + 1) slots) shard ≡ unmarked shard
    by_mark true rest = rest
    by_mark false rest = ap (λ t. cond t (record { number = slot.mark; hosts = is_some slot.hosted }) (marks_told (reports_from (start + 1) slots) shard)) apart ∙ rest

told_at : (start : ℕ) (slots : List ShardSlot) → ((k : ℕ) → IsSlot (get_or slots k untold)) → (k : ℕ) → marks_told (reports_from start slots) (start + k) ≡ shown (get_or slots k untold)
told_at start [] all k = refl
told_at start (slot ∷ slots) all zero = by_mark (slot.mark == 0) refl
  where
    here : (start == start + zero) ≡ true
    here = eq-eqb start (start + zero) (omega arith)

    by_mark : (b : Bool) → (slot.mark == 0) ≡ b
        → marks_told (cond b [] (record { shard = start; number = slot.mark; hosted = is_some slot.hosted } ∷ []) ++ reports_from (start + 1) slots) (start + zero) ≡ shown slot
    by_mark true none = told_below (start + 1) slots (start + zero) (omega arith) ∙ unhosted slot (all zero) none
    by_mark false some = ap (λ t. cond t (record { number = slot.mark; hosts = is_some slot.hosted }) (marks_told (reports_from (start + 1) slots) (start + zero))) here
told_at start (slot ∷ slots) all (suc k) =
    by_mark (slot.mark == 0) (ap (marks_told (reports_from (start + 1) slots)) (let e : start + suc k ≡ start + 1 + k = omega arith in e) ∙ told_at (start + 1) slots (λ j. all (suc j)) k)
  where
    apart : (start == start + suc k) ≡ false
    apart = ne_eqb start (start + suc k) (λ same. omega (arith, same))

    by_mark : (b : Bool) → marks_told (reports_from (start + 1) slots) (start + suc k) ≡ shown (get_or slots k untold)
        → marks_told (cond b [] (record { shard = start; number = slot.mark; hosted = is_some slot.hosted } ∷ []) ++ reports_from (start + 1) slots) (start + suc k) ≡ shown (get_or slots k untold)
    by_mark true rest = rest
    by_mark false rest = ap (λ t. cond t (record { number = slot.mark; hosts = is_some slot.hosted }) (marks_told (reports_from (start + 1) slots) (start + suc k))) apart ∙ rest

pub told_marks : (region : RegionModel) → AreSlots region → marks_told (reports region) ≡ marks_of region
told_marks region all = λ i shard. (ap (marks_told (reports region)) (let e : shard ≡ 0 + shard = omega arith in e) ∙ told_at 0 region.slots all shard) i

-- a slot that is handed off stays one
pub handed_slot : (number : ℕ) (slot : ShardSlot) → IsSlot slot → IsSlot (handed_off number slot)
handed_slot number slot r = record {
  newest = λ m at. let k = kept (gives_up number slot) refl m at in let e = r.newest m k.0 in e ∙ sym (max-eq_left (let less = k.1 in omega (arith, e, less)));
  positive = λ m at. r.positive m (kept (gives_up number slot) refl m at).0;
}
  where
    still : (o : Option ℕ) (m : ℕ) → is_given_up number o ≡ false → o ≡ Some m → number < m
    still None m stays at = absurd (cc)
    still (Some k) m stays at = subst (λ x. number < x) (same_Some k m at) (leb-false k number stays)

    kept : (b : Bool) → gives_up number slot ≡ b → (m : ℕ) → cond {A = Option ℕ} b None slot.hosted ≡ Some m → (slot.hosted ≡ Some m) × (number < m)
    kept true gone m at = absurd (cc)
    kept false stays m at = (at, still slot.hosted m stays at)
