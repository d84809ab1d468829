-- The first of the loads comes before the others.
use Rattle.std.proofs.Common.{◌≡◌, ◌≢◌, ◌↔◌, ℕ, ◌+◌, ◌<◌, ◌≤◌, Bool, true, false, List, [], ◌∷◌, Contains, Option, Some, None, is_some, unwrap_or, nat_lt, inl, inr, if◌then◌else◌, refl, sym, ap, ◌∙◌, subst, arith, true≢false}
use Rattle.std.specs.Ordering.{nat_cmp, ordering_then, ordering_reverse, is_lt, is_gt}
use Rattle.std.specs.declared.cmp.Ordering.{Ordering}
use Rattle.std.specs.declared.cmp.Ordering.TheVariants.{Less, Equal, Greater}
use Rattle.std.specs.Cmp.{IsTotalOrder}
use Rattle.std.proofs.lemmas.Bool.{ltb-true, ltb-false}
use Rattle.std.proofs.lemmas.Cmp.{on_total, then_total, back_total, nat_cmp_total, tied_itself, upto}
use Rattle.std.proofs.lemmas.Map.Keys.{ge_from_not_lt}
use Rattle.ak_address.specs.Unique.{unique_cmp}
use Rattle.ak_address.proofs.OrderLemmas.{unique_total}
use Rattle.ak_address.proofs.Elements.{contains_first, contains_rest, first_or_rest, contains_nothing}
use Rattle.ak_allocation.specs.declared.load.Load.{Load}
use Rattle.ak_allocation.specs.declared.allocation.Side.{Side}
use Rattle.ak_allocation.specs.declared.allocation.Side.TheVariants.{Lightest, Heaviest}
use Rattle.ak_allocation.specs.Allocation.{load_cmp, first_with, first_of, lightest, heaviest, exceeding, overloaded}
use Rattle.ak_allocation.specs.Meaning.{IsLightest, IsHeaviest}

load_total : (side : Side) → IsTotalOrder (load_cmp side)
load_total Lightest = then_total (on_total (λ l. l.shards) nat_cmp_total) (on_total (λ l. l.unique) unique_total)
load_total Heaviest = then_total (back_total (on_total (λ l. l.shards) nat_cmp_total)) (on_total (λ l. l.unique) unique_total)

-- no other one comes earlier
record IsFirst (side : Side) (loads : List Load) (load : Load) : Type 0 where
  there : Contains loads load
  first : (other : Load) → Contains loads other → is_gt (load_cmp side load other) ≡ false

turned : (r : Ordering) → is_gt r ≡ is_lt (ordering_reverse r)
turned Less = refl
turned Equal = refl
turned Greater = refl

turned_back : (r : Ordering) → is_lt r ≡ true → is_gt r ≡ false
turned_back Less is = refl
turned_back Equal is = absurd (true≢false (sym is))
turned_back Greater is = absurd (true≢false (sym is))

turn : (side : Side) (x y : Load) → is_gt (load_cmp side x y) ≡ is_lt (load_cmp side y x)
turn side x y = turned (load_cmp side x y) ∙ ap is_lt (sym ((load_total side).antisymm y x))

alone : (side : Side) (x : Load) → is_gt (load_cmp side x x) ≡ false
alone side x = ap is_gt (tied_itself (load_total side) x)

nothing : (side : Side) (loads : List Load) → first_of side loads ≡ None → loads ≡ []
nothing side [] is = refl
nothing side (x ∷ loads) is = absurd (true≢false (ap is_some is))

first_is : (side : Side) (loads : List Load) (load : Load) → first_of side loads ≡ Some load → IsFirst side loads load
first_is side [] load is = absurd (true≢false (sym (ap is_some is)))
first_is side (x ∷ loads) load is = next (λ y. first_is side loads y) (first_of side loads) refl (ap (λ o. unwrap_or o load) is)
  where
    next : ((y : Load) → first_of side loads ≡ Some y → IsFirst side loads y) → (f : Option Load) → first_of side loads ≡ f → first_with side x (first_of side loads) ≡ load → IsFirst side (x ∷ loads) load
    next later_is None rest same = subst (IsFirst side (x ∷ loads)) (ap (λ f. first_with side x f) (sym rest) ∙ same) (record {
      there = contains_first x loads;
      first = λ other there. elim (first_or_rest x other loads there) [
        | inl is_x ↦ ap (λ o. is_gt (load_cmp side x o)) is_x ∙ alone side x
        | inr later ↦ absurd (contains_nothing other (subst (λ ls. Contains ls other) (nothing side loads rest) later))
      ];
    })
    next later_is (Some y) rest same = by_order (is_lt (load_cmp side y x)) refl
      where
        ahead : IsFirst side loads y
        ahead = later_is y rest

        chosen : (b : Bool) → is_lt (load_cmp side y x) ≡ b → (if b then y else x) ≡ load
        chosen b lt = ap (λ t. if t then y else x) (sym lt) ∙ ap (λ f. first_with side x f) (sym rest) ∙ same

        by_order : (b : Bool) → is_lt (load_cmp side y x) ≡ b → IsFirst side (x ∷ loads) load
        by_order true lt = subst (IsFirst side (x ∷ loads)) (chosen true lt) (record {
          there = contains_rest x y loads ahead.there;
          first = λ other there. elim (first_or_rest x other loads there) [
            | inl is_x ↦ ap (λ o. is_gt (load_cmp side y o)) is_x ∙ turned_back (load_cmp side y x) lt
            | inr later ↦ ahead.first other later
          ];
        })
        by_order false lt = subst (IsFirst side (x ∷ loads)) (chosen false lt) (record {
          there = contains_first x loads;
          first = λ other there. elim (first_or_rest x other loads there) [
            | inl is_x ↦ ap (λ o. is_gt (load_cmp side x o)) is_x ∙ alone side x
            | inr later ↦ upto (load_total side) x y other (turn side x y ∙ lt) (ahead.first other later)
          ];
        })

-- ---- by numbers, and then by process
first_no_more : (o q : Ordering) → is_gt (ordering_then o q) ≡ false → is_gt o ≡ false
first_no_more Less q h = refl
first_no_more Equal q h = refl
first_no_more Greater q h = absurd (true≢false h)

at_most : (m n : ℕ) (q : Ordering) → is_gt (ordering_then (nat_cmp m n) q) ≡ false → m ≤ n
at_most m n q h =
    ge_from_not_lt n m (sym (turned (nat_cmp m n) ∙ ap is_lt (sym (nat_cmp_total.antisymm n m))) ∙ first_no_more (nat_cmp m n) q h)

not_before : (n : ℕ) (load other : Load) → is_gt (ordering_then (nat_cmp n n) (unique_cmp load.unique other.unique)) ≡ false → unique_cmp other.unique load.unique ≢ Less
not_before n load other h less =
    true≢false (
    ap is_lt (sym less) ∙ ap is_lt (unique_total.antisymm other.unique load.unique) ∙ sym (turned (unique_cmp load.unique other.unique))
    ∙ ap (λ o. is_gt (ordering_then o (unique_cmp load.unique other.unique))) (sym (tied_itself nat_cmp_total n)) ∙ h
    )

pub lightest_is : (loads : List Load) (load : Load) → lightest loads ≡ Some load → IsLightest loads load
lightest_is loads load is =
    let f = first_is Lightest loads load is in
    record {
      there = f.there;
      fewest = λ other there. at_most load.shards other.shards _ (f.first other there);
      first = λ other there same. not_before load.shards load other (ap (λ n. is_gt (ordering_then (nat_cmp load.shards n) (unique_cmp load.unique other.unique))) (sym same) ∙ f.first other there);
    }

heaviest_is : (loads : List Load) (load : Load) → heaviest loads ≡ Some load → IsHeaviest loads load
heaviest_is loads load is =
    let f = first_is Heaviest loads load is in
    record {
      there = f.there;
      most = λ other there. at_most other.shards load.shards _ (f.first other there);
      first = λ other there same. not_before load.shards load other (ap (λ n. is_gt (ordering_then (nat_cmp n load.shards) (unique_cmp load.unique other.unique))) (sym same) ∙ f.first other there);
    }

pub nobody_without_loads : (loads : List Load) → (lightest loads ≡ None) ↔ (loads ≡ [])
nobody_without_loads loads = (nothing Lightest loads, λ is. ap lightest is)

abbrev Exceeds : List Load → ℕ → Load → Type 0
Exceeds loads threshold load = IsHeaviest loads load × ((light : Load) × IsLightest loads light × (light.shards + threshold < load.shards))

pub overloaded_is : (loads : List Load) (threshold : ℕ) (load : Load) → overloaded loads threshold ≡ Some load → Exceeds loads threshold load
overloaded_is loads threshold load is = next (heaviest loads) (lightest loads) refl refl is
  where
    by_test : (heavy light : Load) → heaviest loads ≡ Some heavy → lightest loads ≡ Some light → (b : Bool) → nat_lt (light.shards + threshold) heavy.shards ≡ b
        → (if b then Some heavy else None) ≡ Some load → Exceeds loads threshold load
    by_test heavy light most least true lt is = subst (Exceeds loads threshold) (ap (λ o. unwrap_or o load) is) (heaviest_is loads heavy most, (light, lightest_is loads light least, ltb-true _ _ lt))
    by_test heavy light most least false lt is = absurd (true≢false (sym (ap is_some is)))

    next : (h l : Option Load) → heaviest loads ≡ h → lightest loads ≡ l → exceeding threshold h l ≡ Some load → Exceeds loads threshold load
    next None l most least is = absurd (true≢false (sym (ap is_some is)))
    next (Some heavy) None most least is = absurd (true≢false (sym (ap is_some is)))
    next (Some heavy) (Some light) most least is = by_test heavy light most least (nat_lt (light.shards + threshold) heavy.shards) refl is

pub within_threshold : (loads : List Load) (threshold : ℕ) → overloaded loads threshold ≡ None → (heavy light : Load) → heaviest loads ≡ Some heavy → lightest loads ≡ Some light → heavy.shards ≤ light.shards + threshold
within_threshold loads threshold none heavy light most least =
    by_test (nat_lt (light.shards + threshold) heavy.shards) refl (sym (λ i. exceeding threshold (most i) (least i)) ∙ none)
  where
    by_test : (b : Bool) → nat_lt (light.shards + threshold) heavy.shards ≡ b → (if b then Some heavy else None) ≡ None → heavy.shards ≤ light.shards + threshold
    by_test true lt is = absurd (true≢false (ap is_some is))
    by_test false lt is = let le = ltb-false _ _ lt in omega arith
