-- The first of the loads, found from the last one on.
use Rattle.std.proofs.Common.{◌≡◌, ℕ, suc, ◌+◌, ◌<◌, inl, inr, true, false, List, ◌∷◌, drop, drop-cons, length, Option, Some, None, is_some, true≢false, get_or, unwrap_or, slice_get, if◌then◌else◌, sym, ap, ◌∙◌, add-one, arith}
use Rattle.std.proofs.lemmas.Option.{slice_get_within, slice_get_cases, get_or_from_slice_get}
use Rattle.std.specs.Ordering.{is_lt}
use Rattle.ak_allocation.specs.declared.load.Load.{Load}
use Rattle.ak_allocation.specs.declared.allocation.Side.{Side}
use Rattle.ak_allocation.specs.Allocation.{load_cmp, first_with, first_of, IsIndexOf}

at_drop : (loads : List Load) (i : ℕ) (x : Load) → slice_get loads i ≡ Some x → drop i loads ≡ x ∷ drop (i + 1) loads
at_drop loads i x is =
    drop-cons loads i x (slice_get_within loads i x is)
    ∙ ap (λ y. y ∷ drop (suc i) loads) (get_or_from_slice_get loads i x x is)
    ∙ ap (λ n. x ∷ drop n loads) (sym (add-one i))

-- what the first of the loads is, from an index on
first_here : (side : Side) (loads : List Load) (i : ℕ) (x : Load) → slice_get loads i ≡ Some x → first_of side (drop i loads) ≡ Some (first_with side x (first_of side (drop (i + 1) loads)))
first_here side loads i x is = ap (first_of side) (at_drop loads i x is)

-- a later one comes first
pub later_first : (side : Side) (loads : List Load) (i o : ℕ) (x y : Load) → slice_get loads i ≡ Some x → slice_get loads o ≡ Some y → IsIndexOf loads (Some o) (first_of side (drop (i + 1) loads))
    → is_lt (load_cmp side y x) ≡ true → IsIndexOf loads (Some o) (first_of side (drop i loads))
later_first side loads i o x y here there other lt =
    let same : other.0 ≡ y = ap (λ f. unwrap_or f y) (sym other.2 ∙ there) in
    (y, first_here side loads i x here ∙ ap (λ f. Some (first_with side x f)) (other.1 ∙ ap Some same) ∙ ap (λ b. Some (if b then y else x)) lt, there)

-- the one at the index comes first
pub this_first : (side : Side) (loads : List Load) (i o : ℕ) (x y : Load) → slice_get loads i ≡ Some x → slice_get loads o ≡ Some y → IsIndexOf loads (Some o) (first_of side (drop (i + 1) loads))
    → is_lt (load_cmp side y x) ≡ false → IsIndexOf loads (Some i) (first_of side (drop i loads))
this_first side loads i o x y here there other lt =
    let same : other.0 ≡ y = ap (λ f. unwrap_or f y) (sym other.2 ∙ there) in
    (x, first_here side loads i x here ∙ ap (λ f. Some (first_with side x f)) (other.1 ∙ ap Some same) ∙ ap (λ b. Some (if b then y else x)) lt, here)

pub only_first : (side : Side) (loads : List Load) (i : ℕ) → i < length loads → first_of side (drop (i + 1) loads) ≡ None → IsIndexOf loads (Some i) (first_of side (drop i loads))
only_first side loads i within none = elim (slice_get_cases loads i).1 [
  | inl here ↦ (here.0, first_here side loads i here.0 here.2 ∙ ap (λ f. Some (first_with side here.0 f)) none, here.2)
  | inr past ↦ let le = past.0 in absurd (omega arith)
]

-- the load at an index that is that of some load
pub there : (loads : List Load) (other : Option ℕ) (o : ℕ) (y : Load) (load : Option Load) → other ≡ Some o → IsIndexOf loads other load → y ≡ get_or loads o y → slice_get loads o ≡ Some y
there loads None o y load is other read = absurd (true≢false (sym (ap is_some is)))
there loads (Some p) o y load is other read =
    let same : p ≡ o = ap (λ q. unwrap_or q o) is in
    let at = ap (slice_get loads) (sym same) ∙ other.2 in
    at ∙ ap Some (sym (get_or_from_slice_get loads o other.0 y at) ∙ sym read)
