-- How many bytes spellings have, item by item.
use Rattle.std.proofs.Common.{◌≡◌, ℕ, zero, suc, ◌+◌, ◌*◌, ◌≤◌, List, [], ◌∷◌, ◌++◌, length, slice_get, drop, Some, refl, ap, ◌∙◌, arith}
use Rattle.std.specs.List.{flat_map}
use Rattle.std.proofs.lemmas.List.{length-append}
use Rattle.std.proofs.lemmas.List.Concat.{flat_map-cons}
use Rattle.std.proofs.lemmas.Option.{same_Some}
use Rattle.ak_address.proofs.BoolLemmas.{none_there}
use Rattle.ak_shard_id.specs.declared.report.Report.{Report}
use Rattle.ak_field.specs.Spelling.{report}

module _ {X : Type 0} (spelled : X → List ℕ) (xs : List X) where
  -- after i of the items, with those that are left it comes to all
  abbrev pub Measured : ℕ → ℕ → Type 0
  Measured i total = total + length (flat_map spelled (drop i xs)) ≡ length (flat_map spelled xs)

  pub more : (i mid new : ℕ) (x : X) → slice_get xs i ≡ Some x → new ≡ mid + length (spelled x) → Measured i mid → Measured (i + 1) new
  more i mid new x at added so_far =
      let rest : flat_map spelled (drop i xs) ≡ spelled x ++ flat_map spelled (drop (i + 1) xs) = ap (flat_map spelled) (drop_at_index xs i x at) ∙ flat_map-cons spelled x (drop (i + 1) xs) in
      let len : length (flat_map spelled (drop i xs)) ≡ length (spelled x) + length (flat_map spelled (drop (i + 1) xs)) = ap length rest ∙ length-append (spelled x) (flat_map spelled (drop (i + 1) xs)) in
      omega (arith, len, added, so_far)
    where
      drop_at_index : (ys : List X) (j : ℕ) (y : X) → slice_get ys j ≡ Some y → drop j ys ≡ y ∷ drop (j + 1) ys
      drop_at_index [] j y at = absurd (none_there y at)
      drop_at_index (z ∷ ys) zero y at = ap (λ (w : X). w ∷ ys) (same_Some z y at)
      drop_at_index (z ∷ ys) (suc j) y at = let one : suc (j + 1) ≡ suc j + 1 = omega arith in drop_at_index ys j y at ∙ ap (λ (k : ℕ). y ∷ drop k (z ∷ ys)) one

  pub whole : (i total : ℕ) → length xs ≤ i → Measured i total → total ≡ length (flat_map spelled xs)
  whole i total le so_far =
      let none : length (flat_map spelled (drop i xs)) ≡ 0 = ap (λ (ys : List X). length (flat_map spelled ys)) (past xs i le) in
      omega (arith, none, so_far)
    where
      past : (ys : List X) (j : ℕ) → length ys ≤ j → drop j ys ≡ []
      past [] zero le = refl
      past [] (suc j) le = refl
      past (y ∷ ys) zero le = absurd (omega (arith, le))
      past (y ∷ ys) (suc j) le = past ys j (omega (arith, le))

pub reports_measured : (rs : List Report) → length (flat_map report rs) ≡ 11 * length rs
reports_measured [] = refl
reports_measured (r ∷ rs) =
    let one : length (report r) ≡ 11 = refl in
    let more : length (flat_map report (r ∷ rs)) ≡ length (report r) + length (flat_map report rs) = ap length (flat_map-cons report r rs) ∙ length-append (report r) (flat_map report rs) in
    omega (arith, one, more, reports_measured rs)
