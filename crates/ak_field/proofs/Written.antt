-- What is appended, piece by piece and item by item.
use Rattle.std.proofs.Common.{◌≡◌, ◌≢◌, ℕ, zero, suc, ◌+◌, ◌≤◌, true, List, [], ◌∷◌, ◌++◌, length, slice_get, drop, Option, Some, refl, sym, ap, subst, ◌∙◌, append_assoc, arith}
use Rattle.std.specs.List.{flat_map}
use Rattle.std.proofs.lemmas.List.{append-nil}
use Rattle.std.proofs.lemmas.List.Concat.{flat_map-cons}
use Rattle.std.proofs.lemmas.Option.{same_Some}
use Rattle.ak_address.proofs.BoolLemmas.{none_there}
use Rattle.ak_shard_id.specs.declared.report.Report.{Report}
use Rattle.ak_gossip.specs.declared.part.Part.{Part}
use Rattle.ak_gossip.specs.Parts.{IsPart, AreParts}
use Rattle.ak_gossip.specs.PartsWalk.{ascend_from}
use Rattle.ak_gossip.proofs.PartsOrder.{IsHead, head_of, test_of}
use Rattle.ak_field.specs.Ranges.{IsShard}
use Rattle.ak_field.specs.Lists.{AllAfter, IsReport}
use Rattle.ak_field.specs.Parts.{indices, subjects}

-- one piece and then those after it
pub appended : (old mid new one more : List ℕ) → mid ≡ old ++ one → new ≡ mid ++ more → new ≡ old ++ (one ++ more)
appended old mid new one more first second = second ∙ ap (λ (l : List ℕ). l ++ more) first ∙ append_assoc old one more

module _ {X : Type 0} (spelled : X → List ℕ) (xs : List X) (old : List ℕ) where
  -- after i of the items, with those that are left it comes to all
  abbrev pub Written : ℕ → List ℕ → Type 0
  Written i new = new ++ flat_map spelled (drop i xs) ≡ old ++ flat_map spelled xs

  pub goes_on : (i : ℕ) (mid new : List ℕ) (x : X) → slice_get xs i ≡ Some x → new ≡ mid ++ spelled x → Written i mid → Written (i + 1) new
  goes_on i mid new x at added so_far =
      let rest : flat_map spelled (drop i xs) ≡ spelled x ++ flat_map spelled (drop (i + 1) xs) = ap (flat_map spelled) (drop_at_index xs i x at) ∙ flat_map-cons spelled x (drop (i + 1) xs) in
      ap (λ (l : List ℕ). l ++ flat_map spelled (drop (i + 1) xs)) added ∙ append_assoc mid (spelled x) (flat_map spelled (drop (i + 1) xs)) ∙ ap (λ (l : List ℕ). mid ++ l) (sym rest) ∙ so_far
    where
      drop_at_index : (ys : List X) (j : ℕ) (y : X) → slice_get ys j ≡ Some y → drop j ys ≡ y ∷ drop (j + 1) ys
      drop_at_index [] j y at = absurd (none_there y at)
      drop_at_index (z ∷ ys) zero y at = ap (λ (w : X). w ∷ ys) (same_Some z y at)
      drop_at_index (z ∷ ys) (suc j) y at = let one : suc (j + 1) ≡ suc j + 1 = omega arith in drop_at_index ys j y at ∙ ap (λ (k : ℕ). y ∷ drop k (z ∷ ys)) one

  pub is_done : (i : ℕ) (new : List ℕ) → length xs ≤ i → Written i new → new ≡ old ++ flat_map spelled xs
  is_done i new le so_far = sym (append-nil new) ∙ ap (λ (l : List ℕ). new ++ l) (sym (ap (flat_map spelled) (past xs i le))) ∙ so_far
    where
      past : (ys : List X) (j : ℕ) → length ys ≤ j → drop j ys ≡ []
      past [] zero le = refl
      past [] (suc j) le = refl
      past (y ∷ ys) zero le = absurd (omega (arith, le))
      past (y ∷ ys) (suc j) le = past ys j (omega (arith, le))

-- ---- what is asked of each item
pub report_fits : (last : Option Report) (rs : List Report) → AllAfter IsReport last rs → (i : ℕ) (r : Report) → slice_get rs i ≡ Some r → IsShard r.shard
report_fits last [] each i r at = absurd (none_there r at)
report_fits last (x ∷ rs) each zero r at = subst (λ (y : Report). IsShard y.shard) (same_Some x r at) each.0.shard
report_fits last (x ∷ rs) each (suc i) r at = report_fits (Some x) rs each.1 i r at

fits_below : (least end : ℕ) (list : List ℕ) → least ≤ end → ascend_from least end list ≡ true → least + length list ≤ end
fits_below least end [] le h = omega (arith, le)
fits_below least end (x ∷ list) le h =
    let head : IsHead least end x list = head_of least end x list h in
    let more = fits_below (x + 1) end list (omega (arith, head.below)) head.after in
    omega (arith, more, head.above)

pub subjects_fit : (many : ℕ) (p : Part) → IsPart many p → length p.subjects ≤ many
subjects_fit many p is =
    let fits = fits_below 0 many p.subjects (omega arith) (test_of 0 many p.subjects (λ _ _ _. omega arith) is.below is.ascending) in
    omega (arith, fits)

pub part_fits : (list : List Part) → AreParts list → (i : ℕ) (p : Part) → slice_get list i ≡ Some p → length p.subjects ≤ 128
part_fits list are i p at = omega (arith, subjects_fit (length list) p (are.each i p at), are.few)

pub subjects_there : (number : ℕ) (list : List ℕ) → number ≢ 0 → subjects number list ≡ indices list
subjects_there zero list some = absurd (some refl)
subjects_there (suc number) list some = refl
