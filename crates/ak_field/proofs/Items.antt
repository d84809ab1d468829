-- Lists of items: a loop that reads them, and that they are read as they are spelled.
use Rattle.std.proofs.Common.{◌≡◌, ℕ, zero, suc, ◌+◌, ◌-◌, ◌<◌, ◌≤◌, List, [], ◌∷◌, ◌++◌, length, slice_get, Option, Some, None, Result, Ok, Err, refl, sym, ap, subst, ◌∙◌, append_assoc, arith}
use Rattle.std.specs.List.{flat_map}
use Rattle.std.proofs.lemmas.List.{append-nil, length-append}
use Rattle.std.proofs.lemmas.List.Concat.{flat_map-cons}
use Rattle.ak_field.specs.declared.fault.WireFault.{WireFault}
use Rattle.ak_field.specs.Reading.{◌>>=◌, items_at, last_of, Fails}
use Rattle.ak_field.specs.Laws.{IsBytes, IsField}
use Rattle.ak_field.specs.Lists.{AllAfter}
use Rattle.ak_field.proofs.Steps.{fails_first}
use Rattle.ak_field.proofs.Combined.{later_bytes, bind_ok, ok_is}

-- ---- loops
-- the items before those that are read
abbrev pub with_front : {X : Type 0} → List X → Result (List X × List ℕ) WireFault → Result (List X × List ℕ) WireFault
with_front front read = read >>= λ others. Ok (front ++ others.0, others.1)

with_none : {X : Type 0} (r : Result (List X × List ℕ) WireFault) → with_front [] r ≡ r
with_none (Ok x) = refl
with_none (Err fault) = refl

regroup : {X : Type 0} (front : List X) (x : X) (r : Result (List X × List ℕ) WireFault) → with_front front (r >>= λ others. Ok (x ∷ others.0, others.1)) ≡ with_front (front ++ x ∷ []) r
regroup {X} front x (Ok others) = ap (λ (xs : List X). Ok (xs, others.1)) (sym (append_assoc front (x ∷ []) others.0))
regroup front x (Err fault) = refl

at_end : {X : Type 0} (xs : List X) (x : X) → slice_get (xs ++ x ∷ []) (length xs) ≡ Some x
at_end [] x = refl
at_end (y ∷ xs) x = at_end xs x

pub last_added : {X : Type 0} (xs : List X) (x : X) → last_of (xs ++ x ∷ []) ≡ Some x
last_added xs x =
    let len : length (xs ++ x ∷ []) - 1 ≡ length xs = omega (arith, length-append xs (x ∷ [])) in
    ap (slice_get (xs ++ x ∷ [])) len ∙ at_end xs x

module _ {X : Type 0} (item : Option X → List ℕ → Result (X × List ℕ) WireFault) where
  -- after i of so many turns, with these items read and these bytes left, the whole comes to this
  abbrev pub Reached : List X → ℕ → ℕ → List ℕ → Result (List X × List ℕ) WireFault → Type 0
  Reached front many i left total = with_front front (items_at item (last_of front) (many - i) left) ≡ total

  pub starts : (many : ℕ) (bytes : List ℕ) → Reached [] many 0 bytes (items_at item None many bytes)
  starts many bytes = ap (λ (n : ℕ). with_front [] (items_at item None n bytes)) (omega arith) ∙ with_none (items_at item None many bytes)

  pub goes_on : (front new : List X) (many i : ℕ) (left after : List ℕ) (total : Result (List X × List ℕ) WireFault) → i < many → (x : X) → item (last_of front) left ≡ Ok (x, after) → new ≡ front ++ x ∷ []
      → Reached front many i left total → Reached new many (i + 1) after total
  unfolding items_at
  goes_on front new many i left after total lt x is added so_far =
      let k : many - i ≡ suc (many - (i + 1)) = omega arith in
      let one : with_front front (items_at item (last_of front) (many - i) left) ≡ with_front (front ++ x ∷ []) (items_at item (Some x) (many - (i + 1)) after) = rw (k, is) (regroup front x (items_at item (Some x) (many - (i + 1)) after)) in
      let last : last_of (front ++ x ∷ []) ≡ Some x = last_added front x in
      let two : Reached (front ++ x ∷ []) many (i + 1) after total = ap (λ (o : Option X). with_front (front ++ x ∷ []) (items_at item o (many - (i + 1)) after)) last ∙ sym one ∙ so_far in
      subst (λ (xs : List X). Reached xs many (i + 1) after total) (sym added) two

  pub ends : (fault : WireFault) (front : List X) (many i : ℕ) (left : List ℕ) (total : Result (List X × List ℕ) WireFault) → i < many → Fails fault (item (last_of front) left)
      → Reached front many i left total → Fails fault total
  unfolding items_at
  ends fault front many i left total lt h so_far =
      let k : many - i ≡ suc (many - (i + 1)) = omega arith in
      let rest : X × List ℕ → Result (List X × List ℕ) WireFault = λ first. items_at item (Some first.0) (many - (i + 1)) first.1 >>= λ others. Ok (first.0 ∷ others.0, others.1) in
      let one : Fails fault (with_front front (item (last_of front) left >>= rest)) = fails_first fault (item (last_of front) left >>= rest) (λ others. Ok (front ++ others.0, others.1)) (fails_first fault (item (last_of front) left) rest h) in
      let two : Fails fault (with_front front (items_at item (last_of front) (many - i) left)) = rw k one in
      subst (Fails fault) so_far two

  pub is_done : (front : List X) (many i : ℕ) (left : List ℕ) (total : Result (List X × List ℕ) WireFault) → many ≤ i → Reached front many i left total → total ≡ Ok (front, left)
  unfolding items_at
  is_done front many i left total le so_far =
      let k : many - i ≡ 0 = omega arith in
      let one : with_front front (items_at item (last_of front) (many - i) left) ≡ Ok (front, left) = rw k (ap (λ (xs : List X). Ok (xs, left)) (append-nil front)) in
      sym so_far ∙ one

  -- ---- the law
  module _ (spelled : X → List ℕ) (Valid : Option X → X → Type 0) (each : (last : Option X) → IsField (item last) spelled (Valid last)) where
    again : (last : Option X) (xs : List X) (rest : List ℕ) → AllAfter Valid last xs → items_at item last (length xs) (flat_map spelled xs ++ rest) ≡ Ok (xs, rest)
    unfolding items_at
    again last [] rest valid = refl
    again last (x ∷ xs) rest valid =
        let regrouped : flat_map spelled (x ∷ xs) ++ rest ≡ spelled x ++ (flat_map spelled xs ++ rest) = ap (λ (t : List ℕ). t ++ rest) (flat_map-cons spelled x xs) ∙ append_assoc (spelled x) (flat_map spelled xs) rest in
        ap (items_at item last (suc (length xs))) regrouped ∙ rw ((each last).again x (flat_map spelled xs ++ rest) valid.0, again (Some x) xs rest valid.1) refl

    was : (many : ℕ) (last : Option X) (bytes : List ℕ) (xs : List X) (rest : List ℕ) → IsBytes bytes → items_at item last many bytes ≡ Ok (xs, rest) → (bytes ≡ flat_map spelled xs ++ rest) × (length xs ≡ many) × AllAfter Valid last xs
    unfolding items_at
    was zero last bytes xs rest fits e =
        subst (λ (y : List X × List ℕ). (bytes ≡ flat_map spelled y.0 ++ y.1) × (length y.0 ≡ 0) × AllAfter Valid last y.0) (ok_is ([], bytes) (xs, rest) e) (refl, refl, tt)
    was (suc many) last bytes xs rest fits e =
        let a = bind_ok (item last bytes) (λ first. items_at item (Some first.0) many first.1 >>= λ others. Ok (first.0 ∷ others.0, others.1)) (xs, rest) e in
        let b = bind_ok (items_at item (Some a.0.0) many a.0.1) (λ others. Ok (a.0.0 ∷ others.0, others.1)) (xs, rest) a.2 in
        let first = (each last).was bytes a.0.0 a.0.1 fits a.1 in
        let second = was many (Some a.0.0) a.0.1 b.0.0 b.0.1 (later_bytes (spelled a.0.0) a.0.1 (subst IsBytes first.0 fits)) b.1 in
        let whole : bytes ≡ flat_map spelled (a.0.0 ∷ b.0.0) ++ b.0.1 =
        first.0 ∙ ap (λ (t : List ℕ). spelled a.0.0 ++ t) second.0 ∙ sym (append_assoc (spelled a.0.0) (flat_map spelled b.0.0) b.0.1) ∙ ap (λ (t : List ℕ). t ++ b.0.1) (sym (flat_map-cons spelled a.0.0 b.0.0)) in
        subst (λ (y : List X × List ℕ). (bytes ≡ flat_map spelled y.0 ++ y.1) × (length y.0 ≡ suc many) × AllAfter Valid last y.0) (ok_is (a.0.0 ∷ b.0.0, b.0.1) (xs, rest) b.2) (whole, ap suc second.1, (first.1, second.2))

    pub items_field : (many : ℕ) (last : Option X) → IsField (items_at item last many) (flat_map spelled) (λ xs. (length xs ≡ many) × AllAfter Valid last xs)
    items_field many last = record {
      again = λ xs rest valid. subst (λ (n : ℕ). items_at item last n (flat_map spelled xs ++ rest) ≡ Ok (xs, rest)) valid.0 (again last xs rest valid.1);
      was = λ bytes xs rest fits e. let w = was many last bytes xs rest fits e in (w.0, (w.1, w.2));
    }
