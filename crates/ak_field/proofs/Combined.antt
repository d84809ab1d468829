-- Fields made of fields: what is read is what is spelled, step by step.
use Rattle.std.proofs.Common.{◌≡◌, ℕ, zero, suc, Bool, true, false, cond, IsTrue, List, [], ◌∷◌, ◌++◌, Result, Ok, Err, refl, sym, ap, subst, ◌∙◌, append_assoc, arith}
use Rattle.ak_field.specs.declared.fault.WireFault.{WireFault}
use Rattle.ak_field.specs.Reading.{◌>>=◌, checked}
use Rattle.ak_field.specs.Laws.{IsBytes, IsField, IsPrefixFree}

-- ---- bytes
pub later_bytes : (xs ys : List ℕ) → IsBytes (xs ++ ys) → IsBytes ys
later_bytes [] ys h = h
later_bytes (x ∷ xs) ys h = later_bytes xs ys (λ i. h (suc i))

pub first_bytes : (xs ys : List ℕ) → IsBytes (xs ++ ys) → IsBytes xs
first_bytes [] ys h i = omega arith
first_bytes (x ∷ xs) ys h zero = h zero
first_bytes (x ∷ xs) ys h (suc i) = first_bytes xs ys (λ j. h (suc j)) i

-- ---- steps that did not fail
pub bind_ok : {A B : Type 0} (r : Result A WireFault) (f : A → Result B WireFault) (y : B) → (r >>= f) ≡ Ok y → (x : A) × (r ≡ Ok x) × (f x ≡ Ok y)
bind_ok (Ok x) f y e = (x, refl, e)
bind_ok (Err d) f y e = absurd cc

abbrev done : {A : Type 0} → A → Result A WireFault
done x = Ok x

pub ok_is : {A : Type 0} (x y : A) → done x ≡ done y → x ≡ y
ok_is x y e = cc

guard_ok : {A : Type 0} (b : Bool) (own : WireFault) (x y : A) → cond b (Ok x) (Err own) ≡ Ok y → (b ≡ true) × (x ≡ y)
guard_ok true own x y e = (refl, cc)
guard_ok false own x y e = absurd cc

pub checked_ok : {X : Type 0} (own : WireFault) (passes : X → Bool) (r : Result (X × List ℕ) WireFault) (y : X × List ℕ) → checked own passes r ≡ Ok y → (r ≡ Ok y) × IsTrue (passes y.0)
checked_ok own passes (Ok x) y e =
    let g = guard_ok (passes x.0) own x y e in
    (ap done g.1, ap (λ (z : _). passes z.0) (sym g.1) ∙ g.0)
checked_ok own passes (Err d) y e = absurd cc

-- ---- a field with a check
pub checked_field : {X : Type 0} (own : WireFault) (passes : X → Bool) (read : List ℕ → Result (X × List ℕ) WireFault) (spelled : X → List ℕ) (Before After : X → Type 0)
    → IsField read spelled Before → ((x : X) → After x → Before x × IsTrue (passes x)) → ((x : X) → Before x → IsTrue (passes x) → After x)
    → IsField (λ bytes. checked own passes (read bytes)) spelled After
checked_field {X} own passes read spelled Before After field down up = record {
  again = λ x rest valid.
      let d = down x valid in
      rw (field.again x rest d.0, d.1) refl;
  was = λ bytes x rest fits e.
      let c = checked_ok own passes (read bytes) (x, rest) e in
      let w = field.was bytes x rest fits c.0 in
      (w.0, up x w.1 c.1);
}

-- ---- a field whose value is made of what was read
pub made_field : {A C : Type 0} (read : List ℕ → Result (A × List ℕ) WireFault) (spelled : A → List ℕ) (Before : A → Type 0) (make : A → C) (part : C → A) (After : C → Type 0)
    → IsField read spelled Before
    → ((c : C) → After c → Before (part c) × (make (part c) ≡ c))
    → ((a : A) → Before a → IsBytes (spelled a) → (part (make a) ≡ a) × After (make a))
    → IsField (λ bytes. read bytes >>= λ field. Ok (make field.0, field.1)) (λ c. spelled (part c)) After
made_field {A} {C} read spelled Before make part After field down up = record {
  again = λ c rest valid.
      let d = down c valid in
      rw (field.again (part c) rest d.0, d.1) refl;
  was = λ bytes c rest fits e.
      let b = bind_ok (read bytes) (λ field. Ok (make field.0, field.1)) (c, rest) e in
      let w = field.was bytes b.0.0 b.0.1 fits b.1 in
      let u = up b.0.0 w.1 (first_bytes (spelled b.0.0) b.0.1 (subst IsBytes w.0 fits)) in
      let whole : bytes ≡ spelled (part (make b.0.0)) ++ b.0.1 = w.0 ∙ ap (λ (a : A). spelled a ++ b.0.1) (sym u.0) in
      subst (λ (y : C × List ℕ). (bytes ≡ spelled (part y.0) ++ y.1) × After y.0) (ok_is (make b.0.0, b.0.1) (c, rest) b.2) (whole, u.1);
}

-- ---- a field and those after it
pub first_field : {A C : Type 0} (read : List ℕ → Result (A × List ℕ) WireFault) (spelled : A → List ℕ) (Before : A → Type 0) (part : C → A)
    (others : A → List ℕ → Result (C × List ℕ) WireFault) (spelled_others : C → List ℕ) (After : A → C → Type 0) (Whole : C → Type 0)
    → IsField read spelled Before
    → ((a : A) → Before a → IsField (others a) spelled_others (After a))
    → ((c : C) → Whole c → Before (part c) × After (part c) c)
    → ((a : A) (c : C) → Before a → After a c → (part c ≡ a) × Whole c)
    → IsField (λ bytes. read bytes >>= λ field. others field.0 field.1) (λ c. spelled (part c) ++ spelled_others c) Whole
first_field {A} {C} read spelled Before part others spelled_others After Whole field after down up = record {
  again = λ c rest valid.
      let d = down c valid in
      let regrouped = append_assoc (spelled (part c)) (spelled_others c) rest in
      let first = ap read regrouped ∙ field.again (part c) (spelled_others c ++ rest) d.0 in
      rw first ((after (part c) d.0).again c rest d.1);
  was = λ bytes c rest fits e.
      let b = bind_ok (read bytes) (λ field. others field.0 field.1) (c, rest) e in
      let w = field.was bytes b.0.0 b.0.1 fits b.1 in
      let v = (after b.0.0 w.1).was b.0.1 c rest (later_bytes (spelled b.0.0) b.0.1 (subst IsBytes w.0 fits)) b.2 in
      let u = up b.0.0 c w.1 v.1 in
      let whole : bytes ≡ spelled b.0.0 ++ (spelled_others c ++ rest) = w.0 ∙ ap (λ (t : List ℕ). spelled b.0.0 ++ t) v.0 in
      let named : bytes ≡ spelled (part c) ++ (spelled_others c ++ rest) = whole ∙ ap (λ (a : A). spelled a ++ (spelled_others c ++ rest)) (sym u.0) in
      (named ∙ sym (append_assoc (spelled (part c)) (spelled_others c) rest), u.1);
}

-- ---- the same field, its ranges said in other words
pub valid_field : {X : Type 0} (read : List ℕ → Result (X × List ℕ) WireFault) (spelled : X → List ℕ) (One Other : X → Type 0)
    → IsField read spelled One → ((x : X) → Other x → One x) → ((x : X) → One x → Other x) → IsField read spelled Other
valid_field read spelled One Other field down up = record {
  again = λ x rest valid. field.again x rest (down x valid);
  was = λ bytes x rest fits e. let w = field.was bytes x rest fits e in (w.0, up x w.1);
}

-- ---- the same field, its spelling said in other words
pub respelled : {X : Type 0} (read : List ℕ → Result (X × List ℕ) WireFault) (one other : X → List ℕ) (Valid : X → Type 0) → IsField read one Valid → ((x : X) → Valid x → one x ≡ other x) → IsField read other Valid
respelled read one other Valid field same = record {
  again = λ x rest valid. ap (λ (l : List ℕ). read (l ++ rest)) (sym (same x valid)) ∙ field.again x rest valid;
  was = λ bytes x rest fits e. let w = field.was bytes x rest fits e in (w.0 ∙ ap (λ (l : List ℕ). l ++ rest) (same x w.1), w.1);
}

-- ---- no spelling begins another
pub prefix_free : {X : Type 0} (read : List ℕ → Result (X × List ℕ) WireFault) (spelled : X → List ℕ) (Valid : X → Type 0) → IsField read spelled Valid → IsPrefixFree spelled Valid
prefix_free {X} read spelled Valid field x y more other valid too same =
    let both : (x, more) ≡ (y, other) = ok_is (x, more) (y, other) (sym (field.again x more valid) ∙ ap read same ∙ field.again y other too) in
    (ap (λ (p : X × List ℕ). p.0) both, ap (λ (p : X × List ℕ). p.1) both)
