-- What stands at an index of a list after one element is replaced, and after some more.
use Rattle.std.proofs.Common.{◌≡◌, ◌≢◌, ℕ, zero, suc, ◌⊎◌, inl, inr, List, [], ◌∷◌, ◌++◌, length, slice_get, slice_set, Some, Contains, refl, sym, ap, ◌∙◌, subst, arith}
use Rattle.std.proofs.lemmas.Option.{same_Some}
use Rattle.ak_address.proofs.Elements.{contains_rest, contains_first}
use Rattle.ak_node.specs.declared.node.State.{State}
use Rattle.ak_node.specs.Node.{me_of}

-- ---- one element is replaced
-- what is true of each other element and of the new one is true of each
pub set_at : {X : Type 0} (P : ℕ → X → Type 0) (xs : List X) (index : ℕ) (x : X) → ((j : ℕ) (m : X) → slice_get xs j ≡ Some m → j ≢ index → P j m) → P index x
    → (j : ℕ) (m : X) → slice_get (slice_set xs index x) j ≡ Some m → P j m
set_at P [] index x each here j m is = absurd (cc)
set_at P (y ∷ ys) zero x each here zero m is = subst (P zero) (same_Some x m is) here
set_at P (y ∷ ys) zero x each here (suc j) m is = each (suc j) m is (λ no. absurd (omega arith))
set_at P (y ∷ ys) (suc index) x each here zero m is = each zero m is (λ no. absurd (omega arith))
set_at P (y ∷ ys) (suc index) x each here (suc j) m is = set_at (λ i. P (suc i)) ys index x (λ i k at apart. each (suc i) k at (λ no. apart (omega arith))) here j m is

pub set_here : {X : Type 0} (xs : List X) (index : ℕ) (n x : X) → slice_get xs index ≡ Some n → slice_get (slice_set xs index x) index ≡ Some x
set_here [] index n x at = absurd (cc)
set_here (y ∷ ys) zero n x at = refl
set_here (y ∷ ys) (suc index) n x at = set_here ys index n x at

-- an element is the new one, or was there
pub set_or : {X : Type 0} (xs : List X) (index j : ℕ) (x m : X) → slice_get (slice_set xs index x) j ≡ Some m → (m ≡ x) ⊎ (slice_get xs j ≡ Some m)
set_or xs index j x m is = set_at (λ i n. (n ≡ x) ⊎ (slice_get xs i ≡ Some n)) xs index x (λ i n at apart. inr at) (inl refl) j m is

-- one that was there is the one replaced, or is there still
pub set_elsewhere : {X : Type 0} (xs : List X) (index j : ℕ) (x m : X) → slice_get xs j ≡ Some m → ((j ≡ index) ⊎ (slice_get (slice_set xs index x) j ≡ Some m))
set_elsewhere [] index j x m is = absurd (cc)
set_elsewhere (y ∷ ys) zero zero x m is = inl refl
set_elsewhere (y ∷ ys) zero (suc j) x m is = inr is
set_elsewhere (y ∷ ys) (suc index) zero x m is = inr is
set_elsewhere (y ∷ ys) (suc index) (suc j) x m is = elim (set_elsewhere ys index j x m is) [ inl same ↦ inl (ap suc same) | inr there ↦ inr there ]

-- a process that stood at an index stands there still
pub set_back : (xs : List State) (index : ℕ) (n x : State) → slice_get xs index ≡ Some n → me_of x ≡ me_of n
    → (j : ℕ) (m : State) → slice_get xs j ≡ Some m → (k : State) × (slice_get (slice_set xs index x) j ≡ Some k) × (me_of k ≡ me_of m)
set_back xs index n x at same j m is = elim (set_elsewhere xs index j x m is) [
  | inl here ↦ (x, ap (slice_get (slice_set xs index x)) here ∙ set_here xs index n x at, same ∙ ap me_of (same_Some n m (sym at ∙ ap (slice_get xs) (sym here) ∙ is)))
  | inr there ↦ (m, there, refl)
]

-- ---- some more come
pub push_at : {X : Type 0} (P : ℕ → X → Type 0) (xs : List X) (x : X) → ((j : ℕ) (m : X) → slice_get xs j ≡ Some m → P j m) → P (length xs) x
    → (j : ℕ) (m : X) → slice_get (xs ++ x ∷ []) j ≡ Some m → P j m
push_at P [] x each here zero m is = subst (P zero) (same_Some x m is) here
push_at P [] x each here (suc j) m is = each (suc j) m is
push_at P (y ∷ ys) x each here zero m is = each zero m is
push_at P (y ∷ ys) x each here (suc j) m is = push_at (λ i. P (suc i)) ys x (λ i. each (suc i)) here j m is

pub push_here : {X : Type 0} (xs : List X) (x : X) → slice_get (xs ++ x ∷ []) (length xs) ≡ Some x
push_here [] x = refl
push_here (y ∷ ys) x = push_here ys x

pub prefix_at : {X : Type 0} (xs ys : List X) (j : ℕ) (m : X) → slice_get xs j ≡ Some m → slice_get (xs ++ ys) j ≡ Some m
prefix_at [] ys j m is = absurd (cc)
prefix_at (x ∷ xs) ys zero m is = is
prefix_at (x ∷ xs) ys (suc j) m is = prefix_at xs ys j m is

-- an element is one of those that came, or was there
pub last_or : {X : Type 0} (xs ys : List X) (j : ℕ) (m : X) → slice_get (xs ++ ys) j ≡ Some m → Contains ys m ⊎ (slice_get xs j ≡ Some m)
last_or [] [] j m is = absurd (cc)
last_or [] (y ∷ ys) zero m is = inl (subst (Contains (y ∷ ys)) (same_Some y m is) (contains_first y ys))
last_or [] (y ∷ ys) (suc j) m is = elim (last_or [] ys j m is) [ inl there ↦ inl (contains_rest y m ys there) | inr none ↦ absurd (cc) ]
last_or (x ∷ xs) ys zero m is = inr is
last_or (x ∷ xs) ys (suc j) m is = last_or xs ys j m is
