-- The oldest of some members: the first of those with the least number.
use Rattle.std.proofs.Common.{◌≡◌, ℕ, ◌≤◌, Bool, true, false, cond, nat_lt, ◌⊎◌, inl, inr, List, [], ◌∷◌, Option, None, Some, option_to_list, slice_get, length, drop, ◌+◌, Contains, refl, sym, ap, ◌∙◌, subst, arith}
use Rattle.std.proofs.lemmas.Bool.{ltb-true, ltb-false}
use Rattle.std.proofs.lemmas.Option.{same_Some, none-some}
use Rattle.ak_address.specs.Unique.{AddressModel, UniqueModel}
use Rattle.ak_address.proofs.Elements.{contains_first, contains_rest, contains_nothing}
use Rattle.ak_member.specs.Age.{older_pair, least_pair}
use Rattle.ak_member.specs.declared.standing.Standing.{Standing}
use Rattle.ak_member.proofs.MemberLemmas.{kept_pair, kept_at_end}
use Rattle.ak_member.proofs.CountedLaws.{role_among, keeps_role}
use Rattle.ak_downing.specs.Oldest.{older_of}

abbrev Pairs : Type 0
Pairs = List (UniqueModel × ℕ)

-- ---- which it is
older_is : (x y : UniqueModel × ℕ) (o : Option (UniqueModel × ℕ)) → older_pair x o ≡ Some y → (x ≡ y) ⊎ (o ≡ Some y)
older_is x y None is = inl (same_Some x y is)
older_is x y (Some z) is = by_test (nat_lt z.1 x.1) is
  where
    by_test : (b : Bool) → cond b (Some z) (Some x) ≡ Some y → (x ≡ y) ⊎ (Some z ≡ Some y)
    by_test true is = inr is
    by_test false is = inl (same_Some x y is)

-- it is one of them
pub least_there : (xs : Pairs) (y : UniqueModel × ℕ) → least_pair xs ≡ Some y → Contains xs y
least_there [] y is = absurd (none-some y is)
least_there (x ∷ xs) y is = elim (older_is x y (least_pair xs) is) [
  | inl same ↦ subst (Contains (x ∷ xs)) same (contains_first x xs)
  | inr later ↦ contains_rest x y xs (least_there xs y later)
]

-- there is one where there are any
pub some_least : (xs : Pairs) (x : UniqueModel × ℕ) → Contains xs x → (y : UniqueModel × ℕ) × (least_pair xs ≡ Some y)
some_least [] x there = absurd (contains_nothing x there)
some_least (z ∷ xs) x there = by_rest (least_pair xs)
  where
    by_test : (w : UniqueModel × ℕ) (b : Bool) → (y : UniqueModel × ℕ) × (cond b (Some w) (Some z) ≡ Some y)
    by_test w true = (w, refl)
    by_test w false = (z, refl)

    by_rest : (o : Option (UniqueModel × ℕ)) → (y : UniqueModel × ℕ) × (older_pair z o ≡ Some y)
    by_rest None = (z, refl)
    by_rest (Some w) = by_test w (nat_lt w.1 z.1)

-- ---- found one by one
-- the oldest so far, and those that are left
abbrev pub least_with : Option (UniqueModel × ℕ) → Option (UniqueModel × ℕ) → Option (UniqueModel × ℕ)
least_with None left = left
least_with (Some found) left = older_pair found left

least_nobody : (found : Option (UniqueModel × ℕ)) → least_with found None ≡ found
least_nobody None = refl
least_nobody (Some found) = refl

older_both : (found next : UniqueModel × ℕ) (left : Option (UniqueModel × ℕ)) → older_pair found (older_pair next left) ≡ older_pair (cond (nat_lt next.1 found.1) next found) left
older_both found next None = by_test (nat_lt next.1 found.1)
  where
    by_test : (b : Bool) → cond b (Some next) (Some found) ≡ Some (cond b next found)
    by_test true = refl
    by_test false = refl
older_both found next (Some last) = by_tests (nat_lt last.1 next.1) (nat_lt next.1 found.1) (nat_lt last.1 found.1) refl refl refl
  where
    by_tests : (a b c : Bool) → nat_lt last.1 next.1 ≡ a → nat_lt next.1 found.1 ≡ b → nat_lt last.1 found.1 ≡ c
        → older_pair found (cond a (Some last) (Some next)) ≡ older_pair (cond b next found) (Some last)
    by_tests true true true p q r = (λ i. cond (r i) (Some last) (Some found)) ∙ sym (λ i. cond (p i) (Some last) (Some next))
    by_tests true true false p q r = let x = ltb-true last.1 next.1 p in let y = ltb-true next.1 found.1 q in let z = ltb-false last.1 found.1 r in absurd (omega arith)
    by_tests true false c p q r = refl
    by_tests false true c p q r = (λ i. cond (q i) (Some next) (Some found)) ∙ sym (λ i. cond (p i) (Some last) (Some next))
    by_tests false false true p q r = let x = ltb-false last.1 next.1 p in let y = ltb-false next.1 found.1 q in let z = ltb-true last.1 found.1 r in absurd (omega arith)
    by_tests false false false p q r = (λ i. cond (q i) (Some next) (Some found)) ∙ sym (λ i. cond (r i) (Some last) (Some found))

least_more : (found : Option (UniqueModel × ℕ)) (next : UniqueModel × ℕ) (left : Option (UniqueModel × ℕ)) → least_with found (older_pair next left) ≡ least_with (Some (older_of found next)) left
least_more None next left = refl
least_more (Some found) next left = older_both found next left

module _ (role : List AddressModel) where
  -- the oldest so far, with those that are left, is the oldest of all
  abbrev pub LeastTo : Option (UniqueModel × ℕ) → List (UniqueModel × Standing) → ℕ → Type 0
  LeastTo found es i = least_with found (least_pair (role_among role (drop i es))) ≡ least_pair (role_among role es)

  pub least_one : (found : Option (UniqueModel × ℕ)) (r : UniqueModel × ℕ) (es : List (UniqueModel × Standing)) (i : ℕ) → r ∷ [] ≡ role_among role (option_to_list (slice_get es i)) → LeastTo found es i → LeastTo (Some (older_of found r)) es (i + 1)
  least_one found r es i is so_far =
      sym (least_more found r (least_pair (role_among role (drop (i + 1) es))))
      ∙ ap (λ l. least_with found (least_pair l)) (sym (kept_pair (role_among role) (keeps_role role) es i (Some r) is)) ∙ so_far

  pub least_passed : (found : Option (UniqueModel × ℕ)) (es : List (UniqueModel × Standing)) (i : ℕ) → [] ≡ role_among role (option_to_list (slice_get es i)) → LeastTo found es i → LeastTo found es (i + 1)
  least_passed found es i is so_far = ap (λ l. least_with found (least_pair l)) (sym (kept_pair (role_among role) (keeps_role role) es i None is)) ∙ so_far

  pub least_end : (found : Option (UniqueModel × ℕ)) (es : List (UniqueModel × Standing)) (i : ℕ) → length es ≤ i → LeastTo found es i → found ≡ least_pair (role_among role es)
  least_end found es i past so_far = sym (least_nobody found) ∙ ap (λ l. least_with found (least_pair l)) (sym (kept_at_end (role_among role) (keeps_role role) es i past)) ∙ so_far
