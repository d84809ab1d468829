-- The elements of a list: of a first one and the rest, of those that pass a test, and of what becomes of each.
use Rattle.std.proofs.Common.{◌≡◌, ℕ, zero, suc, Bool, true, false, ◌||◌, ◌&&◌, cond, ◌⊎◌, inl, inr, List, [], ◌∷◌, ◌++◌, map, slice_get, Some, Contains, refl, sym, ap, ◌∙◌, subst, arith, true≢false}
use Rattle.std.proofs.lemmas.Option.{same_Some}
use Rattle.std.proofs.lemmas.Bool.{and_from}
use Rattle.std.specs.List.{list_any, list_all, filter}

module _ {X : Type 0} where
  pub contains_first : (x : X) (xs : List X) → Contains (x ∷ xs) x
  contains_first x xs = (0, omega arith, refl)

  pub contains_rest : (y x : X) (xs : List X) → Contains xs x → Contains (y ∷ xs) x
  contains_rest y x xs there = (suc there.0, let lt = there.1 in omega arith, there.2)

  pub first_or_rest : (y x : X) (xs : List X) → Contains (y ∷ xs) x → (x ≡ y) ⊎ Contains xs x
  first_or_rest y x xs (zero, lt, is) = inl (sym is)
  first_or_rest y x xs (suc k, lt, is) = inr (k, omega arith, is)

  pub contains_nothing : (x : X) → Contains [] x → ⊥
  contains_nothing x there = let lt = there.1 in omega arith

  module _ (p : X → Bool) where
    -- one of them passes
    pub any_there : (xs : List X) (x : X) → Contains xs x → p x ≡ true → list_any p xs ≡ true
    any_there [] x there is = absurd (contains_nothing x there)
    any_there (y ∷ xs) x there is = elim (first_or_rest y x xs there) [
      | inl same ↦ ap (λ b. b || list_any p xs) (ap p (sym same) ∙ is)
      | inr later ↦ or_second (p y) (any_there xs x later is)
    ]
      where
        or_second : (a : Bool) → list_any p xs ≡ true → (a || list_any p xs) ≡ true
        or_second true h = refl
        or_second false h = h

    pub any_found : (xs : List X) → list_any p xs ≡ true → (x : X) × Contains xs x × (p x ≡ true)
    any_found [] is = absurd (true≢false (sym is))
    any_found (y ∷ xs) is = next (p y) refl (λ h. any_found xs h) is
      where
        next : (b : Bool) → p y ≡ b → (list_any p xs ≡ true → (x : X) × Contains xs x × (p x ≡ true)) → (b || list_any p xs) ≡ true → (x : X) × Contains (y ∷ xs) x × (p x ≡ true)
        next true here rest h = (y, contains_first y xs, here)
        next false here rest h = let f = rest h in (f.0, contains_rest y f.0 xs f.1, f.2)

    -- those that pass
    pub in_filter : (xs : List X) (x : X) → Contains (filter p xs) x → Contains xs x × (p x ≡ true)
    in_filter [] x there = absurd (contains_nothing x there)
    in_filter (y ∷ xs) x there = next (p y) refl (λ h. in_filter xs x h) there
      where
        next : (b : Bool) → p y ≡ b → (Contains (filter p xs) x → Contains xs x × (p x ≡ true)) → Contains (cond b (y ∷ filter p xs) (filter p xs)) x → Contains (y ∷ xs) x × (p x ≡ true)
        next true is rest there = elim (first_or_rest y x (filter p xs) there) [
          | inl same ↦ (subst (Contains (y ∷ xs)) (sym same) (contains_first y xs), ap p same ∙ is)
          | inr later ↦ let h = rest later in (contains_rest y x xs h.0, h.1)
        ]
        next false is rest there = let h = rest there in (contains_rest y x xs h.0, h.1)

    pub filter_in : (xs : List X) (x : X) → Contains xs x → p x ≡ true → Contains (filter p xs) x
    filter_in [] x there is = absurd (contains_nothing x there)
    filter_in (y ∷ xs) x there is = elim (first_or_rest y x xs there) [
      | inl same ↦ here (p y) (ap p (sym same) ∙ is) same
      | inr later ↦ further (p y) (filter_in xs x later is)
    ]
      where
        here : (b : Bool) → b ≡ true → x ≡ y → Contains (cond b (y ∷ filter p xs) (filter p xs)) x
        here true passes same = subst (Contains (y ∷ filter p xs)) (sym same) (contains_first y (filter p xs))
        here false passes same = absurd (true≢false (sym passes))

        further : (b : Bool) → Contains (filter p xs) x → Contains (cond b (y ∷ filter p xs) (filter p xs)) x
        further true h = contains_rest y x (filter p xs) h
        further false h = h

  -- an element of two lists, one after the other
  pub contains_either : (xs ys : List X) (x : X) → Contains (xs ++ ys) x → Contains xs x ⊎ Contains ys x
  contains_either [] ys x there = inr there
  contains_either (y ∷ xs) ys x there =
      elim (first_or_rest y x (xs ++ ys) there) [
        | inl same ↦ inl (subst (Contains (y ∷ xs)) (sym same) (contains_first y xs))
        | inr later ↦ elim (contains_either xs ys x later) [ inl one ↦ inl (contains_rest y x xs one) | inr other ↦ inr other ]
      ]

  pub contains_left : (xs ys : List X) (x : X) → Contains xs x → Contains (xs ++ ys) x
  contains_left [] ys x there = absurd (contains_nothing x there)
  contains_left (y ∷ xs) ys x there =
      elim (first_or_rest y x xs there) [
        | inl same ↦ subst (Contains (y ∷ (xs ++ ys))) (sym same) (contains_first y (xs ++ ys))
        | inr later ↦ contains_rest y x (xs ++ ys) (contains_left xs ys x later)
      ]

  pub contains_right : (xs ys : List X) (x : X) → Contains ys x → Contains (xs ++ ys) x
  contains_right [] ys x there = there
  contains_right (y ∷ xs) ys x there = contains_rest y x (xs ++ ys) (contains_right xs ys x there)

  -- an element at an index
  pub contains_at : (xs : List X) (index : ℕ) (x : X) → slice_get xs index ≡ Some x → Contains xs x
  contains_at [] index x at = absurd cc
  contains_at (y ∷ xs) zero x at = subst (Contains (y ∷ xs)) (same_Some y x at) (contains_first y xs)
  contains_at (y ∷ xs) (suc index) x at = contains_rest y x xs (contains_at xs index x at)

  pub index_of : (xs : List X) (x : X) → Contains xs x → (index : ℕ) × (slice_get xs index ≡ Some x)
  index_of [] x there = absurd (contains_nothing x there)
  index_of (y ∷ xs) x there = elim (first_or_rest y x xs there) [
    | inl same ↦ (zero, ap Some (sym same))
    | inr later ↦ let h = index_of xs x later in (suc h.0, h.1)
  ]

  -- all of them pass
  all_next : (p : X → Bool) (y : X) (xs : List X) (x : X) (b : Bool) → p y ≡ b → (list_all p xs ≡ true → Contains xs x → p x ≡ true) → (b && list_all p xs) ≡ true → Contains (y ∷ xs) x → p x ≡ true
  all_next p y xs x false here rest h there = absurd (true≢false (sym h))
  all_next p y xs x true here rest h there = elim (first_or_rest y x xs there) [ inl same ↦ ap p same ∙ here | inr later ↦ rest h later ]

  pub all_there : (p : X → Bool) (xs : List X) (x : X) → list_all p xs ≡ true → Contains xs x → p x ≡ true
  all_there p [] x is there = absurd (contains_nothing x there)
  all_there p (y ∷ xs) x is there = all_next p y xs x (p y) refl (λ h later. all_there p xs x h later) is there

  pub all_from : (p : X → Bool) (xs : List X) → ((x : X) → Contains xs x → p x ≡ true) → list_all p xs ≡ true
  all_from p [] each = refl
  all_from p (y ∷ xs) each = and_from (p y) (list_all p xs) (each y (contains_first y xs)) (all_from p xs (λ x there. each x (contains_rest y x xs there)))

-- what becomes of each
module _ {X Y : Type 0} (f : X → Y) where
  pub in_map : (xs : List X) (y : Y) → Contains (map f xs) y → (x : X) × Contains xs x × (y ≡ f x)
  in_map [] y there = absurd (contains_nothing y there)
  in_map (x ∷ xs) y there = elim (first_or_rest (f x) y (map f xs) there) [
    | inl same ↦ (x, contains_first x xs, same)
    | inr later ↦ let h = in_map xs y later in (h.0, contains_rest x h.0 xs h.1, h.2)
  ]

  pub map_in : (xs : List X) (x : X) → Contains xs x → Contains (map f xs) (f x)
  map_in [] x there = absurd (contains_nothing x there)
  map_in (y ∷ xs) x there = elim (first_or_rest y x xs there) [
    | inl same ↦ subst (λ z. Contains (f y ∷ map f xs) (f z)) (sym same) (contains_first (f y) (map f xs))
    | inr later ↦ contains_rest (f y) (f x) (map f xs) (map_in xs x later)
  ]
