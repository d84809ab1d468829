-- Of fewer than twice as many different addresses, two choices of at least so many share one.
use Rattle.std.proofs.Common.{◌≡◌, ℕ, ◌+◌, ◌*◌, ◌<◌, ◌≤◌, Bool, true, false, ◌||◌, ◌&&◌, if◌then◌else◌, List, [], ◌∷◌, Contains, refl, sym, ap, ◌∙◌, subst, arith, true≢false}
use Rattle.std.specs.List.{list_any}
use Rattle.std.specs.Ordering.{is_eq}
use Rattle.ak_address.specs.Unique.{AddressModel, address_cmp}
use Rattle.ak_address.specs.Distinct.{distinct}
use Rattle.ak_address.proofs.OrderLemmas.{tied_is, tied_self}
use Rattle.ak_address.proofs.Elements.{any_there, any_found, contains_first, contains_rest}

abbrev tied : AddressModel → AddressModel → Bool
tied a b = is_eq (address_cmp a b)

-- an address is among these
abbrev among : List AddressModel → AddressModel → Bool
among xs a = list_any (tied a) xs

one_if : Bool → ℕ
one_if true = 1
one_if false = 0

-- how many different ones of the listed are among these
inside : List AddressModel → List AddressModel → ℕ
inside [] xs = 0
inside (l ∷ listed) xs = if among listed l then inside listed xs else one_if (among xs l) + inside listed xs

rest_inside : (listed : List AddressModel) (a : AddressModel) (xs : List AddressModel) → inside listed xs ≤ inside listed (a ∷ xs)
unfolding inside one_if
rest_inside [] a xs = omega arith
rest_inside (l ∷ listed) a xs = by_case (among listed l) (tied l a) (among xs l) (rest_inside listed a xs)
  where
    by_case : (again b c : Bool) → inside listed xs ≤ inside listed (a ∷ xs)
        → (if again then inside listed xs else one_if c + inside listed xs) ≤ (if again then inside listed (a ∷ xs) else one_if (b || c) + inside listed (a ∷ xs))
    by_case true b c le = le
    by_case false true true le = omega arith
    by_case false true false le = omega arith
    by_case false false c le = omega arith

one_more : (listed : List AddressModel) (a : AddressModel) (xs : List AddressModel) → among listed a ≡ true → among xs a ≡ false → inside listed xs + 1 ≤ inside listed (a ∷ xs)
unfolding inside one_if
one_more [] a xs there apart = absurd (true≢false (sym there))
one_more (l ∷ listed) a xs there apart = by_case (tied a l) refl (λ later. one_more listed a xs later apart) there
  where
    here : (again b c : Bool) → (again ≡ true → inside listed xs + 1 ≤ inside listed (a ∷ xs)) → b ≡ true → c ≡ false → inside listed xs ≤ inside listed (a ∷ xs)
        → (if again then inside listed xs else one_if c + inside listed xs) + 1 ≤ (if again then inside listed (a ∷ xs) else one_if (b || c) + inside listed (a ∷ xs))
    here true b c later p q le = later refl
    here false true false later p q le = omega arith
    here false true true later p q le = absurd (true≢false q)
    here false false c later p q le = absurd (true≢false (sym p))

    further : (again b c : Bool) → inside listed xs + 1 ≤ inside listed (a ∷ xs)
        → (if again then inside listed xs else one_if c + inside listed xs) + 1 ≤ (if again then inside listed (a ∷ xs) else one_if (b || c) + inside listed (a ∷ xs))
    further true b c le = le
    further false true true le = omega arith
    further false true false le = omega arith
    further false false c le = omega arith

    by_case : (b : Bool) → tied a l ≡ b → (among listed a ≡ true → inside listed xs + 1 ≤ inside listed (a ∷ xs)) → (b || among listed a) ≡ true → inside (l ∷ listed) xs + 1 ≤ inside (l ∷ listed) (a ∷ xs)
    by_case true tie rest there =
        let same : a ≡ l = tied_is a l tie in
        here (among listed l) (tied l a) (among xs l) (λ later. rest (ap (among listed) same ∙ later))
        (ap (tied l) same ∙ tied_self l) (ap (among xs) (sym same) ∙ apart) (rest_inside listed a xs)
    by_case false tie rest there = further (among listed l) (tied l a) (among xs l) (rest there)

-- no more addresses are different than the list has of them
distinct_inside : (listed xs : List AddressModel) → ((a : AddressModel) → Contains xs a → among listed a ≡ true) → distinct xs ≤ inside listed xs
distinct_inside listed [] each = omega arith
distinct_inside listed (a ∷ xs) each = by_case (among xs a) refl (distinct_inside listed xs (λ b there. each b (contains_rest a b xs there)))
  where
    by_case : (b : Bool) → among xs a ≡ b → distinct xs ≤ inside listed xs → (if b then distinct xs else distinct xs + 1) ≤ inside listed (a ∷ xs)
    by_case true is le = let more = rest_inside listed a xs in omega arith
    by_case false is le = let more = one_more listed a xs (each a (contains_first a xs)) is in omega arith

-- where no address of the list is among both
apart_inside : (listed xs ys : List AddressModel) → list_any (λ l. among xs l && among ys l) listed ≡ false → inside listed xs + inside listed ys ≤ distinct listed
unfolding inside one_if
apart_inside [] xs ys none = omega arith
apart_inside (l ∷ listed) xs ys none = by_case (among listed l) (among xs l) (among ys l) (list_any (λ m. among xs m && among ys m) listed) (λ h. apart_inside listed xs ys h) none
  where
    by_case : (again a b c : Bool) → (c ≡ false → inside listed xs + inside listed ys ≤ distinct listed) → ((a && b) || c) ≡ false
        → (if again then inside listed xs else one_if a + inside listed xs) + (if again then inside listed ys else one_if b + inside listed ys) ≤ (if again then distinct listed else distinct listed + 1)
    by_case again true true c rest none = absurd (true≢false none)
    by_case again true false true rest none = absurd (true≢false none)
    by_case true true false false rest none = rest refl
    by_case false true false false rest none = let le = rest refl in omega arith
    by_case again false b true rest none = absurd (true≢false none)
    by_case true false b false rest none = rest refl
    by_case false false true false rest none = let le = rest refl in omega arith
    by_case false false false false rest none = let le = rest refl in omega arith

-- so of addresses that are all listed there are no more different ones
pub distinct_within : (listed xs : List AddressModel) → ((a : AddressModel) → Contains xs a → Contains listed a) → distinct xs ≤ distinct listed
distinct_within listed xs each =
    let le = apart_inside listed xs [] (none_both listed) in
    let first = distinct_inside listed xs (λ a there. any_there (tied a) listed a (each a there) (tied_self a)) in
    omega arith
  where
    never : (a b : Bool) → b ≡ false → ((a && false) || b) ≡ false
    never true b is = is
    never false b is = is

    none_both : (ls : List AddressModel) → list_any (λ l. among xs l && among [] l) ls ≡ false
    none_both [] = refl
    none_both (l ∷ ls) = never (among xs l) _ (none_both ls)

pub shared_address : (listed one other : List AddressModel) (quorum : ℕ) → ((a : AddressModel) → Contains one a → Contains listed a) → ((a : AddressModel) → Contains other a → Contains listed a)
    → distinct listed < 2 * quorum → quorum ≤ distinct one → quorum ≤ distinct other → (a : AddressModel) × Contains one a × Contains other a
shared_address listed one other quorum in_one in_other few enough_one enough_other = by_case (list_any (λ l. among one l && among other l) listed) refl
  where
    both_true : (a b : Bool) → (a && b) ≡ true → (a ≡ true) × (b ≡ true)
    both_true true true h = (refl, refl)
    both_true true false h = absurd (true≢false (sym h))
    both_true false b h = absurd (true≢false (sym h))

    listed_has : (a : AddressModel) → Contains listed a → among listed a ≡ true
    listed_has a there = any_there (tied a) listed a there (tied_self a)

    by_case : (b : Bool) → list_any (λ l. among one l && among other l) listed ≡ b → (a : AddressModel) × Contains one a × Contains other a
    by_case true is =
        let l = any_found (λ m. among one m && among other m) listed is in
        let two = both_true (among one l.0) (among other l.0) l.2 in
        let x = any_found (tied l.0) one two.0 in
        let y = any_found (tied l.0) other two.1 in
        (l.0, subst (Contains one) (sym (tied_is l.0 x.0 x.2)) x.1, subst (Contains other) (sym (tied_is l.0 y.0 y.2)) y.1)
    by_case false is =
        let le = apart_inside listed one other is in
        let first = distinct_inside listed one (λ a there. listed_has a (in_one a there)) in
        let second = distinct_inside listed other (λ a there. listed_has a (in_other a there)) in
        absurd (omega arith)
