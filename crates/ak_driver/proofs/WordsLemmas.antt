-- Of known arguments: how the list of words grows, and when it is whole.
use Rattle.std.proofs.Common.{◌≡◌, ℕ, ◌+◌, ◌<◌, List, [], ◌∷◌, ◌++◌, length, take, drop, Option, Some, None, IfSome, get_or, refl, sym, ap, ◌∙◌, arith}
use Rattle.std.specs.List.{slice_get}
use Rattle.std.specs.Prelude.{Ok}
use Rattle.std.proofs.Common.{inl, inr, length-append}
use Rattle.std.proofs.lemmas.List.{length-drop, get_or-drop, take_more, take_all}
use Rattle.std.proofs.lemmas.Option.{slice_get_within, slice_get_cases, get_or_from_slice_get}
use Rattle.ak_driver.specs.WordsContracts.{IsArgument}

-- the words so far, as many as they are, are the first after the name
abbrev pub SoFar : Option (List (List ℕ)) → List (List ℕ) → Type 0
SoFar known words = IfSome known (λ all. words ≡ take (length words) (drop 1 all))

pub none_yet : (known : Option (List (List ℕ))) → SoFar known []
none_yet None = tt
none_yet (Some all) = refl

one_more_of : (all words : List (List ℕ)) (word : List ℕ) →
    words ≡ take (length words) (drop 1 all) → Some word ≡ slice_get all (length words + 1) →
    words ++ word ∷ [] ≡ take (length (words ++ word ∷ [])) (drop 1 all)
one_more_of all words word so_far found =
    let n = length words in
    let tail = drop 1 all in
    let within : n + 1 < length all = slice_get_within all (n + 1) word (sym found) in
    let short : n < length tail = omega (arith, length-drop 1 all, within) in
    let order : 1 + n ≡ n + 1 = omega arith in
    let here : get_or tail n word ≡ word =
    get_or-drop 1 all n word ∙ ap (λ i. get_or all i word) order ∙ get_or_from_slice_get all (n + 1) word word (sym found) in
    let longer : length (words ++ word ∷ []) ≡ n + 1 = omega (arith, length-append words (word ∷ [])) in
    ap (λ (xs : List (List ℕ)). xs ++ word ∷ []) so_far
    ∙ sym (take_more tail n word short ∙ ap (λ (w : List ℕ). take n tail ++ w ∷ []) here)
    ∙ ap (λ i. take i tail) (sym longer)

-- one word more
pub one_more : (known : Option (List (List ℕ))) (words : List (List ℕ)) (word : List ℕ) →
    SoFar known words → IfSome known (λ all. IsArgument all (length words + 1) (Ok (Some word))) → SoFar known (words ++ word ∷ [])
one_more None words word so_far found = tt
one_more (Some all) words word so_far found = one_more_of all words word so_far found

all_words_of : (all words : List (List ℕ)) →
    words ≡ take (length words) (drop 1 all) → None ≡ slice_get all (length words + 1) → words ≡ drop 1 all
all_words_of all words so_far none =
    elim (slice_get_cases all (length words + 1)).1 [
      | inl (word, within, found, same) ↦ (let e : None ≡ Some word = none ∙ found in cc)
      | inr (past, same) ↦
          so_far ∙ take_all (length words) (drop 1 all) (omega (arith, length-drop 1 all, past))
    ]

-- no word is left
pub all_words : (known : Option (List (List ℕ))) (words : List (List ℕ)) →
    SoFar known words → IfSome known (λ all. IsArgument all (length words + 1) (Ok None)) → IfSome known (λ all. words ≡ drop 1 all)
all_words None words so_far none = tt
all_words (Some all) words so_far none = all_words_of all words so_far none
