-- What is printed of a list, one piece after another.
use Rattle.std.proofs.Common.{◌≡◌, ℕ, ◌+◌, ◌<◌, ◌≤◌, List, [], ◌∷◌, ◌++◌, length, map, take, drop, slice_get, option_to_list, Some, None, refl, sym, ap, ◌∙◌, arith, lit<, append_assoc, append-nil, suc, zero, rules}
use Rattle.std.specs.Prelude.{codes}
use Rattle.std.specs.FinMap as finmap
use Rattle.std.proofs.lemmas.List.{take_more, take_all, map_push, length-take-le, length-map, nil_from_length}
use Rattle.std.proofs.lemmas.Option.{get_or_from_slice_get, slice_get_within}
use Rattle.ak_address.specs.Unique.{UniqueModel}
use Rattle.ak_address.specs.Spelling.{unique_text}
use Rattle.ak_member.proofs.MemberLemmas.{KeepsPairs, kept_pair, kept_at_end, drop_from}
use Rattle.ak_report.specs.ActionText.{listed_text, separator, none_text, spaced_text, subjects_text}

-- the text of the pieces that are printed so far: of none there is no mark yet
abbrev pub prefix : List (List ℕ) → List ℕ
prefix [] = []
prefix (piece ∷ pieces) = listed_text (piece ∷ pieces)

listed_push : (p : List ℕ) (ps : List (List ℕ)) (y : List ℕ) → listed_text (p ∷ (ps ++ y ∷ [])) ≡ listed_text (p ∷ ps) ++ (codes ", " ++ y)
listed_push p [] y = append_assoc p (codes ", ") y
listed_push p (q ∷ ps) y = ap (λ (t : List ℕ). (p ++ codes ", ") ++ t) (listed_push q ps y) ∙ sym (append_assoc (p ++ codes ", ") (listed_text (q ∷ ps)) (codes ", " ++ y))

separator_later : (n : ℕ) → separator (suc n) ≡ codes ", "
separator_later n = search rules

prefix_push : (ps : List (List ℕ)) (y : List ℕ) → prefix (ps ++ y ∷ []) ≡ prefix ps ++ (separator (length ps) ++ y)
prefix_push [] y = refl
prefix_push (p ∷ ps) y = listed_push p ps y ∙ ap (λ (t : List ℕ). listed_text (p ∷ ps) ++ (t ++ y)) (sym (separator_later (length ps)))

-- one more element is printed, after its separator
pub prefix_more : {X : Type 0} (f : X → List ℕ) (xs : List X) (index : ℕ) (x : X) → slice_get xs index ≡ Some x → prefix (map f (take (index + 1) xs)) ≡ prefix (map f (take index xs)) ++ (separator index ++ f x)
prefix_more {X = X} f xs index x at =
    let within : index < length xs = slice_get_within xs index x at in
    let more : take (index + 1) xs ≡ take index xs ++ x ∷ [] = take_more xs index x within ∙ ap (λ (y : X). take index xs ++ y ∷ []) (get_or_from_slice_get xs index x x at) in
    let shorter : length (map f (take index xs)) ≡ index = length-map (take index xs) f ∙ length-take-le index xs (omega arith) in
    ap (λ (ys : List X). prefix (map f ys)) more ∙ ap prefix (map_push f (take index xs) x) ∙ prefix_push (map f (take index xs)) (f x) ∙ ap (λ (n : ℕ). prefix (map f (take index xs)) ++ (separator n ++ f x)) shorter

-- the same of a text: what was printed, then the separator, then the element
pub printed_more : {X : Type 0} (f : X → List ℕ) (xs : List X) (index : ℕ) (x : X) (start was parted now : List ℕ) → slice_get xs index ≡ Some x
    → was ≡ start ++ prefix (map f (take index xs)) → parted ≡ was ++ separator index → now ≡ parted ++ f x → now ≡ start ++ prefix (map f (take (index + 1) xs))
printed_more f xs index x start was parted now at so_far apart printed =
    printed ∙ ap (λ (t : List ℕ). t ++ f x) (apart ∙ ap (λ (t : List ℕ). t ++ separator index) so_far)
    ∙ append_assoc (start ++ prefix (map f (take index xs))) (separator index) (f x)
    ∙ append_assoc start (prefix (map f (take index xs))) (separator index ++ f x)
    ∙ ap (λ (t : List ℕ). start ++ t) (sym (prefix_more f xs index x at))

prefix_all : {X : Type 0} (f : X → List ℕ) (xs : List X) (index : ℕ) → length xs ≤ index → 0 < length xs → prefix (map f (take index xs)) ≡ listed_text (map f xs)
prefix_all f [] index past some = absurd (omega arith)
prefix_all {X = X} f (x ∷ xs) index past some = ap (λ (ys : List X). prefix (map f ys)) (take_all index (x ∷ xs) past)

-- all elements are printed
pub printed_all : {X : Type 0} (f : X → List ℕ) (xs : List X) (index : ℕ) (start now : List ℕ) → length xs ≤ index → 0 < length xs
    → now ≡ start ++ prefix (map f (take index xs)) → now ≡ start ++ listed_text (map f xs)
printed_all f xs index start now past some printed = printed ∙ ap (λ (t : List ℕ). start ++ t) (prefix_all f xs index past some)

-- there is nothing to print
pub printed_none : {X : Type 0} (f : X → List ℕ) (xs : List X) (start now : List ℕ) → length xs ≡ 0 → now ≡ start ++ codes "-" → now ≡ start ++ listed_text (map f xs)
printed_none {X = X} f xs start now none printed = printed ∙ ap (λ (ys : List X). start ++ listed_text (map f ys)) (sym (nil_from_length xs none))

-- the text of the pieces that are left after so many
abbrev pub rest_text : ℕ → List (List ℕ) → List ℕ
rest_text printed [] = none_text printed
rest_text printed (piece ∷ pieces) = separator printed ++ piece ++ rest_text (printed + 1) pieces

after_some : (n : ℕ) → 0 < n → separator n ≡ codes ", "
after_some zero some = absurd (omega arith)
after_some (suc n) some = separator_later n

none_after : (n : ℕ) → 0 < n → none_text n ≡ []
none_after zero some = absurd (omega arith)
none_after (suc n) some = search rules

rest_later : (n : ℕ) (piece : List ℕ) (pieces : List (List ℕ)) → 0 < n → rest_text n (piece ∷ pieces) ≡ codes ", " ++ listed_text (piece ∷ pieces)
rest_later n piece [] some =
    ap (λ (t : List ℕ). t ++ piece ++ none_text (n + 1)) (after_some n some)
    ∙ ap (λ (t : List ℕ). codes ", " ++ piece ++ t) (none_after (n + 1) (omega arith))
    ∙ append-nil (codes ", " ++ piece)
rest_later n piece (next ∷ pieces) some =
    ap (λ (t : List ℕ). t ++ piece ++ rest_text (n + 1) (next ∷ pieces)) (after_some n some)
    ∙ ap (λ (t : List ℕ). codes ", " ++ piece ++ t) (rest_later (n + 1) next pieces (omega arith))
    ∙ append_assoc (codes ", ") piece (codes ", " ++ listed_text (next ∷ pieces))
    ∙ ap (λ (t : List ℕ). codes ", " ++ t) (sym (append_assoc piece (codes ", ") (listed_text (next ∷ pieces))))

-- at first all pieces are left
pub all_left : (pieces : List (List ℕ)) → rest_text 0 pieces ≡ listed_text pieces
all_left [] = refl
all_left (piece ∷ []) = append-nil piece
all_left (piece ∷ next ∷ pieces) = ap (λ (t : List ℕ). piece ++ t) (rest_later 1 next pieces (lit< tt)) ∙ sym (append_assoc piece (codes ", ") (listed_text (next ∷ pieces)))

-- rows are walked once, and what is kept of them is printed
module _ {X Y : Type 0} (kept : List X → List Y) (k : KeepsPairs kept) (f : Y → List ℕ) where
  pub walk_printed : (xs : List X) (index n : ℕ) (y : Y) (was parted now whole : List ℕ) → y ∷ [] ≡ kept (option_to_list (slice_get xs index))
      → parted ≡ was ++ separator n → now ≡ parted ++ f y
      → was ++ rest_text n (map f (kept (drop index xs))) ≡ whole → now ++ rest_text (n + 1) (map f (kept (drop (index + 1) xs))) ≡ whole
  walk_printed xs index n y was parted now whole there apart printed so_far =
      let rest : List (List ℕ) = map f (kept (drop (index + 1) xs)) in
      let pair : kept (drop index xs) ≡ y ∷ kept (drop (index + 1) xs) = kept_pair kept k xs index (Some y) there in
      ap (λ (t : List ℕ). t ++ rest_text (n + 1) rest) (printed ∙ ap (λ (t : List ℕ). t ++ f y) apart)
      ∙ ap (λ (t : List ℕ). t ++ rest_text (n + 1) rest) (append_assoc was (separator n) (f y))
      ∙ append_assoc was (separator n ++ f y) (rest_text (n + 1) rest)
      ∙ ap (λ (ys : List Y). was ++ rest_text n (map f ys)) (sym pair)
      ∙ so_far

  pub walk_passed : (xs : List X) (index n : ℕ) (was whole : List ℕ) → [] ≡ kept (option_to_list (slice_get xs index))
      → was ++ rest_text n (map f (kept (drop index xs))) ≡ whole → was ++ rest_text n (map f (kept (drop (index + 1) xs))) ≡ whole
  walk_passed xs index n was whole there so_far =
      let pair : kept (drop index xs) ≡ kept (drop (index + 1) xs) = kept_pair kept k xs index None there in
      ap (λ (ys : List Y). was ++ rest_text n (map f ys)) (sym pair) ∙ so_far

  pub walk_ended : (xs : List X) (index n : ℕ) (was now whole : List ℕ) → length xs ≤ index → now ≡ was ++ none_text n
      → was ++ rest_text n (map f (kept (drop index xs))) ≡ whole → now ≡ whole
  walk_ended xs index n was now whole past printed so_far =
      printed ∙ ap (λ (ys : List Y). was ++ rest_text n (map f ys)) (sym (kept_at_end kept k xs index past)) ∙ so_far

-- one more process is printed, after its space
pub spaced_more : (us : List UniqueModel) (index : ℕ) (u : UniqueModel) (was parted now whole : List ℕ) → u ∷ [] ≡ option_to_list (slice_get us index)
    → parted ≡ was ++ codes " " → now ≡ parted ++ unique_text u
    → was ++ spaced_text (drop index us) ≡ whole → now ++ spaced_text (drop (index + 1) us) ≡ whole
spaced_more us index u was parted now whole there apart printed so_far =
    let rest : List ℕ = spaced_text (drop (index + 1) us) in
    let pair : drop index us ≡ u ∷ drop (index + 1) us = drop_from us index ∙ ap (λ (first : List UniqueModel). first ++ drop (index + 1) us) (sym there) in
    ap (λ (t : List ℕ). t ++ rest) (printed ∙ ap (λ (t : List ℕ). t ++ unique_text u) apart)
    ∙ ap (λ (t : List ℕ). t ++ rest) (append_assoc was (codes " ") (unique_text u))
    ∙ append_assoc was (codes " " ++ unique_text u) rest
    ∙ ap (λ (us : List UniqueModel). was ++ spaced_text us) (sym pair)
    ∙ so_far

-- an observer finds nobody, or somebody, unreachable
pub subjects_none : (us : List UniqueModel) → length us ≡ 0 → subjects_text us ≡ codes " none"
subjects_none us none = ap subjects_text (nil_from_length us none)

pub subjects_some : (us : List UniqueModel) → 0 < length us → subjects_text us ≡ spaced_text us
subjects_some [] some = absurd (omega arith)
subjects_some (u ∷ us) some = refl

-- where no element stands, the list has ended
pub ended : {X : Type 0} (xs : List X) (index : ℕ) → slice_get xs index ≡ None → index < length xs → ⊥
ended [] index none within = omega arith
ended (x ∷ xs) zero none within = cc
ended (x ∷ xs) (suc i) none within = ended xs i none (omega arith)

-- an equal text was printed
pub printed_as : (start : List ℕ) {now text same : List ℕ} → text ≡ same → now ≡ start ++ text → now ≡ start ++ same
printed_as start is printed = printed ∙ ap (λ (t : List ℕ). start ++ t) is
