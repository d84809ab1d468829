-- A text cut at a byte, and a line cut at the end of its first word.
use Rattle.std.proofs.Common.{◌≡◌, ℕ, ◌+◌, ◌-◌, ◌<◌, Bool, true, false, cond, not, ◌==◌, List, [], ◌∷◌, ◌++◌, inl, inr, All, length, take, drop, refl, sym, suc, one-add, ◌∙◌, ap, get_or, Some, None, arith, drop-cons, length-drop}
use Rattle.std.specs.Prelude.{filter, position}
use Rattle.std.specs.List.{slice_split, onto_first, position_or_len}
use Rattle.std.proofs.lemmas.List.{take_rest, length-take-le, take-append-drop, get_or-take}
use Rattle.std.proofs.Math.Seq.{drop-length}
use Rattle.std.proofs.lemmas.List.Splits.{slice_split_first, slice_split_none, slice_split-cons_yes, slice_split-cons_no}
use Rattle.std.proofs.lemmas.List.Sums.{fails_before_first, passes_at_first, prefix_len-le-length}
use Rattle.std.proofs.lemmas.List.Elements.{All-from_get_or}
use Rattle.std.proofs.lemmas.Bool.{eqb-true}
use Rattle.std.proofs.lemmas.Bool.Decides.{nat_tests}
use Rattle.ak_schedule.specs.Line.{words, begins, begun, IsFirstPart, IsFirstWord}

-- what `position` answers, as a number
position_at : (p : ℕ → Bool) (xs : List ℕ) (i : ℕ) → Some i ≡ position p xs → (i ≡ position_or_len p xs) × (i < length xs)
position_at p xs i h = grind (arith, nat_tests, prefix_len-le-length (λ x. not (p x)) xs)

position_none : (p : ℕ → Bool) (xs : List ℕ) → None ≡ position p xs → position_or_len p xs ≡ length xs
position_none p xs h = grind (arith, nat_tests, prefix_len-le-length (λ x. not (p x)) xs)

-- the cut at the first such byte
pub cut_at : (byte : ℕ) (xs : List ℕ) (i : ℕ) → Some i ≡ position (λ b. b == byte) xs → IsFirstPart byte xs (take i xs) (take (length xs - (i + 1)) (drop (i + 1) xs))
cut_at byte xs i h =
    let at = position_at (λ b. b == byte) xs i h in
    record {
      parts = rw (take_rest xs (i + 1), at.0) (slice_split_first (λ b. b == byte) xs 0 (rw (← at.0) at.1));
      shorter = rw (take_rest xs (i + 1), length-take-le i xs (omega arith), length-drop (i + 1) xs) (omega arith);
      whole = rw (take_rest xs (i + 1)) (cut_whole byte xs i at.0 at.1);
    }
  where
    -- the byte at which a text is cut stands between its two parts
    cut_whole : (byte : ℕ) (xs : List ℕ) (i : ℕ) → i ≡ position_or_len (λ b. b == byte) xs → i < length xs → xs ≡ take i xs ++ byte ∷ drop (i + 1) xs
    cut_whole byte xs i at within =
        let is : get_or xs i 0 ≡ byte = eqb-true (get_or xs i 0) byte (rw at (passes_at_first (λ b. b == byte) xs 0 (omega (arith, at, within)))) in
        let next : suc i ≡ i + 1 = omega arith in
        sym (take-append-drop i xs) ∙ ap (λ l. take i xs ++ l) (drop-cons xs i 0 within ∙ (λ j. is j ∷ drop (next j) xs))

pub cut_none : (byte : ℕ) (xs : List ℕ) → None ≡ position (λ b. b == byte) xs → slice_split (λ b. b == byte) xs ≡ xs ∷ []
cut_none byte xs h =
    let at = position_none (λ b. b == byte) xs h in
    slice_split_none (λ b. b == byte) xs (All-from_get_or (λ x. (x == byte) ≡ false) xs 0 (λ i l. fails_before_first (λ b. b == byte) xs i 0 (omega arith)))

-- spaces before the first word
spaces_before : (xs : List ℕ) (i : ℕ) → Some i ≡ position (λ b. not (b == 32)) xs → All (λ b. b ≡ 32) (take i xs)
spaces_before xs i h =
    let at = position_at (λ b. not (b == 32)) xs i h in
    All-from_get_or (λ b. b ≡ 32) (take i xs) 0 (λ j l.
    let before : j < i = omega (arith, l, length-take-le i xs (omega (arith, at.1))) in
    get_or-take i xs j 0 before ∙ eqb-true (get_or xs j 0) 32 (not_false (get_or xs j 0 == 32) (fails_before_first (λ b. not (b == 32)) xs j 0 (omega (arith, before, at.0)))))
  where
    not_false : (b : Bool) → not b ≡ false → b ≡ true
    not_false true h = refl
    not_false false h = cc

words_space : (xs : List ℕ) (x : ℕ) → (x == 32) ≡ true → words (x ∷ xs) ≡ words xs
words_space xs x h = ap (filter begins) (slice_split-cons_yes (λ b. b == 32) x xs h)

skip_spaces : (xs : List ℕ) → words (drop (position_or_len (λ b. not (b == 32)) xs) xs) ≡ words xs
skip_spaces [] = refl
skip_spaces (x ∷ xs) = spaced x xs (x == 32) refl (skip_spaces xs)
  where
    spaced : (x : ℕ) (xs : List ℕ) (space : Bool) → (x == 32) ≡ space → words (drop (position_or_len (λ b. not (b == 32)) xs) xs) ≡ words xs
        → words (drop (position_or_len (λ b. not (b == 32)) (x ∷ xs)) (x ∷ xs)) ≡ words (x ∷ xs)
    spaced x xs true e h = rw (words_space xs x e, e, one-add) h
    spaced x xs false e h =
        let none : cond (not (not (x == 32))) (1 + position_or_len (λ b. not (b == 32)) xs) 0 ≡ 0 = rw e refl in
        ap (λ (n : ℕ). words (drop n (x ∷ xs))) none

-- a text that begins with a letter has a first part
part_begins : (x : ℕ) (xs w : List ℕ) (parts : List (List ℕ)) → (x == 32) ≡ false → slice_split (λ b. b == 32) (x ∷ xs) ≡ w ∷ parts → begins w ≡ true
part_begins x xs w parts letter h = onto x w parts (slice_split (λ b. b == 32) xs) (sym (slice_split-cons_no (λ b. b == 32) x xs letter) ∙ h)
  where
    onto : (x : ℕ) (w : List ℕ) (parts rest : List (List ℕ)) → onto_first x rest ≡ w ∷ parts → begins w ≡ true
    onto x w parts [] h = let e : w ≡ x ∷ [] = cc in rw e refl
    onto x w parts (part ∷ rest) h = let e : w ≡ x ∷ part = cc in rw e refl

-- the first word is the first part after the spaces
first_part : (xs w : List ℕ) (parts : List (List ℕ)) (i : ℕ) → Some i ≡ position (λ b. not (b == 32)) xs → slice_split (λ b. b == 32) (drop i xs) ≡ w ∷ parts
    → (words xs ≡ w ∷ filter begins parts) × (begins w ≡ true)
first_part xs w parts i h e =
    let at = position_at (λ b. not (b == 32)) xs i h in
    let letter : not (get_or xs i 0 == 32) ≡ true = rw at.0 (passes_at_first (λ b. not (b == 32)) xs 0 (omega arith)) in
    let first : begins w ≡ true = part_begins (get_or xs i 0) (drop (suc i) xs) w parts (not_true (get_or xs i 0 == 32) letter) (ap (slice_split (λ b. b == 32)) (sym (drop-cons xs i 0 at.1)) ∙ e) in
    let skipped : words (drop i xs) ≡ words xs = rw at.0 (skip_spaces xs) in
    (sym skipped ∙ ap (filter begins) e ∙ rw first refl, first)
  where
    not_true : (b : Bool) → not b ≡ true → b ≡ false
    not_true true h = cc
    not_true false h = refl

pub no_word : (xs : List ℕ) → None ≡ position (λ b. not (b == 32)) xs → words xs ≡ []
no_word xs h = rw (← skip_spaces xs, position_none (λ b. not (b == 32)) xs h, drop-length) refl

pub word_cut : (xs w rest : List ℕ) (i : ℕ) → Some i ≡ position (λ b. not (b == 32)) xs → IsFirstPart 32 (take (length xs - i) (drop i xs)) w rest → IsFirstWord xs w rest
word_cut xs w rest i h cut =
    let whole : take (length xs - i) (drop i xs) ≡ drop i xs = take_rest xs i in
    let word = first_part xs w (slice_split (λ b. b == 32) rest) i h (rw (← whole) cut.parts) in
    record {
      first = word.0;
      not_empty = word.1;
      shorter = omega (arith, cut.shorter, ap length whole, length-drop i xs);
      spaces = take i xs;
      begun = drop i xs;
      spaces_first = sym (take-append-drop i xs);
      only_spaces = spaces_before xs i h;
      whole = inl (sym whole ∙ cut.whole);
    }

pub word_to_the_end : (xs : List ℕ) (i : ℕ) → Some i ≡ position (λ b. not (b == 32)) xs
    → slice_split (λ b. b == 32) (take (length xs - i) (drop i xs)) ≡ take (length xs - i) (drop i xs) ∷ [] → IsFirstWord xs (take (length xs - i) (drop i xs)) []
word_to_the_end xs i h parts =
    let whole : take (length xs - i) (drop i xs) ≡ drop i xs = take_rest xs i in
    let at = position_at (λ b. not (b == 32)) xs i h in
    let word = first_part xs (take (length xs - i) (drop i xs)) [] i h (ap (slice_split (λ b. b == 32)) (sym whole) ∙ parts) in
    record {
      first = word.0;
      not_empty = word.1;
      shorter = omega arith;
      spaces = take i xs;
      begun = drop i xs;
      spaces_first = sym (take-append-drop i xs);
      only_spaces = spaces_before xs i h;
      whole = inr (sym whole, refl);
    }

-- a line that an LF ends is one, also an empty one
pub begun_more : (line : List ℕ) (parts : List (List ℕ)) → 0 < length parts → begun (line ∷ parts) ≡ line ∷ begun parts
begun_more [] [] h = absurd (omega arith)
begun_more (b ∷ bs) [] h = absurd (omega arith)
begun_more [] (next ∷ parts) h = refl
begun_more (b ∷ bs) (next ∷ parts) h = refl
