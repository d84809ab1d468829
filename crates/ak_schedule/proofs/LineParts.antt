-- Where lines and words end.
use Rattle.std.proofs.Common.{◌≡◌, ◌≢◌, ℕ, true, false, ◌==◌, List, [], ◌∷◌, ◌++◌, ◌∙◌, ap, refl, arith}
use Rattle.std.specs.Prelude.{All, filter, map}
use Rattle.std.specs.List.{slice_split}
use Rattle.std.proofs.lemmas.List.Splits.{length-slice_split, slice_split_at, slice_split_none}
use Rattle.std.proofs.lemmas.List.Elements.{All-weaker}
use Rattle.std.proofs.lemmas.Bool.Decides.{nat_tests}
use Rattle.ak_schedule.specs.Line.{words, begins, lines, begun, without_cr}
use Rattle.ak_schedule.proofs.Cutting.{begun_more}

other_byte : (c b : ℕ) → b ≢ c → (b == c) ≡ false
other_byte c b other = grind (arith, nat_tests)

others : (c : ℕ) (bytes : List ℕ) → All (λ b. b ≢ c) bytes → All (λ b. (b == c) ≡ false) bytes
others c bytes apart = All-weaker (λ b. b ≢ c) (λ b. (b == c) ≡ false) (other_byte c) bytes apart

pub ended_line : (line rest : List ℕ) → All (λ b. b ≢ 10) line → lines (line ++ 10 ∷ rest) ≡ without_cr line ∷ lines rest
ended_line line rest apart =
    let parts = slice_split (λ b. b == 10) rest in
    ap (λ (ps : List (List ℕ)). map without_cr (begun ps)) (slice_split_at (λ b. b == 10) line 10 rest (others 10 line apart) refl)
    ∙ ap (map without_cr) (begun_more line parts (omega (arith, length-slice_split (λ b. b == 10) rest)))

begun_one : (line : List ℕ) → line ≢ [] → begun (line ∷ []) ≡ line ∷ []
begun_one [] some = absurd (some refl)
begun_one (b ∷ bs) some = refl

pub last_of_lines : (line : List ℕ) → All (λ b. b ≢ 10) line → line ≢ [] → lines line ≡ without_cr line ∷ []
last_of_lines line apart some =
    ap (λ (ps : List (List ℕ)). map without_cr (begun ps)) (slice_split_none (λ b. b == 10) line (others 10 line apart)) ∙ ap (map without_cr) (begun_one line some)

pub cr_goes : (line : List ℕ) → without_cr (line ++ 13 ∷ []) ≡ line
cr_goes [] = refl
cr_goes (b ∷ []) = refl
cr_goes (b ∷ c ∷ bs) = ap (λ (rest : List ℕ). b ∷ rest) (cr_goes (c ∷ bs))

pub others_stay : (line : List ℕ) (b : ℕ) → b ≢ 13 → without_cr (line ++ b ∷ []) ≡ line ++ b ∷ []
others_stay [] b other = rw (other_byte 13 b other) refl
others_stay (a ∷ []) b other = ap (λ (rest : List ℕ). a ∷ rest) (others_stay [] b other)
others_stay (a ∷ c ∷ bs) b other = ap (λ (rest : List ℕ). a ∷ rest) (others_stay (c ∷ bs) b other)

word_begins : (word : List ℕ) → word ≢ [] → begins word ≡ true
word_begins [] some = absurd (some refl)
word_begins (b ∷ bs) some = refl

first_kept : (w : List ℕ) (parts : List (List ℕ)) → begins w ≡ true → filter begins (w ∷ parts) ≡ w ∷ filter begins parts
first_kept w parts begun = rw begun refl

-- bytes that are one word of a line
pub record IsPlain (word : List ℕ) : Type 0 where
  pub begun : begins word ≡ true
  pub letters : All (λ b. (b == 32) ≡ false) word

pub next_words : (w rest : List ℕ) → IsPlain w → words (w ++ 32 ∷ rest) ≡ w ∷ words rest
next_words w rest plain =
    ap (filter begins) (slice_split_at (λ b. b == 32) w 32 rest plain.letters refl) ∙ first_kept w (slice_split (λ b. b == 32) rest) plain.begun

pub one_word : (w : List ℕ) → IsPlain w → words w ≡ w ∷ []
one_word w plain = ap (filter begins) (slice_split_none (λ b. b == 32) w plain.letters) ∙ first_kept w [] plain.begun

plain_bytes : (word : List ℕ) → All (λ b. b ≢ 32) word → word ≢ [] → IsPlain word
plain_bytes word apart some = record { begun = word_begins word some; letters = others 32 word apart }

pub first_word : (word line : List ℕ) → All (λ b. b ≢ 32) word → word ≢ [] → words (word ++ 32 ∷ line) ≡ word ∷ words line
first_word word line apart some = next_words word line (plain_bytes word apart some)

pub last_word : (word : List ℕ) → All (λ b. b ≢ 32) word → word ≢ [] → words word ≡ word ∷ []
last_word word apart some = one_word word (plain_bytes word apart some)
