-- The parts of two texts, one after the other, and the first line of a text.
use Rattle.std.proofs.Common.{◌≡◌, ◌≢◌, inl, inr, ℕ, ◌+◌, ◌<◌, ◌≤◌, ◌==◌, Bool, true, false, List, [], ◌∷◌, ◌++◌, length, arith, refl, sym, ap, ◌∙◌, append-nil, length-append}
use Rattle.std.specs.Prelude.{map}
use Rattle.std.specs.List.{slice_split, onto_first}
use Rattle.std.proofs.lemmas.List.Splits.{length-slice_split, slice_split_none, slice_split-cons_yes, slice_split-cons_no}
use Rattle.std.proofs.lemmas.List.Elements.{All-weaker}
use Rattle.std.proofs.lemmas.Bool.{ne_eqb}
use Rattle.ak_outside.specs.Lines.{HasNoEnd, IsTrimmed, IsLineAndRest, BeginsLine, most_line}
use Rattle.ak_schedule.specs.Line.{lines, begun, without_cr, most_bytes}
use Rattle.ak_schedule.proofs.LineParts.{ended_line, last_of_lines, cr_goes, others_stay}

-- ---- the parts of two texts, one after the other
abbrev pub parts_of : List ℕ → List (List ℕ)
parts_of bytes = slice_split (λ b. b == 10) bytes

-- the last part goes on in the first of the others
abbrev pub joined : List ℕ → List (List ℕ) → List (List ℕ)
joined last [] = last ∷ []
joined last (part ∷ parts) = (last ++ part) ∷ parts

abbrev pub meet : List (List ℕ) → List (List ℕ) → List (List ℕ)
meet [] others = others
meet (part ∷ []) others = joined part others
meet (part ∷ next ∷ parts) others = part ∷ meet (next ∷ parts) others

pub parts_some : (bytes : List ℕ) → 0 < length (parts_of bytes)
parts_some bytes = omega (arith, length-slice_split (λ b. b == 10) bytes)

joined_nil : (parts : List (List ℕ)) → 0 < length parts → joined [] parts ≡ parts
joined_nil [] some = absurd (omega arith)
joined_nil (part ∷ parts) some = refl

meet_cons : (part : List ℕ) (parts others : List (List ℕ)) → 0 < length parts → meet (part ∷ parts) others ≡ part ∷ meet parts others
meet_cons part [] others some = absurd (omega arith)
meet_cons part (next ∷ parts) others some = refl

onto_meet : (b : ℕ) (parts others : List (List ℕ)) → 0 < length parts → onto_first b (meet parts others) ≡ meet (onto_first b parts) others
onto_meet b [] others some = absurd (omega arith)
onto_meet b (part ∷ []) [] some = refl
onto_meet b (part ∷ []) (other ∷ others) some = refl
onto_meet b (part ∷ next ∷ parts) others some = refl

pub parts_meet : (bytes more : List ℕ) → parts_of (bytes ++ more) ≡ meet (parts_of bytes) (parts_of more)
parts_meet [] more = sym (joined_nil (parts_of more) (parts_some more))
parts_meet (b ∷ bytes) more = by_first b bytes more (b == 10) refl (parts_meet bytes more)
  where
    by_first : (b : ℕ) (bytes more : List ℕ) (ends : Bool) → (b == 10) ≡ ends → parts_of (bytes ++ more) ≡ meet (parts_of bytes) (parts_of more)
        → parts_of (b ∷ (bytes ++ more)) ≡ meet (parts_of (b ∷ bytes)) (parts_of more)
    by_first b bytes more true e h =
        slice_split-cons_yes (λ b. b == 10) b (bytes ++ more) e
        ∙ ap (λ (ps : List (List ℕ)). [] ∷ ps) h
        ∙ sym (meet_cons [] (parts_of bytes) (parts_of more) (parts_some bytes))
        ∙ sym (ap (λ (ps : List (List ℕ)). meet ps (parts_of more)) (slice_split-cons_yes (λ b. b == 10) b bytes e))
    by_first b bytes more false e h =
        slice_split-cons_no (λ b. b == 10) b (bytes ++ more) e
        ∙ ap (onto_first b) h
        ∙ onto_meet b (parts_of bytes) (parts_of more) (parts_some bytes)
        ∙ sym (ap (λ (ps : List (List ℕ)). meet ps (parts_of more)) (slice_split-cons_no (λ b. b == 10) b bytes e))

pub meet_last : (before : List (List ℕ)) (last : List ℕ) (others : List (List ℕ)) → meet (before ++ last ∷ []) others ≡ before ++ joined last others
meet_last [] last others = refl
meet_last (part ∷ []) last others = refl
meet_last (part ∷ next ∷ before) last others = ap (λ (ps : List (List ℕ)). part ∷ ps) (meet_last (next ∷ before) last others)

-- ---- lines without their CR
by_cr : (b : ℕ) (cr : Bool) → (b == 13) ≡ cr → length (without_cr (b ∷ [])) ≤ 1
by_cr b true e = rw e (omega arith)
by_cr b false e = rw e (omega arith)

without_cr_short : (line : List ℕ) → length (without_cr line) ≤ length line
without_cr_short [] = omega arith
without_cr_short (b ∷ []) = by_cr b (b == 13) refl
without_cr_short (b ∷ c ∷ bs) = let h = without_cr_short (c ∷ bs) in omega arith

pub without_cr_long : (line : List ℕ) → length line ≤ length (without_cr line) + 1
without_cr_long [] = omega arith
without_cr_long (b ∷ []) = omega arith
without_cr_long (b ∷ c ∷ bs) = let h = without_cr_long (c ∷ bs) in omega arith

grown : (line more : List ℕ) → length (without_cr line) ≤ length (without_cr (line ++ more))
grown line [] = rw (append-nil line) (omega arith)
grown line (b ∷ more) = omega (arith, without_cr_short line, without_cr_long (line ++ b ∷ more), length-append line (b ∷ more))

-- bytes that end in no CR are as they are
no_cr : (line : List ℕ) → ((before : List ℕ) → line ≡ before ++ 13 ∷ [] → ⊥) → without_cr line ≡ line
no_cr [] other = refl
no_cr (b ∷ []) other = others_stay [] b (λ is. other [] (ap (λ (c : ℕ). c ∷ []) is))
no_cr (b ∷ c ∷ bs) other = ap (λ (l : List ℕ). b ∷ l) (no_cr (c ∷ bs) (λ before is. other (b ∷ before) (ap (λ (l : List ℕ). b ∷ l) is)))

pub trimmed_is : (bytes line : List ℕ) → IsTrimmed bytes line → without_cr bytes ≡ line
trimmed_is bytes line (inl cr) = ap without_cr cr ∙ cr_goes line
trimmed_is bytes line (inr other) = ap without_cr other.0 ∙ no_cr line other.1

-- ---- the first line of a text
pub first_line : (at_end : Bool) (bytes line rest : List ℕ) → IsLineAndRest at_end bytes line rest → lines bytes ≡ line ∷ lines rest
first_line at_end bytes line rest h = elim h.whole [
  | inl ended ↦ ap lines ended ∙ ended_line h.with_cr rest h.no_end ∙ ap (λ (l : List ℕ). l ∷ lines rest) (trimmed_is h.with_cr line h.trimmed)
  | inr last ↦ ap lines last.1 ∙ last_of_lines h.with_cr h.no_end last.2 ∙ ap (λ (l : List ℕ). l ∷ []) (trimmed_is h.with_cr line h.trimmed)
      ∙ ap (λ (l : List ℕ). line ∷ lines l) (sym last.3)
]

pub one_part : (bytes : List ℕ) → HasNoEnd bytes → parts_of bytes ≡ bytes ∷ []
one_part bytes none = slice_split_none (λ b. b == 10) bytes (All-weaker (λ b. b ≢ 10) (λ b. (b == 10) ≡ false) (λ b other. ne_eqb b 10 other) bytes none)

begun_first : (part : List ℕ) (parts : List (List ℕ)) → 0 < length part → (others : List (List ℕ)) × (begun (part ∷ parts) ≡ part ∷ others)
begun_first [] parts some = absurd (omega arith)
begun_first (b ∷ bs) [] some = ([], refl)
begun_first (b ∷ bs) (next ∷ parts) some = (begun (next ∷ parts), refl)

joined_first : (part : List ℕ) (parts : List (List ℕ)) → (more : List ℕ) × (others : List (List ℕ)) × (joined part parts ≡ (part ++ more) ∷ others)
joined_first part [] = ([], [], ap (λ (l : List ℕ). l ∷ []) (sym (append-nil part)))
joined_first part (more ∷ others) = (more, others, refl)

-- a text that begins with too many bytes has a first line that is too long
pub long_first : (bytes line : List ℕ) → BeginsLine bytes line → most_line < length line → (first : List ℕ) × (others : List (List ℕ)) × (lines bytes ≡ first ∷ others) × (most_bytes < length first)
long_first bytes line h long =
    let size : length (without_cr h.part) ≡ length line = ap length (trimmed_is h.part line h.trimmed) in
    let j = joined_first h.part (parts_of h.more) in
    let parts : parts_of bytes ≡ (h.part ++ j.0) ∷ j.1 =
    ap parts_of h.whole ∙ parts_meet h.part h.more ∙ ap (λ (ps : List (List ℕ)). meet ps (parts_of h.more)) (one_part h.part h.no_end) ∙ j.2 in
    let longer = grown h.part j.0 in
    let some : 0 < length (h.part ++ j.0) = omega (arith, without_cr_short (h.part ++ j.0), longer, size, long) in
    let b = begun_first (h.part ++ j.0) j.1 some in (
      without_cr (h.part ++ j.0),
      map without_cr b.0,
      ap (λ (ps : List (List ℕ)). map without_cr (begun ps)) parts ∙ ap (map without_cr) b.1,
      omega (arith, longer, size, long),
    )
