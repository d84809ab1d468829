-- Lines are added one at a time and part after part.
use Rattle.std.proofs.Common.{◌≡◌, ℕ, zero, suc, ◌+◌, ◌-◌, ◌≤◌, List, [], ◌∷◌, ◌++◌, length, slice_get, Some, is_some, ◌⊎◌, inl, inr, Result, Ok, Err, IfOk, refl, sym, ap, ◌∙◌, subst, arith, true≢false, length-append}
use Rattle.std.proofs.lemmas.Option.{same_Some}
use Rattle.ak_sweep.specs.declared.line.Line.{Line}
use Rattle.ak_sweep.specs.Lines.{lines_from, AreLines, AnswersAs, start_of}

-- an element of two lists is one of the first, or of the second
of_either : {X : Type 0} (xs ys : List X) (i : ℕ) (x : X) → slice_get (xs ++ ys) i ≡ Some x → (slice_get xs i ≡ Some x) ⊎ ((j : ℕ) × (i ≡ length xs + j) × (slice_get ys j ≡ Some x))
of_either [] ys i x is = inr (i, omega arith, is)
of_either (x0 ∷ xs) ys zero x is = inl is
of_either (x0 ∷ xs) ys (suc i) x is = elim (of_either xs ys i x is) [
  | inl first ↦ inl first
  | inr second ↦ inr (second.0, let at = second.1 in omega arith, second.2)
]

module _ (answers : ℕ → Line → Type 0) where
  pub no_lines : (first count : ℕ) → count ≡ 0 → AreLines answers first count []
  no_lines first count none = record { many = sym none; each = λ index line is. absurd (true≢false (sym (ap is_some is))) }

  pub joined : (first n m k : ℕ) (xs ys : List Line) → n + m ≡ k → AreLines answers first n xs → AreLines answers (first + n) m ys → AreLines answers first k (xs ++ ys)
  joined first n m k xs ys sum a b = record {
    many = let left = a.many in let right = b.many in let both = length-append xs ys in omega arith;
    each = λ index line is. elim (of_either xs ys index line is) [
      | inl here ↦ a.each index line here
      | inr there ↦
          let left = a.many in let at = there.1 in
          let same : first + n + there.0 ≡ first + index = omega arith in
          subst (λ seed. answers seed line) same (b.each there.0 line there.2)
    ];
  }

  pub one_line : (first : ℕ) (line : Line) → answers first line → AreLines answers first 1 (line ∷ [])
  one_line first line may = record { many = refl; each = each }
    where
      each : (index : ℕ) (l : Line) → slice_get (line ∷ []) index ≡ Some l → answers (first + index) l
      each zero l is = subst (λ seed. answers seed l) (omega arith) (subst (answers first) (same_Some _ _ is) may)
      each (suc index) l is = absurd (true≢false (sym (ap is_some is)))

  pub one_more : (first n k : ℕ) (lines : List Line) (line : Line) → n + 1 ≡ k → AreLines answers first n lines → answers (first + n) line → AreLines answers first k (lines ++ line ∷ [])
  one_more first n k lines line sum a may = joined first n 1 k lines (line ∷ []) sum a (one_line (first + n) line may)

  pub from_start : (first n count : ℕ) (lines : List Line) → n ≡ count → AreLines answers (first + 0) (n - 0) lines → AreLines answers first count lines
  from_start first n count lines same a =
      let at : first + 0 ≡ first = omega arith in let many : n - 0 ≡ count = omega arith in
      subst (λ k. AreLines answers first k lines) many (subst (λ k. AreLines answers k (n - 0) lines) at a)

  -- the lines of a job with one answer for each seed are these answers
  pub lines_are : (answer : ℕ → Line) (first count : ℕ) (lines : List Line) → AnswersAs answers answer → AreLines answers first count lines → lines ≡ lines_from answer first count
  lines_are answer first zero [] one a = refl
  lines_are answer first zero (line ∷ lines) one a = let many = a.many in absurd (omega arith)
  lines_are answer first (suc count) [] one a = let many = a.many in absurd (omega arith)
  lines_are answer first (suc count) (line ∷ lines) one a =
      ap (λ (l : Line). l ∷ lines) (one first line (subst (λ seed. answers seed line) (omega arith) (a.each 0 line refl)))
      ∙ ap (λ rest. answer first ∷ rest) (lines_are answer (first + 1) count lines one (record {
        many = let many = a.many in omega arith;
        each = λ index l is. subst (λ seed. answers seed l) (omega arith) (a.each (suc index) l is);
      }))

-- ---- parts
start_rises : (size count part : ℕ) → start_of size count part ≤ start_of size count (part + 1)
start_rises size count part = omega arith

pub start_and_rest : (size count part : ℕ) → start_of size count part + (start_of size count (part + 1) - start_of size count part) ≡ start_of size count (part + 1)
start_and_rest size count part = let rises = start_rises size count part in omega arith

pub of_part : {V E : Type 0} (Q : V → Type 0) (r : Result V E) (v : V) → r ≡ Ok v → IfOk r Q → Q v
of_part Q r v is q = subst (λ r. IfOk r Q) is q

pub of_answer : {V E : Type 0} (P Q : V → Type 0) (r : Result V E) → IfOk r P → ((v : V) → P v → Q v) → IfOk r Q
of_answer P Q (Ok v) is follows = follows v is
of_answer P Q (Err e) is follows = tt
