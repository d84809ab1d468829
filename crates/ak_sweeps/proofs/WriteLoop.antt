-- What a sweep's output has written by its end, from what was written before.
use Rattle.std.proofs.Common.{Bool, true, false, Result, Ok, Err, OnOk, OnErr, is_err, true≢false, ◌≡◌, ℕ, zero, suc, ◌+◌, ◌<◌, ◌≤◌, List, [], ◌∷◌, ◌++◌, map, length, take, get_or, slice_get, Option, Some, refl, sym, ap, subst, inl, inr, ◌∙◌, append-nil, append_assoc, arith}
use Rattle.std.specs.List.{concat}
use Rattle.std.proofs.Math.Seq.{take-suc}
use Rattle.std.proofs.lemmas.List.{map-append, length-take-le, take_all}
use Rattle.std.proofs.lemmas.List.Folds.{concat-append}
use Rattle.std.specs.Io.KnownBytes.{Appends}
use Rattle.std.proofs.KnownBytes.{Appends-trans, Appends-nil}
use Rattle.ak_outside.specs.Outside.{Rose, AppendsPrefix}
use Rattle.ak_outside.specs.declared.status.Status.{Status}
use Rattle.ak_outside.specs.declared.status.Status.TheVariants.{Write, Memory}
use Rattle.ak_outside.proofs.Prefixes.{AppendsPrefix-after, AppendsPrefix-more}
use Rattle.ak_outside.proofs.Endings.{written_after}
use Rattle.ak_sweep.specs.declared.line.Line.{Line}
use Rattle.ak_sweeps.specs.RunContracts.{WritesLines}
use Rattle.ak_outside.specs.Endings.{Written, memory_line}
use Rattle.ak_sweeps.specs.SweepPromise.{status_of, Ends, RunsOut, Sweeps, IsCompleted}
use Rattle.ak_sweeps.proofs.SweepLines.{no_lines}
use Rattle.ak_sweeps.specs.SweepText.{AreLines, line_text, lines_text, totals_text, sweep_text}

-- the texts of these lines are written, since the start, or stand in what is printed
pub record Along (old now : Option (List ℕ)) (lines : List Line) (out : List ℕ) : Type 0 where
  pub text : List ℕ
  pub written : Appends old now text
  pub printed : text ++ out ≡ lines_text lines

pub along_start : (old : Option (List ℕ)) (lines : List Line) (out : List ℕ) → out ≡ [] → Along old old (take 0 lines) out
along_start old lines out none = subst (λ (o : List ℕ). Along old old [] o) (sym none) (record { text = []; written = Appends-nil old; printed = refl })

lines-push : (lines : List Line) (line : Line) → lines_text (lines ++ line ∷ []) ≡ lines_text lines ++ line_text line
lines-push lines line =
    ap concat (map-append line_text lines (line ∷ [])) ∙ concat-append (map line_text lines) (line_text line ∷ [])
    ∙ ap (λ (t : List ℕ). lines_text lines ++ t) (append-nil (line_text line))

-- one more line is printed
pub along_line : (old now : Option (List ℕ)) (lines : List Line) (i : ℕ) (d : Line) (out after : List ℕ) → Along old now (take i lines) out → i < length lines → after ≡ out ++ line_text (get_or lines i d)
    → Along old now (take (i + 1) lines) after
along_line old now lines i d out after a within grown =
    let line = get_or lines i d in
    let more : take (i + 1) lines ≡ take i lines ++ line ∷ [] = ap (λ k. take k lines) (let e : i + 1 ≡ suc i = omega arith in e) ∙ take-suc lines i d within in
    record {
      text = a.text;
      written = a.written;
      printed =
          ap (λ (o : List ℕ). a.text ++ o) grown ∙ sym (append_assoc a.text out (line_text line))
          ∙ ap (λ (o : List ℕ). o ++ line_text line) a.printed ∙ sym (lines-push (take i lines) line) ∙ ap lines_text (sym more);
    }

-- what was printed is written
pub along_flush : (old now later : Option (List ℕ)) (lines : List Line) (out none : List ℕ) → Along old now lines out → Appends now later out → none ≡ [] → Along old later lines none
along_flush old now later lines out none a more e =
    subst (λ (o : List ℕ). Along old later lines o) (sym e)
    (record { text = a.text ++ out; written = Appends-trans old now later a.text out a.written more; printed = append-nil (a.text ++ out) ∙ a.printed })

-- the sink fails on the way
pub along_fails : (old now later : Option (List ℕ)) (all : List Line) (done : ℕ) (out : List ℕ) (w0 w1 w2 : ℕ) → done ≤ length all → Along old now (take done all) out → w1 ≡ w0 → Rose w1 w2 → AppendsPrefix now later out → WritesLines all Write w0 w2 old later
along_fails old now later all done out w0 w1 w2 few a same rose f =
    inr (
      done,
      few,
      inr (
        refl,
        subst (λ (n : ℕ). Rose n w2) same rose,
        AppendsPrefix-more old later (lines_text (take done all)) memory_line
            (subst (λ (t : List ℕ). AppendsPrefix old later t) a.printed (AppendsPrefix-after old now later a.text out a.written f)),
      ),
    )

-- memory runs out on the way
pub along_memory : (old now later : Option (List ℕ)) (all : List Line) (done : ℕ) (out after : List ℕ) (answer : Status) (w0 w1 w2 : ℕ) → done ≤ length all → Along old now (take done all) out → w1 ≡ w0 → after ≡ out
    → Written Memory (after ++ memory_line) answer w1 w2 now later → WritesLines all answer w0 w2 old later
along_memory old now later all done out after answer w0 w1 w2 few a same kept w =
    inr (
      done,
      few,
      subst (λ (t : List ℕ). Written Memory t answer w0 w2 old later) (sym (append_assoc a.text out memory_line) ∙ ap (λ (t : List ℕ). t ++ memory_line) a.printed)
          (written_after old now later a.text (out ++ memory_line) Memory answer w0 w1 w2 same a.written (subst (λ (t : List ℕ). Written Memory (t ++ memory_line) answer w1 w2 now later) kept w)),
    )

-- all is written
pub along_end : (old now later : Option (List ℕ)) (all : List Line) (done : ℕ) (out after : List ℕ) (status answer : Status) (w0 w1 w2 : ℕ) → length all ≤ done → Along old now (take done all) out → w1 ≡ w0 → after ≡ out ++ totals_text all
    → status ≡ status_of all → Written status after answer w1 w2 now later → WritesLines all answer w0 w2 old later
along_end old now later all done out after status answer w0 w1 w2 many a same grown ends w =
    let whole : a.text ++ after ≡ sweep_text all =
    ap (λ (t : List ℕ). a.text ++ t) grown ∙ sym (append_assoc a.text out (totals_text all)) ∙ ap (λ (t : List ℕ). t ++ totals_text all) (a.printed ∙ ap lines_text (take_all done all many)) in
    inl (subst (λ (s : Status). Written s (sweep_text all) answer w0 w2 old later) ends
    (subst (λ (t : List ℕ). Written status t answer w0 w2 old later) whole (written_after old now later a.text after status answer w0 w1 w2 same a.written w)))

-- ---- of a whole sweep
taken_at : (lines : List Line) (done index : ℕ) (line : Line) → slice_get (take done lines) index ≡ Some line → slice_get lines index ≡ Some line
taken_at lines zero index line at = absurd (cc)
taken_at [] (suc done) index line at = absurd (cc)
taken_at (l ∷ lines) (suc done) zero line at = at
taken_at (l ∷ lines) (suc done) (suc index) line at = taken_at lines done index line at

-- some first lines are those of some first seeds
pub first_lines : (first count most : ℕ) (lines : List Line) (done : ℕ) → done ≤ length lines → AreLines first count most lines → AreLines first done most (take done lines)
first_lines first count most lines done few are = record {
  many = length-take-le done lines few;
  each = λ index line at. are.each index line (taken_at lines done index line at);
}

pub swept : (first count most : ℕ) (lines : List Line) (answer : Status) (w0 w1 : ℕ) (old new : Option (List ℕ)) → AreLines first count most lines → WritesLines lines answer w0 w1 old new → Sweeps first count most answer w0 w1 old new
swept first count most lines answer w0 w1 old new are (inl w) = inl (lines, are, w)
swept first count most lines answer w0 w1 old new are (inr w) =
    inr (w.0, take w.0 lines, let few = w.1 in let many = are.many in omega arith, first_lines first count most lines w.0 w.1 are, w.2)

pub starved : (first count most : ℕ) (answer : Status) (w0 w1 : ℕ) (old new : Option (List ℕ)) → Written Memory memory_line answer w0 w1 old new → Sweeps first count most answer w0 w1 old new
starved first count most answer w0 w1 old new w = inr (0, [], omega arith, no_lines first most, w)

pub completed : (first count most : ℕ) (answer : Status) (w0 w1 : ℕ) (old new : Option (List ℕ)) → Sweeps first count most answer w0 w1 old new → (Rose w0 w1 → ⊥) → IsCompleted first count most answer old new
completed first count most answer w0 w1 old new (inl s) whole = by_case s.2
  where
    by_case : Ends s.0 answer w0 w1 old new → IsCompleted first count most answer old new
    by_case (inl w) = inl (s.0, s.1, w.0, w.2)
    by_case (inr w) = absurd (whole w.1)
completed first count most answer w0 w1 old new (inr s) whole = by_case s.4
  where
    by_case : RunsOut s.1 answer w0 w1 old new → IsCompleted first count most answer old new
    by_case (inl w) = inr w.0
    by_case (inr w) = absurd (whole w.1)

-- ---- answers
pub at_err : {X Y : Type 0} (r : Result X Y) (failed : Bool) (P : Type 0) → failed ≡ is_err r → failed ≡ true → OnErr r P → P
at_err (Ok x) failed P is e p = absurd (true≢false (sym e ∙ is))
at_err (Err y) failed P is e p = p

pub at_ok : {X Y : Type 0} (r : Result X Y) (failed : Bool) (P : Type 0) → failed ≡ is_err r → failed ≡ false → OnOk r P → P
at_ok (Ok x) failed P is e p = p
at_ok (Err y) failed P is e p = absurd (true≢false (sym is ∙ e))
