-- The lines of a sweep: for each seed one, in the order of the seeds (this project's choice).
use Rattle.std.specs.Prelude.{◌≡◌, ℕ, zero, suc, ◌+◌, ◌-◌, ◌*◌, ◌^◌, ◌<◌, min, List, [], ◌∷◌, length, slice_get, Some}
use Rattle.ak_sweep.specs.declared.line.Line.{Line}

-- the lines of so many seeds from the first one on, where each has this one
abbrev pub lines_from : (ℕ → Line) → ℕ → ℕ → List Line
lines_from answer first zero = []
lines_from answer first (suc count) = answer first ∷ lines_from answer (first + 1) count

-- ---- parts
-- the index at which a part begins, of parts of a size; those after the last line are empty
abbrev pub start_of : ℕ → ℕ → ℕ → ℕ
start_of size count part = min (part * size) count

-- of a job the lines that may be its answer for a seed are given
module _ (answers : ℕ → Line → Type 0) where
  -- there is a line for each of so many seeds from the first one on, and it is an answer of the job for its seed
  pub record AreLines (first count : ℕ) (lines : List Line) : Type 0 where
    pub many : length lines ≡ count
    pub each : (index : ℕ) (line : Line) → slice_get lines index ≡ Some line → answers (first + index) line

  -- they are the lines of a part
  abbrev pub AreLinesOfPart : ℕ → ℕ → ℕ → ℕ → List Line → Type 0
  AreLinesOfPart first count size part lines = AreLines (first + start_of size count part) (start_of size count (part + 1) - start_of size count part) lines

  -- the job has one answer for each seed
  abbrev pub AnswersAs : (ℕ → Line) → Type 0
  AnswersAs answer = (seed : ℕ) (line : Line) → answers seed line → line ≡ answer seed

-- a part of few and short ones
pub record IsPart (first count size part : ℕ) : Type 0 where
  pub seeds : first + count < 2 ^ 64
  pub few : part < 64
  pub short : size < 2 ^ 33
