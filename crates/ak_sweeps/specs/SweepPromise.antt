-- What a sweep promises of what its sink has written, by the status that it answers.
use Rattle.std.specs.Prelude.{◌≡◌, ◌⊎◌, ℕ, ◌≤◌, List, ◌++◌, Option, Some, slice_get, if◌then◌else◌}
use Rattle.std.specs.Io.KnownBytes.{Appends}
use Rattle.ak_outside.specs.Endings.{Written, memory_line}
use Rattle.ak_outside.specs.declared.status.Status.{Status}
use Rattle.ak_outside.specs.declared.status.Status.TheVariants.{Done, Double, Memory}
use Rattle.ak_sweep.specs.declared.line.Line.{Line}
use Rattle.ak_sweeps.specs.GeneratedRun.{KeepsApart}
use Rattle.ak_sweeps.specs.SweepText.{AreLines, lines_text, sweep_text, is_doubled}

-- the status of a sweep with these lines
abbrev pub status_of : List Line → Status
status_of lines = if is_doubled lines then Double else Done

-- a sweep came to its end, with these lines
abbrev pub Ends : List Line → Status → ℕ → ℕ → Option (List ℕ) → Option (List ℕ) → Type 0
Ends lines answer w0 w1 old new = Written (status_of lines) (sweep_text lines) answer w0 w1 old new

-- memory ran out after these lines
abbrev pub RunsOut : List Line → Status → ℕ → ℕ → Option (List ℕ) → Option (List ℕ) → Type 0
RunsOut lines answer w0 w1 old new = Written Memory (lines_text lines ++ memory_line) answer w0 w1 old new

-- A sweep of so many seeds from the first one on ended so: the lines of all of them and the totals were written; or those of some
-- first ones, whole, and then the line on memory; or the sink failed on the way.
abbrev pub Sweeps : ℕ → ℕ → ℕ → Status → ℕ → ℕ → Option (List ℕ) → Option (List ℕ) → Type 0
Sweeps first count most answer w0 w1 old new =
    ((lines : List Line) × AreLines first count most lines × Ends lines answer w0 w1 old new)
    ⊎ ((done : ℕ) × (lines : List Line) × (done ≤ count) × AreLines first done most lines × RunsOut lines answer w0 w1 old new)

-- a sweep whose sink did not fail ends with its status and whole text, or for lack of memory
abbrev pub IsCompleted : ℕ → ℕ → ℕ → Status → Option (List ℕ) → Option (List ℕ) → Type 0
IsCompleted first count most answer old new =
    ((lines : List Line) × AreLines first count most lines × (answer ≡ status_of lines) × Appends old new (sweep_text lines)) ⊎ (answer ≡ Memory)

-- each line that says that the margin was kept says that there is no double
abbrev pub EachKeepsApart : List Line → Type 0
EachKeepsApart lines = (index : ℕ) (line : Line) → slice_get lines index ≡ Some line → KeepsApart line
