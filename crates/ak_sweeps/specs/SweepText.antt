-- What a sweep of generated runs prints: a line for each seed, and the totals (this project's choice).
use Rattle.std.specs.Prelude.{ℕ, Bool, List, [], ◌∷◌, ◌++◌, codes, length, map, if◌then◌else◌}
use Rattle.std.specs.List.{concat, count_by, list_any}
use Rattle.std.specs.Fmt.{decimal}
use Rattle.ak_sweep.specs.declared.line.Line.{Line}
use Rattle.ak_sweep.specs.Lines as seeds
use Rattle.ak_sweeps.specs.GeneratedRun.{IsLineOf}

-- the lines of so many seeds from the first one on, in the order of the seeds, each of a run of at most so many events
abbrev pub AreLines : ℕ → ℕ → ℕ → List Line → Type 0
AreLines first count most lines = seeds.AreLines (λ seed line. IsLineOf seed most line) first count lines

-- a name and a number
abbrev pub counted : List ℕ → ℕ → List ℕ
counted name number = name ++ decimal number

abbrev pub margin_text : Bool → List ℕ
margin_text kept = if kept then codes " margin kept" else codes " margin broken"

abbrev pub doubles_text : Bool → List ℕ
doubles_text double = if double then codes " doubles found" else codes " doubles none"

-- the line of a seed
abbrev pub line_text : Line → List ℕ
line_text l =
    counted (codes "seed ") l.seed ++ counted (codes " steps ") l.steps ++ counted (codes " packets ") l.packets
    ++ counted (codes " history ") l.history ++ margin_text l.kept ++ doubles_text l.double ++ 10 ∷ []

abbrev pub lines_text : List Line → List ℕ
lines_text lines = concat (map line_text lines)

-- how many seeds, in how many of them the margin was kept, and in how many there was a double
abbrev pub totals_text : List Line → List ℕ
totals_text lines =
    counted (codes "seeds ") (length lines) ++ counted (codes " kept ") (count_by (λ (l : Line). l.kept) lines)
    ++ counted (codes " doubles ") (count_by (λ (l : Line). l.double) lines) ++ 10 ∷ []

abbrev pub sweep_text : List Line → List ℕ
sweep_text lines = lines_text lines ++ totals_text lines

-- a line says that there was a double
abbrev pub is_doubled : List Line → Bool
is_doubled lines = list_any (λ (l : Line). l.double) lines
