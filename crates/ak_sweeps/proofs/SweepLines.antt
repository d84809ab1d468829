-- The lines of a sweep are put together block by block.
use Rattle.std.proofs.Common.{◌≡◌, ℕ, ◌+◌, List, [], ◌++◌, refl}
use Rattle.ak_sweep.specs.declared.line.Line.{Line}
use Rattle.ak_sweep.proofs.SweepLemmas as seeds
use Rattle.ak_sweeps.specs.GeneratedRun.{IsLineOf}
use Rattle.ak_sweeps.specs.SweepText.{AreLines}

pub no_lines : (first most : ℕ) → AreLines first 0 most []
no_lines first most = seeds.no_lines (λ seed line. IsLineOf seed most line) first 0 refl

-- the lines of some seeds, and those of the seeds after them
pub joined : (first n m k most : ℕ) (xs ys : List Line) → n + m ≡ k → AreLines first n most xs → AreLines (first + n) m most ys → AreLines first k most (xs ++ ys)
joined first n m k most = seeds.joined (λ seed line. IsLineOf seed most line) first n m k
