-- Versions that are numbers: all but the first are settled, and of each process is given with which number it aged and with
-- which it was removed, if ever. Contracts speak of the moves at these versions, since a clause cannot speak of all types.
use Rattle.std.specs.Prelude.{ℕ, ◌≤◌, max, List, Option, Some, None}
use Rattle.ak_line.specs.Name.{Name}
use Rattle.ak_line.specs.Line.{Line}
use Rattle.ak_line.specs.Moves.{Move, Cluster, unstarted, AllAllowed, after_all}
use Rattle.ak_line.specs.BallotOrder.{IsLater}

pub record Ages : Type 0 where
  pub aged : Name → Option ℕ
  pub removed : Name → Option ℕ

-- the number is given, and the version has come to it
abbrev pub HasCome : Option ℕ → ℕ → Type 0
HasCome None v = ⊥
HasCome (Some n) v = n ≤ v

abbrev pub numbers : Ages → Line ℕ
numbers a = record {
  nothing = 0;
  below = λ v w. v ≤ w;
  merged = max;
  on = λ v. 1 ≤ v;
  aged = λ v i. HasCome (a.aged i) v;
  removed = λ v i. HasCome (a.aged i) v × HasCome (a.removed i) v;
}

-- from a cluster in which nobody has started, by moves that their guards allow
abbrev pub AreAllowed : Ages → List (Move ℕ) → Type 0
AreAllowed a moves = AllAllowed (numbers a) IsLater (unstarted (numbers a) IsLater) moves

-- what these moves make of it
abbrev pub cluster_after : Ages → List (Move ℕ) → Cluster ℕ
cluster_after a moves = after_all (numbers a) IsLater (unstarted (numbers a) IsLater) moves
