-- All that promises, singletons and shards know of gossips: the versions that were settled stand in one line, and what such
-- a version says of who aged (was more than Joining) and who was removed only grows along it.
use Rattle.std.specs.Prelude.{◌⊎◌}
use Rattle.ak_promise.specs.Ballot.{BallotModel}
use Rattle.ak_line.specs.Name.{Name}

-- versions of gossips with the least one, their order and their merge, and what the settled ones say
pub record Line (V : Type 0) : Type 1 where
  pub nothing : V
  pub below : V → V → Type 0
  pub merged : V → V → V
  -- a settled version of the run
  pub on : V → Type 0
  pub aged : V → Name → Type 0
  pub removed : V → Name → Type 0

-- the order is one, the merge is the least upper bound, and settled versions stand in line
pub record IsLine (V : Type 0) (l : Line V) : Type 0 where
  pub reflexive : (v : V) → l.below v v
  pub transitive : (u v w : V) → l.below u v → l.below v w → l.below u w
  pub least : (v : V) → l.below l.nothing v
  pub first : (v w : V) → l.below v (l.merged v w)
  pub second : (v w : V) → l.below w (l.merged v w)
  pub covers : (u v w : V) → l.below v u → l.below w u → l.below (l.merged v w) u
  pub total : (v w : V) → l.on v → l.on w → l.below v w ⊎ l.below w v
  pub still_aged : (v w : V) (i : Name) → l.below v w → l.aged v i → l.aged w i
  pub still_removed : (v w : V) (i : Name) → l.below v w → l.removed v i → l.removed w i
  pub removed_aged : (v : V) (i : Name) → l.removed v i → l.aged v i

-- what is used of the order of ballots: it is a strict one
pub record IsStrict (above : BallotModel → BallotModel → Type 0) : Type 0 where
  pub never_itself : (b : BallotModel) → above b b → ⊥
  pub transitive : (b c d : BallotModel) → above b c → above c d → above b d
