-- All that is true after any allowed moves, and what it means for shards and entities.
use Rattle.std.specs.Prelude.{◌≡◌, ℕ, Bool, true, IsTrue, List, Some}
use Rattle.ak_line.specs.Name.{Name}
use Rattle.ak_promise.specs.Ballot.{BallotModel}
use Rattle.ak_line.specs.Line.{Line}
use Rattle.ak_line.specs.Moves.{Trial, Active, Cluster, runs}
use Rattle.ak_line.specs.Promised.{Promised}
use Rattle.ak_line.specs.Floors.{Floors, Latest}
use Rattle.ak_line.specs.Placed.{Placed}
use Rattle.ak_line.specs.Reported.{Reported}
use Rattle.ak_line.specs.Hosted.{Hosted}

module _ {V : Type 0} (l : Line V) (above : BallotModel → BallotModel → Type 0) where
  -- all of it
  pub record Safe (w : Cluster V) : Type 0 where
    pub promised : Promised l above w
    pub floors : Floors l above w
    pub latest : Latest l above w
    pub placed : Placed l above w
    pub reported : Reported l above w
    pub hosted : Hosted l above w

  -- at most one running node is active
  abbrev pub OneActive : Cluster V → Type 0
  OneActive w = (x y : Name) (s t : Trial V) → runs l above w x → runs l above w y → (w.node x).phase ≡ Active s → (w.node y).phase ≡ Active t → x ≡ y

  -- a running node that hosts the shard
  abbrev pub RunsShard : Cluster V → Name → ℕ → Type 0
  RunsShard w x s = runs l above w x × (((w.node x).marks s).hosts ≡ true)

  -- no shard is hosted at two running nodes
  abbrev pub OneHome : Cluster V → Type 0
  OneHome w = (x y : Name) (s : ℕ) → RunsShard w x s → RunsShard w y s → x ≡ y

  -- while a running node is active, each shard that is hosted at a running node stands in its table with that node and that number
  abbrev pub InTable : Cluster V → Type 0
  InTable w = (y x : Name) (s : ℕ) (t : Trial V) → runs l above w y → (w.node y).phase ≡ Active t → RunsShard w x s
      → ((w.node y).table s).home ≡ Some (record { node = x; number = ((w.node x).marks s).number })

  -- entities are active only while their shard is hosted
  abbrev pub OnlyHosted : Cluster V → (E : Type 0) → (E → ℕ) → (Name → E → Type 0) → Type 0
  OnlyHosted w E shard_of active = (x : Name) (e : E) → active x e → ((w.node x).marks (shard_of e)).hosts ≡ true

  -- where entities are active only while their shard is hosted, whichever shards are theirs, none is active at two running nodes
  abbrev pub OnePlace : Cluster V → Type 0
  OnePlace w = (shard_of : List ℕ → ℕ) (active : Name → List ℕ → Bool) → OnlyHosted w (List ℕ) shard_of (λ x entity. IsTrue (active x entity))
      → (x y : Name) (entity : List ℕ) → runs l above w x → runs l above w y → IsTrue (active x entity) → IsTrue (active y entity) → x ≡ y
