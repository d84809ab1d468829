-- What is true of marks, reports, tables and the packets of shards, node by node.
use Rattle.std.specs.Prelude.{◌≡◌, ℕ, ◌<◌, ◌≤◌, true, ◌⊎◌, Some, Contains}
use Rattle.ak_line.specs.Name.{Name}
use Rattle.ak_promise.specs.Ballot.{BallotModel}
use Rattle.ak_line.specs.Line.{Line}
use Rattle.ak_line.specs.Shards.{Mark, Home}
use Rattle.ak_line.specs.Moves.{Trial, Activation, Granted, HostShard, HandOff, ShardStopped, Cluster, Sent, IsLive}

module _ {V : Type 0} (l : Line V) (above : BallotModel → BallotModel → Type 0) where
  -- the last version of some activation counts the node as aged
  abbrev pub Reached : Cluster V → Name → Type 0
  Reached w r = (x : Name) × (a : Activation V) × ((w.node x).activation ≡ Some a) × l.aged a.latest r

  -- the node was told to host the shard, or to hand it off
  abbrev pub Directed : Cluster V → Name → BallotModel → ℕ → ℕ → Type 0
  Directed w r b s n = (z : Name) × (Sent l above w z (HostShard b r s n) ⊎ Sent l above w z (HandOff b r s n))

  -- the ballot is that of an activation
  abbrev pub Acted : Cluster V → BallotModel → Type 0
  Acted w b = (a : Activation V) × ((w.node b.unique).activation ≡ Some a) × (a.ballot ≡ b)

  -- where marks, homes and packets of shards come from
  pub record Placed (w : Cluster V) : Type 0 where
    pub marked : (r : Name) (s : ℕ) → 0 < ((w.node r).marks s).number → Reached w r
    pub directed : (r : Name) (b : BallotModel) (s n : ℕ) → Directed w r b s n → Contains (w.node r).promised b × Reached w r × Acted w b
    -- homes, those in the tables of ended ones too
    pub home : (y : Name) (s : ℕ) (h : Home) → ((w.node y).table s).home ≡ Some h → Reached w h.node × (h.number ≤ ((w.node y).table s).last)
    -- a coordinator's homes have granted to it
    pub granted : (y : Name) (t : Trial V) (s : ℕ) (h : Home) → IsLive l above (w.node y).phase t → ((w.node y).table s).home ≡ Some h → Contains t.granted h.node
    pub hosted : (r : Name) (s : ℕ) → ((w.node r).marks s).hosts ≡ true → 0 < ((w.node r).marks s).number
    -- reports and stops say no more than is true now, since marks never fall
    pub reported : (z : Name) (c : BallotModel) (f : V) (m : ℕ → Mark) (s : ℕ) → Sent l above w z (Granted c f m) → ((m s).number ≤ ((w.node z).marks s).number) × ((m s).hosts ≡ true → 0 < (m s).number)
    pub stopped : (r : Name) (b : BallotModel) (s n : ℕ) → Sent l above w r (ShardStopped b s n) → (n ≤ ((w.node r).marks s).number) × (((w.node r).marks s).hosts ≡ true → n < ((w.node r).marks s).number)
