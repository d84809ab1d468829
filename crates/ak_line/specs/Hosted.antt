-- What is true of hosts: the latest coordinator's table has each shard that a running node hosts.
use Rattle.std.specs.Prelude.{◌≡◌, ℕ, ◌<◌, ◌≤◌, true, ◌⊎◌, Some, Contains}
use Rattle.ak_line.specs.Name.{Name}
use Rattle.ak_promise.specs.Ballot.{BallotModel}
use Rattle.ak_line.specs.Line.{Line}
use Rattle.ak_line.specs.Shards.{Home}
use Rattle.ak_line.specs.Moves.{Trial, Asking, Active, Activation, HostShard, Cluster, Sent, runs}
use Rattle.ak_line.specs.Placed.{Directed}

module _ {V : Type 0} (l : Line V) (above : BallotModel → BallotModel → Type 0) where
  -- the node was told a number of some shard, or a packet that tells it one is under way
  abbrev pub Touched : Cluster V → Name → Type 0
  Touched w r = ((s : ℕ) × (0 < ((w.node r).marks s).number)) ⊎ ((b : BallotModel) × (s : ℕ) × (n : ℕ) × Directed l above w r b s n)

  -- the number with which a node hosts a shard is in the latest table, and less than that of another running home there
  abbrev pub IsStale : Cluster V → Name → ℕ → Type 0
  IsStale w z s = (i : Name) × (w.latest ≡ Some i) × (((w.node z).marks s).number ≤ ((w.node i).table s).last)
      × ((h : Home) → ((w.node i).table s).home ≡ Some h → runs l above w h.node → (h.node ≡ z → ⊥) → ((w.node z).marks s).number < h.number)

  -- each host stands in the latest table, and so does whoever may become one
  pub record Hosted (w : Cluster V) : Type 0 where
    -- each shard that is hosted at a running node stands in the latest table with that node and number
    pub housed : (r : Name) (s : ℕ) → runs l above w r → ((w.node r).marks s).hosts ≡ true → (i : Name) × (w.latest ≡ Some i) × (((w.node i).table s).home ≡ Some (record { node = r; number = ((w.node r).marks s).number }))
    -- an order to host that a running node would still obey is the latest coordinator's, and its number is marked already or the shard is placed there
    pub fenced : (z r : Name) (b : BallotModel) (s n : ℕ) → Sent l above w z (HostShard b r s n) → runs l above w r → (w.node r).last ≡ Some b
        → (w.latest ≡ Some b.unique) × ((n ≤ ((w.node r).marks s).number) ⊎ (((w.node b.unique).table s).home ≡ Some (record { node = r; number = n })))
    -- a running node that has to do with shards granted the latest coordinator
    pub needed : (i r : Name) (a : Activation V) → w.latest ≡ Some i → (w.node i).activation ≡ Some a → runs l above w r → Touched w r
        → Contains (w.node r).promised a.ballot × ((t : Trial V) → (w.node i).phase ≡ Active t → Contains t.granted r)
    -- while a node asks, each host that promised to it, and was not removed when the asking was opened, either is the shard's home
    -- in the latest table or has a lesser number than a running home there
    pub stale : (y z : Name) (t : Trial V) (s : ℕ) → runs l above w y → (w.node y).phase ≡ Asking t → Contains (w.node z).promised t.ballot → (l.removed t.opened z → ⊥) → ((w.node z).marks s).hosts ≡ true → IsStale w z s
