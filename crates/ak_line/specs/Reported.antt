-- What is true of who asks: what its granters reported stays true, and its table agrees with them.
use Rattle.std.specs.Prelude.{◌≡◌, ℕ, ◌≤◌, true, Some, Contains}
use Rattle.ak_line.specs.Name.{Name}
use Rattle.ak_promise.specs.Ballot.{BallotModel}
use Rattle.ak_line.specs.Line.{Line}
use Rattle.ak_line.specs.Shards.{Mark, Home, Placement}
use Rattle.ak_line.specs.Moves.{Trial, Asking, Granted, Cluster, Sent, IsLive, runs}

module _ {V : Type 0} (l : Line V) (above : BallotModel → BallotModel → Type 0) where
  -- a table agrees with the marks of those that granted a trial
  pub record Agrees (w : Cluster V) (e : ℕ → Placement) (t : Trial V) : Type 0 where
    -- what was granted to it reported what is so still
    pub frozen : (z : Name) (f : V) (m : ℕ → Mark) → Sent l above w z (Granted t.ballot f m) → m ≡ (w.node z).marks
    pub covers : (z : Name) (s : ℕ) → Contains t.granted z → ((w.node z).marks s).number ≤ (e s).last
    -- a granter's shard has a home, with a number that is not less
    pub housed : (z : Name) (s : ℕ) → Contains t.granted z → ((w.node z).marks s).hosts ≡ true → (h : Home) × ((e s).home ≡ Some h) × (((w.node z).marks s).number ≤ h.number)
    -- a home hosts the shard, with that number
    pub hosts : (s : ℕ) (h : Home) → (e s).home ≡ Some h → (((w.node h.node).marks s).hosts ≡ true) × (((w.node h.node).marks s).number ≡ h.number)

  -- what an asker knows is so, and who granted was not removed
  pub record Reported (w : Cluster V) : Type 0 where
    pub agrees : (y : Name) (t : Trial V) → runs l above w y → (w.node y).phase ≡ Asking t → Agrees w (w.node y).table t
    pub opened : (y : Name) (t : Trial V) → IsLive l above (w.node y).phase t → l.on t.opened × l.below t.opened (w.node y).settled × l.aged t.opened y
    -- no granter was removed when the asking was opened
    pub unremoved : (y z : Name) (t : Trial V) → IsLive l above (w.node y).phase t → Contains t.granted z → l.removed t.opened z → ⊥
