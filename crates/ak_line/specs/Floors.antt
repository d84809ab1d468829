-- What is true of floors: who promised to a coordinator and is bound to it no more knows of a version that covers its last one,
-- and so does each later coordinator.
use Rattle.std.specs.Prelude.{◌≡◌, ℕ, false, ◌⊎◌, Some, Contains}
use Rattle.ak_line.specs.Name.{Name}
use Rattle.ak_promise.specs.Ballot.{BallotModel}
use Rattle.ak_line.specs.Line.{Line}
use Rattle.ak_line.specs.Shards.{Mark}
use Rattle.ak_line.specs.Moves.{Node, Trial, Active, Activation, Granted, Released, HandedOver, Cluster, Sent, IsLive, runs}

module _ {V : Type 0} (l : Line V) (above : BallotModel → BallotModel → Type 0) where
  -- the node is bound by the activation's ballot, or it knows of a version that covers the activation's last one
  abbrev pub Follows : Node V → Activation V → Type 0
  Follows n a = ((n.last ≡ Some a.ballot) × (n.released ≡ false)) ⊎ l.below a.latest (l.merged n.floor n.settled)

  -- what versions the nodes know of that promised to a coordinator
  pub record Floors (w : Cluster V) : Type 0 where
    pub follows : (x z : Name) (a : Activation V) → (w.node x).activation ≡ Some a → Contains (w.node z).promised a.ballot → Follows (w.node z) a
    -- releases, and answers to later ballots, carry a covering version
    pub covered : (x z : Name) (a : Activation V) (f : V) → (w.node x).activation ≡ Some a → Sent l above w z (Released a.ballot f) ⊎ Sent l above w z (HandedOver a.ballot f) → l.below a.latest f
    pub answered : (x z : Name) (a : Activation V) (c : BallotModel) (f : V) (m : ℕ → Mark) → (w.node x).activation ≡ Some a → Sent l above w z (Granted c f m) → above c a.ballot → Contains (w.node z).promised a.ballot → l.below a.latest f
    -- the floor of a later asking covers it as soon as one granter of both was heard
    pub heard : (x y z : Name) (a : Activation V) (t : Trial V) → (w.node x).activation ≡ Some a → IsLive l above (w.node y).phase t → Contains t.granted z → above t.ballot a.ballot → Contains (w.node z).promised a.ballot → l.below a.latest t.floor

  -- who is active is the one that became so last, and its first version covers the last ones of all that were active before
  pub record Latest (w : Cluster V) : Type 0 where
    pub current : (y : Name) (t : Trial V) → runs l above w y → (w.node y).phase ≡ Active t → w.latest ≡ Some y
    pub was_active : (y : Name) → w.latest ≡ Some y → (a : Activation V) × ((w.node y).activation ≡ Some a)
    pub rises : (x y : Name) (a b : Activation V) → w.latest ≡ Some y → (w.node x).activation ≡ Some a → (w.node y).activation ≡ Some b → (x ≡ y) ⊎ l.below a.latest b.first
