-- What is true of promises after any moves.
use Rattle.std.specs.Prelude.{◌≡◌, ℕ, true, false, ◌⊎◌, List, [], ◌∷◌, Option, Some, None, Contains}
use Rattle.ak_line.specs.Name.{Name}
use Rattle.ak_promise.specs.Ballot.{BallotModel}
use Rattle.ak_line.specs.Line.{Line}
use Rattle.ak_line.specs.Shards.{Mark}
use Rattle.ak_line.specs.Moves.{Node, Trial, Younger, Asking, Active, Activation, Granted, Released, HandedOver, Packet, Cluster, ballot_of, Sent, IsLive}

-- the newest first, each above the next
abbrev pub Descends : (BallotModel → BallotModel → Type 0) → List BallotModel → Type 0
Descends above [] = Unit {0}
Descends above (b ∷ bs) = ((c : BallotModel) → Contains bs c → above b c) × Descends above bs

-- the first of a list
abbrev pub newest : List BallotModel → Option BallotModel
newest [] = None
newest (b ∷ bs) = Some b

module _ {V : Type 0} (l : Line V) (above : BallotModel → BallotModel → Type 0) where
  -- a node that runs asks or is active with this ballot
  pub record LivesIn (n : Node V) (c : BallotModel) : Type 0 where
    pub is_running : n.runs ≡ true
    pub trial : Trial V
    pub live : IsLive l above n.phase trial
    pub is_ballot : trial.ballot ≡ c

  -- the node lives with the ballot in the world
  abbrev pub Lives : Cluster V → Name → BallotModel → Type 0
  Lives w y c = LivesIn (w.node y) c

  -- each node that counts aged at an activation promised its ballot, or was removed and has stopped
  pub record HasCensus (w : Cluster V) (x : Name) (a : Activation V) : Type 0 where
    pub promised : Contains (w.node x).promised a.ballot
    pub own : a.ballot.unique ≡ x
    pub rose : l.below a.first a.latest
    pub first_on : l.on a.first
    pub latest_on : l.on a.latest
    pub itself : l.aged a.first x
    pub stays : l.removed a.latest x → ⊥
    pub census : (z : Name) → l.aged a.first z → Contains (w.node z).promised a.ballot ⊎ (l.removed a.first z × ((w.node z).runs ≡ false))
    -- it opened nothing since
    pub greatest : (b : BallotModel) → Contains (w.node x).promised b → b.unique ≡ x → (b ≡ a.ballot) ⊎ above a.ballot b
    pub within : l.below a.latest (w.node x).settled
    pub current : (t : Trial V) → (w.node x).phase ≡ Active t → (t.ballot ≡ a.ballot) × (a.latest ≡ (w.node x).settled)

  -- a ballot that lives binds each node that promised it; one that was let go lives no more
  pub record Promised (w : Cluster V) : Type 0 where
    pub finished : (i q : Name) → Contains (w.node i).finished q → ((w.node q).runs ≡ false) × l.on (w.node i).settled × l.removed (w.node i).settled q
    pub own : (i : Name) (t : Trial V) → IsLive l above (w.node i).phase t → ((w.node i).last ≡ Some t.ballot) × ((w.node i).released ≡ false) × (t.ballot.unique ≡ i) × Contains t.granted i
    pub descends : (i : Name) → Descends above (w.node i).promised
    pub newest : (i : Name) → (w.node i).last ≡ newest (w.node i).promised
    pub known : (i : Name) (b : BallotModel) → Contains (w.node i).promised b → Contains (w.node b.unique).promised b
    pub named : (p : Packet V) → Contains w.packets p → Contains (w.node (ballot_of p.said).unique).promised (ballot_of p.said)
    pub binds : (y x : Name) (c : BallotModel) → Lives w y c → Contains (w.node x).promised c → ((w.node x).last ≡ Some c) × ((w.node x).released ≡ false)
    pub granters : (y z : Name) (t : Trial V) → IsLive l above (w.node y).phase t → Contains t.granted z → Contains (w.node z).promised t.ballot
    pub grants : (z : Name) (c : BallotModel) (f : V) (m : ℕ → Mark) → Sent l above w z (Granted c f m) → Contains (w.node z).promised c
    pub dead : (y z : Name) (h : BallotModel) (f : V) → Sent l above w z (Released h f) ⊎ Sent l above w z (HandedOver h f) → Lives w y h → ⊥
    pub let_go : (y x : Name) (h : BallotModel) → (w.node x).last ≡ Some h → (w.node x).released ≡ true → Lives w y h → ⊥
    pub activations : (x : Name) (a : Activation V) → (w.node x).activation ≡ Some a → HasCensus w x a
    pub active : (x : Name) (t : Trial V) → (w.node x).phase ≡ Active t → (a : Activation V) × ((w.node x).activation ≡ Some a)
    pub before : (x : Name) → ((w.node x).phase ≡ Younger) ⊎ ((t : Trial V) × ((w.node x).phase ≡ Asking t)) → (w.node x).activation ≡ None
