-- The moves of one node by themselves: their guards and effects with no world, over what the node has heard.
use Rattle.std.specs.Prelude.{◌≡◌, ◌≢◌, ℕ, ◌<◌, ◌≤◌, true, false, ◌⊎◌, List, [], ◌∷◌, Option, Some, None, Contains}
use Rattle.ak_line.specs.Name.{Name}
use Rattle.ak_promise.specs.Ballot.{BallotModel}
use Rattle.ak_line.specs.Line.{Line}
use Rattle.ak_line.specs.Shards.{Learns, put_at, own_placement, assigned, freed, yielded}
use Rattle.ak_line.specs.Moves.{Node, Trial, Younger, Asking, Active, Ended, Said, Ask, Granted, Released, HandedOver, Names, HostShard, HandOff, ShardStopped, Move, ballot_of, actor, promises, with_grant, with_latest, IsLive, IsNew, IsFree, IsCandidate}

module _ {V : Type 0} (l : Line V) (above : BallotModel → BallotModel → Type 0) where
  -- what the node becomes
  abbrev pub changed : Node V → Move V → Node V
  changed n (Move.Start i) = record n { runs = true }
  changed n (Move.Stop i) = record n { runs = false }
  changed n (Move.Note i v) = record n { settled = v; activation = with_latest l above v n.phase n.activation }
  changed n (Move.Find i q) = record n { finished = q ∷ n.finished }
  changed n (Move.Promise i b) = promises l above b n
  changed n (Move.Repeat i b) = n
  changed n (Move.Open i c) = record (promises l above c n) { phase = Asking (record { ballot = c; granted = i ∷ []; floor = l.merged n.floor n.settled; opened = n.settled }); table = λ s. own_placement i (n.marks s) }
  changed n (Move.Reopen i t c) = record (promises l above c n) { phase = Asking (record t { ballot = c; granted = i ∷ [] }); table = λ s. own_placement i (n.marks s) }
  changed n (Move.Close i t p) = record n { released = true; floor = l.merged n.floor n.settled; phase = p }
  changed n (Move.Retire i) = record n { phase = Ended }
  changed n (Move.Accept i t z f reports table) = record n { phase = with_grant l above z f n.phase; table = table }
  changed n (Move.Activate i t) = record n { phase = Active t; activation = Some (record { ballot = t.ballot; first = n.settled; latest = n.settled }) }
  changed n (Move.Solicit i t) = n
  changed n (Move.HandOver i h) = n
  changed n (Move.Pass i h f) = n
  changed n (Move.Release i h f) = record n { released = true; floor = l.merged n.floor f }
  changed n (Move.Say i b) = n
  changed n (Move.Assign i t s r) = record n { table = put_at s (assigned r (n.table s)) n.table }
  changed n (Move.Free i t s h) = record n { table = put_at s (freed (n.table s)) n.table }
  changed n (Move.Order i t s h) = n
  changed n (Move.Recall i t s h) = n
  changed n (Move.Host i b s m) = record n { marks = put_at s (record { number = m; hosts = true }) n.marks }
  changed n (Move.Yield i b s m) = record n { marks = put_at s (yielded m (n.marks s)) n.marks }
  changed n (Move.Confirm i b s m) = n

  -- what it says
  abbrev pub spoken : Node V → Move V → Option (Said V)
  spoken n (Move.Start i) = None
  spoken n (Move.Stop i) = None
  spoken n (Move.Note i v) = None
  spoken n (Move.Find i q) = None
  spoken n (Move.Promise i b) = Some (Granted b (l.merged n.floor n.settled) n.marks)
  spoken n (Move.Repeat i b) = Some (Granted b (l.merged n.floor n.settled) n.marks)
  spoken n (Move.Open i c) = None
  spoken n (Move.Reopen i t c) = None
  spoken n (Move.Close i t p) = Some (Released t.ballot n.settled)
  spoken n (Move.Retire i) = None
  spoken n (Move.Accept i t z f reports table) = None
  spoken n (Move.Activate i t) = None
  spoken n (Move.Solicit i t) = Some (Ask t.ballot)
  spoken n (Move.HandOver i h) = Some (HandedOver h n.settled)
  spoken n (Move.Pass i h f) = Some (Released h f)
  spoken n (Move.Release i h f) = None
  spoken n (Move.Say i b) = Some (Names b)
  spoken n (Move.Assign i t s r) = None
  spoken n (Move.Free i t s h) = None
  spoken n (Move.Order i t s h) = Some (HostShard t.ballot h.node s h.number)
  spoken n (Move.Recall i t s h) = Some (HandOff t.ballot h.node s h.number)
  spoken n (Move.Host i b s m) = None
  spoken n (Move.Yield i b s m) = None
  spoken n (Move.Confirm i b s m) = Some (ShardStopped b s m)

  -- the guards of a node that runs, given who said what before, and who has stopped
  module _ (heard : Name → Said V → Type 0) (stopped : Name → Type 0) where
    -- something that was heard names the ballot
    abbrev pub Named : BallotModel → Type 0
    Named b = (z : Name) × (said : Said V) × heard z said × (ballot_of said ≡ b)

    -- the guard of a move
    abbrev pub Guard : Node V → Move V → Type 0
    Guard n (Move.Start i) = ⊥
    Guard n (Move.Stop i) = Unit {0}
    Guard n (Move.Note i v) = l.on v × l.below n.settled v × (l.removed v i → ⊥)
    Guard n (Move.Find i q) = l.on n.settled × l.removed n.settled q × stopped q
    Guard n (Move.Promise i b) = heard b.unique (Ask b) × IsNew l above n b × IsFree l above n b.unique
    Guard n (Move.Repeat i b) = (n.last ≡ Some b) × (n.released ≡ false)
    Guard n (Move.Open i c) = (n.phase ≡ Younger) × IsCandidate l above n i × (c.unique ≡ i) × IsNew l above n c × IsFree l above n i
    Guard n (Move.Reopen i t c) = (n.phase ≡ Asking t) × (c.unique ≡ i) × above c t.ballot
    Guard n (Move.Close i t p) = ((n.phase ≡ Asking t) × ((p ≡ Younger) ⊎ (p ≡ Ended))) ⊎ ((n.phase ≡ Active t) × (p ≡ Ended))
    Guard n (Move.Retire i) = n.phase ≡ Younger
    Guard n (Move.Accept i t z f reports table) =
        IsLive l above n.phase t × heard z (Granted t.ballot f reports) × (Contains t.granted z → ⊥) × (l.removed n.settled z → ⊥)
        × ((s : ℕ) → Learns (n.phase ≡ Asking t) z (reports s) (n.table s) (table s))
    Guard n (Move.Activate i t) = (n.phase ≡ Asking t) × IsCandidate l above n i × l.below t.floor n.settled × ((z : Name) → l.aged n.settled z → Contains t.granted z ⊎ Contains n.finished z)
    Guard n (Move.Solicit i t) = IsLive l above n.phase t
    Guard n (Move.HandOver i h) = (h.unique ≡ i) × Named h × ((t : Trial V) → IsLive l above n.phase t → t.ballot ≢ h)
    Guard n (Move.Pass i h f) = (z : Name) × heard z (HandedOver h f)
    Guard n (Move.Release i h f) = (n.last ≡ Some h) × ((z : Name) × (heard z (Released h f) ⊎ heard z (HandedOver h f)))
    Guard n (Move.Say i b) = (n.last ≡ Some b) ⊎ Named b
    Guard n (Move.Assign i t s r) = (n.phase ≡ Active t) × ((n.table s).home ≡ None) × l.aged n.settled r × Contains t.granted r
    Guard n (Move.Free i t s h) = (n.phase ≡ Active t) × ((n.table s).home ≡ Some h) × (Contains n.finished h.node ⊎ heard h.node (ShardStopped t.ballot s h.number))
    Guard n (Move.Order i t s h) = (n.phase ≡ Active t) × ((n.table s).home ≡ Some h)
    Guard n (Move.Recall i t s h) = (n.phase ≡ Active t) × ((n.table s).home ≡ Some h)
    Guard n (Move.Host i b s m) = (n.last ≡ Some b) × ((z : Name) × heard z (HostShard b i s m)) × ((n.marks s).hosts ≡ false) × ((n.marks s).number < m)
    Guard n (Move.Yield i b s m) = (n.last ≡ Some b) × ((z : Name) × heard z (HandOff b i s m))
    Guard n (Move.Confirm i b s m) = (n.last ≡ Some b) × (m ≤ (n.marks s).number) × ((n.marks s).hosts ≡ true → m < (n.marks s).number)

    -- a list of moves of node i, which runs before each
    abbrev pub AllLocal : Name → Node V → List (Move V) → Type 0
    AllLocal i n [] = Unit {0}
    AllLocal i n (m ∷ ms) = (actor l above m ≡ i) × (n.runs ≡ true) × Guard n m × AllLocal i (changed n m) ms

  -- what it becomes by a list of moves
  abbrev pub changed_all : Node V → List (Move V) → Node V
  changed_all n [] = n
  changed_all n (m ∷ ms) = changed_all (changed n m) ms

  -- the list says it
  abbrev pub Speaks : Node V → List (Move V) → Said V → Type 0
  Speaks n [] said = ⊥
  Speaks n (m ∷ ms) said = (spoken n m ≡ Some said) ⊎ Speaks (changed n m) ms said
