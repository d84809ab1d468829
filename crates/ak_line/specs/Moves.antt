-- What nodes do with promises and shards: each rule of a step is a list of these moves. No message kind, tick or gossip is spoken of.
use Rattle.std.specs.Prelude.{◌≡◌, ◌≢◌, ℕ, ◌<◌, ◌≤◌, Bool, true, false, if◌then◌else◌, ◌⊎◌, List, [], ◌∷◌, Option, Some, None, Contains}
use Rattle.ak_line.specs.Name.{Name, is_name}
use Rattle.ak_promise.specs.Ballot.{BallotModel}
use Rattle.ak_line.specs.Line.{Line}
use Rattle.ak_line.specs.Shards.{Mark, Home, Placement, Learns, unmarked, unplaced, put_at, own_placement, assigned, freed, yielded}

-- an asking: its ballot, who granted it, the floor of their answers, and the settled version with which it was opened
pub record Trial (V : Type 0) : Type 0 where
  pub ballot : BallotModel
  pub granted : List Name
  pub floor : V
  pub opened : V

-- not asking yet, asking, active, or over for good
pub data Phase (V : Type 0) : Type 0 where
  Younger : Phase V
  Asking : Trial V → Phase V
  Active : Trial V → Phase V
  Ended : Phase V

-- with which ballot a node became active, and its settled versions then and at the last moment at which it was active
pub record Activation (V : Type 0) : Type 0 where
  pub ballot : BallotModel
  pub first : V
  pub latest : V

-- what a node keeps of promises and shards, and what is remembered of it
pub record Node (V : Type 0) : Type 0 where
  pub runs : Bool
  -- the version of its settled view, and whom it finds finished there
  pub settled : V
  pub finished : List Name
  -- its promise
  pub last : Option BallotModel
  pub released : Bool
  pub floor : V
  pub phase : Phase V
  -- by shard: what it was told and hosts, and its table (of a node that asks or is active; that of an ended one stays as it was)
  pub marks : ℕ → Mark
  pub table : ℕ → Placement
  -- all ballots that it ever promised, the newest first, and its activation: no node keeps these
  pub promised : List BallotModel
  pub activation : Option (Activation V)

-- what a packet says of ballots, versions and shards; one that only names ballots says so of each
pub data Said (V : Type 0) : Type 0 where
  Ask : BallotModel → Said V
  Granted : BallotModel → V → (ℕ → Mark) → Said V
  Released : BallotModel → V → Said V
  HandedOver : BallotModel → V → Said V
  Names : BallotModel → Said V
  -- of a shard with a number: to host it (to this node), to hand it off (to this node), and that it is stopped
  HostShard : BallotModel → Name → ℕ → ℕ → Said V
  HandOff : BallotModel → Name → ℕ → ℕ → Said V
  ShardStopped : BallotModel → ℕ → ℕ → Said V

-- who said it
pub record Packet (V : Type 0) : Type 0 where
  pub from : Name
  pub said : Said V

-- each name has a node; one that has not started is blank
pub record Cluster (V : Type 0) : Type 0 where
  pub node : Name → Node V
  pub packets : List (Packet V)
  -- who became active last: no node keeps this
  pub latest : Option Name

-- what a rule does to one node, and what it says
pub data Move (V : Type 0) : Type 0 where
  -- a process starts, with nothing known
  Start : Name → Move V
  Stop : Name → Move V
  -- a settled view is noted
  Note : Name → V → Move V
  -- a tombstone of the settled view is finished now
  Find : Name → Name → Move V
  -- a ballot that is asked for is promised and granted, with the floor and the reports
  Promise : Name → BallotModel → Move V
  -- the same unreleased ballot is granted again
  Repeat : Name → BallotModel → Move V
  -- the candidate promises a new ballot to itself and begins to ask, with a table of its own marks
  Open : Name → BallotModel → Move V
  -- an asker makes a greater ballot, since another promised more
  Reopen : Name → Trial V → BallotModel → Move V
  -- an asking or an activity ends: the own ballot is released
  Close : Name → Trial V → Phase V → Move V
  -- a node that never asked leaves
  Retire : Name → Move V
  -- a grant is heard: its floor is merged and its reports are learnt
  Accept : Name → Trial V → Name → V → (ℕ → Mark) → (ℕ → Placement) → Move V
  -- each needed node has granted, and the settled version covers the floor
  Activate : Name → Trial V → Move V
  -- the live ballot is asked for
  Solicit : Name → Trial V → Move V
  -- an own ballot that is not live is handed over
  HandOver : Name → BallotModel → Move V
  -- a ballot that was handed over is released to the needed nodes
  Pass : Name → BallotModel → V → Move V
  -- the last promise is released
  Release : Name → BallotModel → V → Move V
  -- a packet names a ballot and tells nothing else of this
  Say : Name → BallotModel → Move V
  -- the coordinator gives a shard without a home to a node, with the next number
  Assign : Name → Trial V → ℕ → Name → Move V
  -- a shard whose home is finished, or stopped it, has no home now
  Free : Name → Trial V → ℕ → Home → Move V
  -- the home is told to host its shard
  Order : Name → Trial V → ℕ → Home → Move V
  -- the home is told to hand its shard off
  Recall : Name → Trial V → ℕ → Home → Move V
  -- a shard is hosted
  Host : Name → BallotModel → ℕ → ℕ → Move V
  -- a shard is handed off: it ends here where it is hosted with at most that number
  Yield : Name → BallotModel → ℕ → ℕ → Move V
  -- the coordinator is told that the shard is stopped
  Confirm : Name → BallotModel → ℕ → ℕ → Move V

-- the ballot that is named
abbrev pub ballot_of : {V : Type 0} → Said V → BallotModel
ballot_of (Ask b) = b
ballot_of (Granted b floor reports) = b
ballot_of (Released b floor) = b
ballot_of (HandedOver b floor) = b
ballot_of (Names b) = b
ballot_of (HostShard b to s n) = b
ballot_of (HandOff b to s n) = b
ballot_of (ShardStopped b s n) = b

module _ {V : Type 0} (l : Line V) (above : BallotModel → BallotModel → Type 0) where
  -- a node that has not started
  abbrev pub blank : Node V
  blank = record { runs = false; settled = l.nothing; finished = []; last = None; released = false; floor = l.nothing; phase = Younger; marks = unmarked; table = unplaced; promised = []; activation = None }

  -- one node is replaced
  abbrev pub set : Name → Node V → (Name → Node V) → Name → Node V
  set i n nodes j = if is_name j i then n else nodes j

  -- the node said it before
  abbrev pub Sent : Cluster V → Name → Said V → Type 0
  Sent w i said = Contains w.packets (record { from = i; said = said })

  -- the node asks or is active with this trial
  abbrev pub IsLive : Phase V → Trial V → Type 0
  IsLive Younger t = ⊥
  IsLive (Asking s) t = s ≡ t
  IsLive (Active s) t = s ≡ t
  IsLive Ended t = ⊥

  -- the last promise does not bind a node against this one's next ballot
  abbrev pub IsFree : Node V → Name → Type 0
  IsFree n k = (b : BallotModel) → n.last ≡ Some b → (n.released ≡ true) ⊎ (b.unique ≡ k) ⊎ Contains n.finished b.unique

  -- the ballot is above the last promise
  abbrev pub IsNew : Node V → BallotModel → Type 0
  IsNew n b = (c : BallotModel) → n.last ≡ Some c → above b c

  -- the oldest member of a settled view is one that aged and was not removed
  abbrev pub IsCandidate : Node V → Name → Type 0
  IsCandidate n i = l.on n.settled × l.aged n.settled i × (l.removed n.settled i → ⊥)

  -- some packet names the ballot
  abbrev pub IsNamed : Cluster V → BallotModel → Type 0
  IsNamed w b = (p : Packet V) × Contains w.packets p × (ballot_of p.said ≡ b)

  -- no settled view and no activation's version says that the node aged
  abbrev pub IsUnheard : Cluster V → Name → Type 0
  IsUnheard w z = (i : Name) → (l.aged (w.node i).settled z → ⊥) × ((a : Activation V) → (w.node i).activation ≡ Some a → l.aged a.first z → ⊥)

  abbrev pub runs : Cluster V → Name → Type 0
  runs w i = (w.node i).runs ≡ true

  -- the move's guard: what its rule tests, and what is known of settled versions
  abbrev pub Allowed : Cluster V → Move V → Type 0
  -- a process that starts is new: no settled version counts it as aged
  Allowed w (Start z) = (w.node z ≡ blank) × IsUnheard w z
  Allowed w (Stop i) = runs w i
  -- a node that is removed in the view that it would note stops first; its settled version never falls
  Allowed w (Note i v) = runs w i × l.on v × l.below (w.node i).settled v × (l.removed v i → ⊥)
  -- a removed node is found finished where it was confirmed or the margin was waited for: with the margin kept it has stopped
  Allowed w (Find i q) = runs w i × l.on (w.node i).settled × l.removed (w.node i).settled q × ((w.node q).runs ≡ false)
  -- a ballot is asked for by its own node
  Allowed w (Promise i b) = runs w i × Sent w b.unique (Ask b) × IsNew (w.node i) b × IsFree (w.node i) b.unique
  Allowed w (Repeat i b) = runs w i × ((w.node i).last ≡ Some b) × ((w.node i).released ≡ false)
  Allowed w (Open i c) = runs w i × ((w.node i).phase ≡ Younger) × IsCandidate (w.node i) i × (c.unique ≡ i) × IsNew (w.node i) c × IsFree (w.node i) i
  Allowed w (Reopen i t c) = runs w i × ((w.node i).phase ≡ Asking t) × (c.unique ≡ i) × above c t.ballot
  Allowed w (Close i t p) = runs w i × (((w.node i).phase ≡ Asking t) × ((p ≡ Younger) ⊎ (p ≡ Ended)) ⊎ ((w.node i).phase ≡ Active t) × (p ≡ Ended))
  Allowed w (Retire i) = runs w i × ((w.node i).phase ≡ Younger)
  -- a grant of a node that the settled version has removed does not count
  Allowed w (Accept i t z f reports table) =
      runs w i × IsLive (w.node i).phase t × Sent w z (Granted t.ballot f reports) × (Contains t.granted z → ⊥) × (l.removed (w.node i).settled z → ⊥)
      × ((s : ℕ) → Learns ((w.node i).phase ≡ Asking t) z (reports s) ((w.node i).table s) (table s))
  -- each needed node, which is each that the settled version counts as aged, has granted or is finished
  Allowed w (Activate i t) =
      runs w i × ((w.node i).phase ≡ Asking t) × IsCandidate (w.node i) i × l.below t.floor (w.node i).settled
      × ((z : Name) → l.aged (w.node i).settled z → Contains t.granted z ⊎ Contains (w.node i).finished z)
  Allowed w (Solicit i t) = runs w i × IsLive (w.node i).phase t
  Allowed w (HandOver i h) = runs w i × (h.unique ≡ i) × IsNamed w h × ((t : Trial V) → IsLive (w.node i).phase t → t.ballot ≢ h)
  Allowed w (Pass i h f) = runs w i × (z : Name) × Sent w z (HandedOver h f)
  -- by a release, or by the answer to the request to hand over
  Allowed w (Release i h f) = runs w i × ((w.node i).last ≡ Some h) × ((z : Name) × (Sent w z (Released h f) ⊎ Sent w z (HandedOver h f)))
  Allowed w (Say i b) = runs w i × (((w.node i).last ≡ Some b) ⊎ IsNamed w b)
  -- an owner is an Up member of the settled version that has granted
  Allowed w (Assign i t s r) = runs w i × ((w.node i).phase ≡ Active t) × (((w.node i).table s).home ≡ None) × l.aged (w.node i).settled r × Contains t.granted r
  -- the home is finished, or stopped the shard with the home's number
  Allowed w (Free i t s h) =
      runs w i × ((w.node i).phase ≡ Active t) × (((w.node i).table s).home ≡ Some h)
      × (Contains (w.node i).finished h.node ⊎ Sent w h.node (ShardStopped t.ballot s h.number))
  Allowed w (Order i t s h) = runs w i × ((w.node i).phase ≡ Active t) × (((w.node i).table s).home ≡ Some h)
  Allowed w (Recall i t s h) = runs w i × ((w.node i).phase ≡ Active t) × (((w.node i).table s).home ≡ Some h)
  Allowed w (Host i b s n) =
      runs w i × ((w.node i).last ≡ Some b) × ((z : Name) × Sent w z (HostShard b i s n)) × (((w.node i).marks s).hosts ≡ false) × (((w.node i).marks s).number < n)
  Allowed w (Yield i b s n) = runs w i × ((w.node i).last ≡ Some b) × ((z : Name) × Sent w z (HandOff b i s n))
  -- said right after a hand-off with that number was obeyed
  Allowed w (Confirm i b s n) =
      runs w i × ((w.node i).last ≡ Some b) × (n ≤ ((w.node i).marks s).number) × (((w.node i).marks s).hosts ≡ true → n < ((w.node i).marks s).number)

  -- while a node is active, its activation's last version is that which it notes
  abbrev pub with_latest : V → Phase V → Option (Activation V) → Option (Activation V)
  with_latest v (Active t) (Some a) = Some (record a { latest = v })
  with_latest v (Active t) None = None
  with_latest v Younger a = a
  with_latest v (Asking t) a = a
  with_latest v Ended a = a

  -- a grant joins the trial
  abbrev pub with_grant : Name → V → Phase V → Phase V
  with_grant z f Younger = Younger
  with_grant z f (Asking t) = Asking (record t { granted = z ∷ t.granted; floor = l.merged t.floor f })
  with_grant z f (Active t) = Active (record t { granted = z ∷ t.granted; floor = l.merged t.floor f })
  with_grant z f Ended = Ended

  -- a new last promise
  abbrev pub promises : BallotModel → Node V → Node V
  promises b n = record n { last = Some b; released = false; promised = b ∷ n.promised }

  -- a world in which one node is replaced, and one in which one packet more was sent
  abbrev pub puts : Name → Node V → Cluster V → Cluster V
  puts i n w = record w { node = set i n w.node }

  abbrev pub says : Name → Said V → Cluster V → Cluster V
  says i said w = record w { packets = record { from = i; said = said } ∷ w.packets }

  -- the world after a move of a node as it is
  abbrev pub after_at : Cluster V → Node V → Move V → Cluster V
  after_at w n (Start z) = puts z (record n { runs = true }) w
  after_at w n (Stop i) = puts i (record n { runs = false }) w
  after_at w n (Note i v) = puts i (record n { settled = v; activation = with_latest v n.phase n.activation }) w
  after_at w n (Find i q) = puts i (record n { finished = q ∷ n.finished }) w
  after_at w n (Promise i b) = says i (Granted b (l.merged n.floor n.settled) n.marks) (puts i (promises b n) w)
  after_at w n (Repeat i b) = says i (Granted b (l.merged n.floor n.settled) n.marks) w
  after_at w n (Open i c) = puts i (record (promises c n) { phase = Asking (record { ballot = c; granted = i ∷ []; floor = l.merged n.floor n.settled; opened = n.settled }); table = λ s. own_placement i (n.marks s) }) w
  after_at w n (Reopen i t c) = puts i (record (promises c n) { phase = Asking (record t { ballot = c; granted = i ∷ [] }); table = λ s. own_placement i (n.marks s) }) w
  after_at w n (Close i t p) = says i (Released t.ballot n.settled) (puts i (record n { released = true; floor = l.merged n.floor n.settled; phase = p }) w)
  after_at w n (Retire i) = puts i (record n { phase = Ended }) w
  after_at w n (Accept i t z f reports table) = puts i (record n { phase = with_grant z f n.phase; table = table }) w
  after_at w n (Activate i t) = record (puts i (record n { phase = Active t; activation = Some (record { ballot = t.ballot; first = n.settled; latest = n.settled }) }) w) { latest = Some i }
  after_at w n (Solicit i t) = says i (Ask t.ballot) w
  after_at w n (HandOver i h) = says i (HandedOver h n.settled) w
  after_at w n (Pass i h f) = says i (Released h f) w
  after_at w n (Release i h f) = puts i (record n { released = true; floor = l.merged n.floor f }) w
  after_at w n (Say i b) = says i (Names b) w
  after_at w n (Assign i t s r) = puts i (record n { table = put_at s (assigned r (n.table s)) n.table }) w
  after_at w n (Free i t s h) = puts i (record n { table = put_at s (freed (n.table s)) n.table }) w
  after_at w n (Order i t s h) = says i (HostShard t.ballot h.node s h.number) w
  after_at w n (Recall i t s h) = says i (HandOff t.ballot h.node s h.number) w
  after_at w n (Host i b s m) = puts i (record n { marks = put_at s (record { number = m; hosts = true }) n.marks }) w
  after_at w n (Yield i b s m) = puts i (record n { marks = put_at s (yielded m (n.marks s)) n.marks }) w
  after_at w n (Confirm i b s m) = says i (ShardStopped b s m) w

  -- whose move it is
  abbrev pub actor : Move V → Name
  actor (Start i) = i
  actor (Stop i) = i
  actor (Note i v) = i
  actor (Find i q) = i
  actor (Promise i b) = i
  actor (Repeat i b) = i
  actor (Open i c) = i
  actor (Reopen i t c) = i
  actor (Close i t p) = i
  actor (Retire i) = i
  actor (Accept i t z f reports table) = i
  actor (Activate i t) = i
  actor (Solicit i t) = i
  actor (HandOver i h) = i
  actor (Pass i h f) = i
  actor (Release i h f) = i
  actor (Say i b) = i
  actor (Assign i t s r) = i
  actor (Free i t s h) = i
  actor (Order i t s h) = i
  actor (Recall i t s h) = i
  actor (Host i b s n) = i
  actor (Yield i b s n) = i
  actor (Confirm i b s n) = i

  abbrev pub after : Cluster V → Move V → Cluster V
  after w m = after_at w (w.node (actor m)) m

  abbrev pub AllAllowed : Cluster V → List (Move V) → Type 0
  AllAllowed w [] = Unit {0}
  AllAllowed w (m ∷ ms) = Allowed w m × AllAllowed (after w m) ms

  abbrev pub after_all : Cluster V → List (Move V) → Cluster V
  after_all w [] = w
  after_all w (m ∷ ms) = after_all (after w m) ms

  -- nobody has started, and nothing was said
  abbrev pub unstarted : Cluster V
  unstarted = record { node = λ i. blank; packets = []; latest = None }
