-- How a datagram is spelled: header, sender, receiver and body, kind by kind (this project's choice).
use Rattle.std.specs.Prelude.{◌≡◌, ℕ, ◌<◌, ◌≤◌, ◌^◌, Bool, true, false, IsTrue, List, [], ◌++◌, ⊤}
use Rattle.ak_address.specs.Unique.{UniqueModel, IsUnique, IsAddress}
use Rattle.ak_promise.specs.Ballot.{BallotModel, IsBallot}
use Rattle.ak_member.specs.declared.standing.Standing.{Standing}
use Rattle.ak_gossip.specs.declared.part.Part.{Part}
use Rattle.ak_gossip.specs.Gossip.{GossipState, IsGossip, is_known}
use Rattle.ak_gossip.specs.Parts.{parts_of}
use Rattle.ak_field.specs.Ranges.{IsEntityIn, IsNumber, IsShard, IsVersionOfFormat}
use Rattle.ak_field.specs.Spelling.{eight_bytes, format, header, process, ballot, shard, entity, version, reports}
use Rattle.ak_field.specs.Lists.{IsShort, AreReports}
use Rattle.ak_field.specs.Parts.{parts}
use Rattle.ak_wire.specs.declared.envelope.Envelope.{Envelope}
use Rattle.ak_wire.specs.declared.envelope.Message.{Message}
use Rattle.ak_wire.specs.declared.envelope.Message.TheVariants.{Join, Welcome, Gossip, Heartbeat, HeartbeatReply, ExitingConfirmed, Ask, Granted, Busy, Old, HandOverToMe, HandOverDone, Release, GetHome, Home, HostShard, ShardStarted, BeginHandOff, BeginHandOffAck, HandOff, ShardStopped, Forward, Leave, Down, Offer}

-- the number of a message's kind
abbrev pub kind_number : Message → ℕ
kind_number Join = 1
kind_number (Welcome g) = 2
kind_number (Gossip g) = 3
kind_number Heartbeat = 4
kind_number HeartbeatReply = 5
kind_number ExitingConfirmed = 6
kind_number (Ask b) = 7
kind_number (Granted b v rs) = 8
kind_number (Busy b c) = 9
kind_number (Old b c) = 10
kind_number (HandOverToMe b) = 11
kind_number (HandOverDone b v) = 12
kind_number (Release b v) = 13
kind_number (GetHome b s) = 14
kind_number (Home b s u) = 15
kind_number (HostShard b s n) = 16
kind_number (ShardStarted b s n) = 17
kind_number (BeginHandOff b s n) = 18
kind_number (BeginHandOffAck b s n) = 19
kind_number (HandOff b s n) = 20
kind_number (ShardStopped b s n) = 21
kind_number (Forward name payload) = 22
kind_number (Leave u) = 23
kind_number (Down u) = 24
kind_number (Offer name payload) = 25

-- a message is for any process at an address
abbrev pub is_for_anybody : Message → Bool
is_for_anybody Join = true
is_for_anybody (Leave u) = true
is_for_anybody (Down u) = true
is_for_anybody (Offer name payload) = true
is_for_anybody other = false

-- the parts that a message carries
abbrev pub parts_in : Message → List Part
parts_in (Welcome g) = parts_of g
parts_in (Gossip g) = parts_of g
parts_in other = []

-- a ballot, a shard and a number
abbrev pub placed : BallotModel → ℕ → ℕ → List ℕ
placed b s n = ballot b ++ (shard s ++ eight_bytes n)

-- what an entity is called, and what is for it
abbrev pub payload : List ℕ → ℕ → List ℕ
payload name bits = entity name ++ eight_bytes bits

-- what is spelled after the receiver
abbrev pub body : Message → List ℕ
body Join = []
body (Welcome g) = parts (parts_of g)
body (Gossip g) = parts (parts_of g)
body Heartbeat = []
body HeartbeatReply = []
body ExitingConfirmed = []
body (Ask b) = ballot b
body (Granted b v rs) = ballot b ++ (version v ++ reports rs)
body (Busy b c) = ballot b ++ ballot c
body (Old b c) = ballot b ++ ballot c
body (HandOverToMe b) = ballot b
body (HandOverDone b v) = ballot b ++ version v
body (Release b v) = ballot b ++ version v
body (GetHome b s) = ballot b ++ shard s
body (Home b s u) = ballot b ++ (shard s ++ process u)
body (HostShard b s n) = placed b s n
body (ShardStarted b s n) = placed b s n
body (BeginHandOff b s n) = placed b s n
body (BeginHandOffAck b s n) = placed b s n
body (HandOff b s n) = placed b s n
body (ShardStopped b s n) = placed b s n
body (Forward name bits) = payload name bits
body (Leave u) = process u
body (Down u) = process u
body (Offer name bits) = payload name bits

-- the receiver as a process: its uid is 0 where any process at the address is meant
abbrev pub receiver : Envelope → UniqueModel
receiver e = record { address = e.to; uid = e.uid }

-- in a version of the format
abbrev pub datagram_in : ℕ → Envelope → List ℕ
datagram_in version e = header (version, kind_number e.message) ++ (process e.from ++ (process (receiver e) ++ body e.message))

-- and in the version that is written
abbrev pub datagram : Envelope → List ℕ
datagram e = datagram_in format e

-- a process, and what is known of it
abbrev pub Process : Type 0
Process = UniqueModel × Standing

-- a gossip that can be sent: its processes are in their ranges
pub record IsSendable (g : GossipState) : Type 0 where
  pub gossip : IsGossip g
  pub uniques : (who : UniqueModel) → IsTrue (is_known g.view.standings who) → IsUnique who

-- each field of a body is in its range, in a version of the format; a payload may be any number of 64 bits
abbrev pub IsBodyIn : ℕ → Message → Type 0
IsBodyIn version Join = ⊤
IsBodyIn version (Welcome g) = IsSendable g
IsBodyIn version (Gossip g) = IsSendable g
IsBodyIn version Heartbeat = ⊤
IsBodyIn version HeartbeatReply = ⊤
IsBodyIn version ExitingConfirmed = ⊤
IsBodyIn version (Ask b) = IsBallot b
IsBodyIn version (Granted b v rs) = IsBallot b × (IsShort v × AreReports rs)
IsBodyIn version (Busy b c) = IsBallot b × IsBallot c
IsBodyIn version (Old b c) = IsBallot b × IsBallot c
IsBodyIn version (HandOverToMe b) = IsBallot b
IsBodyIn version (HandOverDone b v) = IsBallot b × IsShort v
IsBodyIn version (Release b v) = IsBallot b × IsShort v
IsBodyIn version (GetHome b s) = IsBallot b × IsShard s
IsBodyIn version (Home b s u) = IsBallot b × (IsShard s × IsUnique u)
IsBodyIn version (HostShard b s n) = IsBallot b × (IsShard s × IsNumber n)
IsBodyIn version (ShardStarted b s n) = IsBallot b × (IsShard s × IsNumber n)
IsBodyIn version (BeginHandOff b s n) = IsBallot b × (IsShard s × IsNumber n)
IsBodyIn version (BeginHandOffAck b s n) = IsBallot b × (IsShard s × IsNumber n)
IsBodyIn version (HandOff b s n) = IsBallot b × (IsShard s × IsNumber n)
IsBodyIn version (ShardStopped b s n) = IsBallot b × (IsShard s × IsNumber n)
IsBodyIn version (Forward name bits) = IsEntityIn version name × (bits < 2 ^ 64)
IsBodyIn version (Leave u) = IsUnique u
IsBodyIn version (Down u) = IsUnique u
IsBodyIn version (Offer name bits) = IsEntityIn version name × (bits < 2 ^ 64)

-- the uid of a receiver is 0 exactly where the message is for any process at its address
abbrev pub IsReceiverUid : Bool → ℕ → Type 0
IsReceiverUid true uid = uid ≡ 0
IsReceiverUid false uid = (1 ≤ uid) × (uid < 2 ^ 63)

-- and in the version that is written
abbrev pub IsBody : Message → Type 0
IsBody m = IsBodyIn format m

-- an envelope that has a spelling in a version of the format
pub record IsValidIn (version : ℕ) (e : Envelope) : Type 0 where
  pub from : IsUnique e.from
  pub to : IsAddress e.to
  pub uid : IsReceiverUid (is_for_anybody e.message) e.uid
  pub body : IsBodyIn version e.message

-- and in the version that is written
abbrev pub IsValid : Envelope → Type 0
IsValid e = IsValidIn format e

-- a version of the format, and an envelope that has a spelling in it
abbrev pub Versioned : Type 0
Versioned = ℕ × Envelope

abbrev pub IsSpelled : Versioned → Type 0
IsSpelled x = IsVersionOfFormat x.0 × IsValidIn x.0 x.1

abbrev pub spelled : Versioned → List ℕ
spelled x = datagram_in x.0 x.1

-- the bytes spell the envelope in this version of the format
pub record SpellsIn (version : ℕ) (bytes : List ℕ) (e : Envelope) : Type 0 where
  pub of_format : IsVersionOfFormat version
  pub is : bytes ≡ datagram_in version e
  pub valid : IsValidIn version e

-- the bytes spell the envelope, in one of the versions
abbrev pub Spells : List ℕ → Envelope → Type 0
Spells bytes e = (version : ℕ) × SpellsIn version bytes e
