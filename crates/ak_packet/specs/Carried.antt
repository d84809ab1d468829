-- What a message carries beside its kind and a gossip, field by field.
use Rattle.std.specs.Prelude.{◌≡◌, ℕ, Bool, true, false, List, Option, None, Some}
use Rattle.ak_address.specs.Unique.{UniqueModel}
use Rattle.ak_clock.specs.Version.{Counts}
use Rattle.ak_promise.specs.Ballot.{BallotModel}
use Rattle.ak_shard_id.specs.declared.report.Report.{Report}
use Rattle.ak_wire.specs.declared.envelope.Message.{Message}
use Rattle.ak_wire.specs.declared.envelope.Message.TheVariants.{Join, Heartbeat, HeartbeatReply, ExitingConfirmed, Ask, Granted, Busy, Old, HandOverToMe, HandOverDone, Release, GetHome, Home, HostShard, ShardStarted, BeginHandOff, BeginHandOffAck, HandOff, ShardStopped, Forward, Leave, Down, Offer}

-- the ballot, of two the one that asked
abbrev pub ballot_in : Message → Option BallotModel
ballot_in (Ask b) = Some b
ballot_in (Granted b v rs) = Some b
ballot_in (Busy b c) = Some b
ballot_in (Old b c) = Some b
ballot_in (HandOverToMe b) = Some b
ballot_in (HandOverDone b v) = Some b
ballot_in (Release b v) = Some b
ballot_in (GetHome b s) = Some b
ballot_in (Home b s u) = Some b
ballot_in (HostShard b s n) = Some b
ballot_in (ShardStarted b s n) = Some b
ballot_in (BeginHandOff b s n) = Some b
ballot_in (BeginHandOffAck b s n) = Some b
ballot_in (HandOff b s n) = Some b
ballot_in (ShardStopped b s n) = Some b
ballot_in other = None

-- the ballot that was promised, beside the one that asked
abbrev pub promised_in : Message → Option BallotModel
promised_in (Busy b c) = Some c
promised_in (Old b c) = Some c
promised_in other = None

abbrev pub version_in : Message → Option Counts
version_in (Granted b v rs) = Some v
version_in (HandOverDone b v) = Some v
version_in (Release b v) = Some v
version_in other = None

abbrev pub reports_in : Message → Option (List Report)
reports_in (Granted b v rs) = Some rs
reports_in other = None

abbrev pub process_in : Message → Option UniqueModel
process_in (Home b s u) = Some u
process_in (Leave u) = Some u
process_in (Down u) = Some u
process_in other = None

-- what an entity is called
abbrev pub entity_in : Message → Option (List ℕ)
entity_in (Forward name bits) = Some name
entity_in (Offer name bits) = Some name
entity_in other = None

abbrev pub shard_in : Message → Option ℕ
shard_in (GetHome b s) = Some s
shard_in (Home b s u) = Some s
shard_in (HostShard b s n) = Some s
shard_in (ShardStarted b s n) = Some s
shard_in (BeginHandOff b s n) = Some s
shard_in (BeginHandOffAck b s n) = Some s
shard_in (HandOff b s n) = Some s
shard_in (ShardStopped b s n) = Some s
shard_in other = None

-- a shard's number, or what is for an entity
abbrev pub number_in : Message → Option ℕ
number_in (HostShard b s n) = Some n
number_in (ShardStarted b s n) = Some n
number_in (BeginHandOff b s n) = Some n
number_in (BeginHandOffAck b s n) = Some n
number_in (HandOff b s n) = Some n
number_in (ShardStopped b s n) = Some n
number_in (Forward name bits) = Some bits
number_in (Offer name bits) = Some bits
number_in other = None

-- its kind is all that a message says
abbrev pub carries_nothing : Message → Bool
carries_nothing Join = true
carries_nothing Heartbeat = true
carries_nothing HeartbeatReply = true
carries_nothing ExitingConfirmed = true
carries_nothing other = false

-- two messages carry the same beside a gossip
pub record CarriesSame (m n : Message) : Type 0 where
  pub version : version_in m ≡ version_in n
  pub reports : reports_in m ≡ reports_in n
  pub ballot : ballot_in m ≡ ballot_in n
  pub promised : promised_in m ≡ promised_in n
  pub process : process_in m ≡ process_in n
  pub entity : entity_in m ≡ entity_in n
  pub shard : shard_in m ≡ shard_in n
  pub number : number_in m ≡ number_in n
