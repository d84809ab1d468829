-- A datagram as it is read from left to right, field after field, with its first fault (this project's choice).
use Rattle.std.specs.Prelude.{◌≡◌, ℕ, ◌==◌, ◌||◌, nat_le, Bool, List, [], ◌∷◌, Result, Ok, Err, if◌then◌else◌}
use Rattle.std.specs.FinMap as map
use Rattle.std.specs.Int.{w64}
use Rattle.ak_address.specs.Unique.{UniqueModel}
use Rattle.ak_address.specs.Uniques.{no_one}
use Rattle.ak_clock.specs.declared.version.TheConstants.{BOUND}
use Rattle.ak_member.specs.Standing.{nobody}
use Rattle.ak_promise.specs.Ballot.{BallotModel}
use Rattle.ak_clock.specs.Version.{Counts}
use Rattle.ak_shard_id.specs.declared.report.Report.{Report}
use Rattle.ak_gossip.specs.declared.part.Part.{Part}
use Rattle.ak_gossip.specs.Gossip.{GossipState}
use Rattle.ak_gossip.specs.PartsWalk.{with_counts, with_standings, with_seen, with_part_rows}
use Rattle.ak_field.specs.declared.fault.WireFault.{WireFault}
use Rattle.ak_field.specs.declared.fault.WireFault.TheVariants.{Trailing, NoMemory}
use Rattle.ak_field.specs.Reading.{◌>>=◌, wide_at, Fails}
use Rattle.ak_field.specs.Fields.{header_at, number_at, shard_at, unique_at, receiver_at, ballot_at, entity_at}
use Rattle.ak_field.specs.Lists.{version_at, reports_at}
use Rattle.ak_field.specs.Parts.{parts_at}
use Rattle.ak_wire.specs.declared.envelope.Envelope.{Envelope}
use Rattle.ak_wire.specs.declared.envelope.Message.{Message}
use Rattle.ak_wire.specs.declared.envelope.Message.TheVariants.{Join, Welcome, Gossip, Heartbeat, HeartbeatReply, ExitingConfirmed, Ask, Granted, Busy, Old, HandOverToMe, HandOverDone, Release, GetHome, Home, HostShard, ShardStarted, BeginHandOff, BeginHandOffAck, HandOff, ShardStopped, Forward, Leave, Down, Offer}

-- one field, and then another
unfoldable pub pair_at : {A B : Type 0} → (List ℕ → Result (A × List ℕ) WireFault) → (List ℕ → Result (B × List ℕ) WireFault) → List ℕ → Result ((A × B) × List ℕ) WireFault
pair_at one other bytes = do
  first ← one bytes
  second ← other first.1
  Ok ((first.0, second.0), second.1)

-- what was read, made into something
unfoldable pub made_at : {A B : Type 0} → (A → B) → Result (A × List ℕ) WireFault → Result (B × List ℕ) WireFault
made_at make read = do
  field ← read
  Ok (make field.0, field.1)

-- the gossip that has these parts
abbrev pub gossip_from : List Part → GossipState
gossip_from parts =
    record {
      version = with_counts map.empty parts;
      view = record { standings = with_standings nobody parts; rows = with_part_rows parts map.empty parts };
      seen = with_seen no_one parts;
    }

unfoldable pub gossip_at : List ℕ → Result (GossipState × List ℕ) WireFault
gossip_at bytes = made_at gossip_from (parts_at bytes)

abbrev pub granted_at : List ℕ → Result ((BallotModel × (Counts × List Report)) × List ℕ) WireFault
granted_at bytes = pair_at ballot_at (pair_at version_at reports_at) bytes

abbrev pub two_ballots_at : List ℕ → Result ((BallotModel × BallotModel) × List ℕ) WireFault
two_ballots_at bytes = pair_at ballot_at ballot_at bytes

abbrev pub done_at : List ℕ → Result ((BallotModel × Counts) × List ℕ) WireFault
done_at bytes = pair_at ballot_at version_at bytes

abbrev pub get_home_at : List ℕ → Result ((BallotModel × ℕ) × List ℕ) WireFault
get_home_at bytes = pair_at ballot_at shard_at bytes

abbrev pub home_at : List ℕ → Result ((BallotModel × (ℕ × UniqueModel)) × List ℕ) WireFault
home_at bytes = pair_at ballot_at (pair_at shard_at unique_at) bytes

abbrev pub placed_at : List ℕ → Result ((BallotModel × (ℕ × ℕ)) × List ℕ) WireFault
placed_at bytes = pair_at ballot_at (pair_at shard_at (number_at 1 BOUND)) bytes

abbrev pub payload_at : ℕ → List ℕ → Result ((List ℕ × ℕ) × List ℕ) WireFault
payload_at version bytes = pair_at (entity_at version) (wide_at w64) bytes

-- the message of a kind, out of its fields
abbrev pub bare : ℕ → Message
bare kind = if kind == 1 then Join else (if kind == 4 then Heartbeat else (if kind == 5 then HeartbeatReply else ExitingConfirmed))

abbrev pub told : ℕ → GossipState → Message
told kind g = if kind == 2 then Welcome g else Gossip g

abbrev pub asking : ℕ → BallotModel → Message
asking kind b = if kind == 7 then Ask b else HandOverToMe b

abbrev pub granting : BallotModel × (Counts × List Report) → Message
granting x = Granted x.0 x.1.0 x.1.1

abbrev pub refusing : ℕ → BallotModel × BallotModel → Message
refusing kind x = if kind == 9 then Busy x.0 x.1 else Old x.0 x.1

abbrev pub ending : ℕ → BallotModel × Counts → Message
ending kind x = if kind == 12 then HandOverDone x.0 x.1 else Release x.0 x.1

abbrev pub seeking : BallotModel × ℕ → Message
seeking x = GetHome x.0 x.1

abbrev pub homing : BallotModel × (ℕ × UniqueModel) → Message
homing x = Home x.0 x.1.0 x.1.1

abbrev pub placing : ℕ → BallotModel × (ℕ × ℕ) → Message
placing kind x =
    if kind == 16 then HostShard x.0 x.1.0 x.1.1
    else (if kind == 17 then ShardStarted x.0 x.1.0 x.1.1
    else (if kind == 18 then BeginHandOff x.0 x.1.0 x.1.1
    else (if kind == 19 then BeginHandOffAck x.0 x.1.0 x.1.1
    else (if kind == 20 then HandOff x.0 x.1.0 x.1.1
    else ShardStopped x.0 x.1.0 x.1.1))))

abbrev pub carrying : ℕ → List ℕ × ℕ → Message
carrying kind x = if kind == 22 then Forward x.0 x.1 else Offer x.0 x.1

abbrev pub naming : ℕ → UniqueModel → Message
naming kind u = if kind == 23 then Leave u else Down u

-- the bodies of what is said of members and promises, of kinds 1 to 13
unfoldable pub early_body_at : ℕ → List ℕ → Result (Message × List ℕ) WireFault
early_body_at kind bytes =
    if kind == 2 || kind == 3 then made_at (told kind) (gossip_at bytes)
    else (if kind == 7 || kind == 11 then made_at (asking kind) (ballot_at bytes)
    else (if kind == 8 then made_at granting (granted_at bytes)
    else (if kind == 9 || kind == 10 then made_at (refusing kind) (two_ballots_at bytes)
    else (if kind == 12 || kind == 13 then made_at (ending kind) (done_at bytes)
    else Ok (bare kind, bytes)))))

-- and of what is said of shards, of entities and from outside, of kinds 14 to 25, in a version of the format
unfoldable pub late_body_at : ℕ → ℕ → List ℕ → Result (Message × List ℕ) WireFault
late_body_at version kind bytes =
    if kind == 14 then made_at seeking (get_home_at bytes)
    else (if kind == 15 then made_at homing (home_at bytes)
    else (if kind == 22 || kind == 25 then made_at (carrying kind) (payload_at version bytes)
    else (if kind == 23 || kind == 24 then made_at (naming kind) (unique_at bytes)
    else made_at (placing kind) (placed_at bytes))))

unfoldable pub body_at : ℕ → ℕ → List ℕ → Result (Message × List ℕ) WireFault
body_at version kind bytes = if nat_le kind 13 then early_body_at kind bytes else late_body_at version kind bytes

-- kinds of messages that are for any process at an address
abbrev pub is_kind_for_anybody : ℕ → Bool
is_kind_for_anybody kind = kind == 1 || (kind == 23 || (kind == 24 || kind == 25))

-- a datagram, with the version of its format, and the bytes after it
unfoldable pub datagram_at : List ℕ → Result ((ℕ × Envelope) × List ℕ) WireFault
datagram_at bytes = do
  header ← header_at bytes
  from ← unique_at header.1
  to ← receiver_at (is_kind_for_anybody header.0.1) from.1
  message ← body_at header.0.0 header.0.1 to.1
  Ok ((header.0.0, record { from = from.0; to = to.0.address; uid = to.0.uid; message = message.0 }), message.1)

-- nothing is left
abbrev pub ended : {X : Type 0} → X × List ℕ → Result X WireFault
ended (value, []) = Ok value
ended (value, byte ∷ rest) = Err Trailing

unfoldable pub read : List ℕ → Result Envelope WireFault
read bytes = do
  read ← datagram_at bytes
  whole ← ended read
  Ok whole.1

-- what a call answers is what reading gives, unless memory ran out
abbrev pub GivesWhole : {X : Type 0} → Result X WireFault → Result X WireFault → Type 0
GivesWhole (Ok value) read = read ≡ Ok value
GivesWhole (Err fault) read = Fails fault read

-- Where memory ran out, a datagram is begun: its header stands there, and then its sender, both without a fault. Whatever has
-- a fault there is refused without memory.
abbrev pub IsBegun : {X : Type 0} → Result X WireFault → List ℕ → Type 0
IsBegun (Err (NoMemory _)) bytes = (header : (ℕ × ℕ) × List ℕ) × (from : UniqueModel × List ℕ) × (header_at bytes ≡ Ok header) × (unique_at header.1 ≡ Ok from)
IsBegun _ bytes = Unit {0}
