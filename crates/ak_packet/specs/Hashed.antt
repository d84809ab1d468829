-- What a hash is fed of a packet (this project's choice): who sends it to whom, its kind, and numbers of what it carries. One
-- process sends equal numbers only in equal packets, or nearly so: its counts grow, and who has seen a version grows.
use Rattle.std.specs.Prelude.{ℕ, ◌+◌, ◌-◌, ◌^◌, min, List, [], ◌∷◌, ◌++◌, fold, Option, None, Some, if◌then◌else◌}
use Rattle.std.specs.FinMap as map
use Rattle.std.specs.Hash as fed
use Rattle.ak_address.specs.Keys.{address_key, unique_key, fed_of_address, fed_of_unique}
use Rattle.ak_address.specs.Unique.{UniqueModel}
use Rattle.ak_address.specs.Uniques.{how_many}
use Rattle.ak_clock.specs.Version.{Counts}
use Rattle.ak_gossip.specs.Gossip.{GossipState}
use Rattle.ak_promise.specs.Ballot.{BallotModel}
use Rattle.ak_wire.specs.declared.envelope.Envelope.{Envelope}
use Rattle.ak_wire.specs.declared.envelope.Message.{Message}
use Rattle.ak_wire.specs.declared.envelope.Message.TheVariants.{Welcome, Gossip}
use Rattle.ak_wire.specs.Datagram.{kind_number}
use Rattle.ak_packet.specs.Carried.{carries_nothing, ballot_in, version_in, process_in, entity_in, shard_in, number_in}

-- the calls of `write`, in their order
abbrev pub Writes : Type 0
Writes = List (List ℕ)

-- one more number, up to what 64 bits hold
abbrev pub plus : ℕ → UniqueModel × ℕ → ℕ
plus sum pair = min (sum + pair.1) (2 ^ 64 - 1)

-- how many entries are counted
abbrev pub total : Counts → ℕ
total v = fold plus 0 (map.entries v)

abbrev pub total_of : Option Counts → ℕ
total_of None = 0
total_of (Some v) = total v

abbrev pub term_of : Option BallotModel → ℕ
term_of None = 0
term_of (Some b) = b.term

abbrev pub uid_of : Option UniqueModel → ℕ
uid_of None = 0
uid_of (Some u) = u.uid

abbrev pub number_of : Option ℕ → ℕ
number_of None = 0
number_of (Some n) = n

abbrev pub name_of : Option (List ℕ) → List ℕ
name_of None = []
name_of (Some name) = name

-- how many entries a gossip knows, and how many have seen it
abbrev pub hashed_gossip : GossipState → Writes
hashed_gossip g = fed.u64 (total g.version) ++ fed.u64 (how_many g.seen)

-- numbers of what another message carries
abbrev pub hashed_fields : Message → Writes
hashed_fields m =
    fed.u64 (total_of (version_in m))
    ++ (fed.u64 (term_of (ballot_in m))
    ++ (fed.u64 (uid_of (process_in m))
    ++ (fed.u64 (number_of (shard_in m))
    ++ (fed.u64 (number_of (number_in m)) ++ name_of (entity_in m) ∷ []))))

abbrev pub hashed_carried : Message → Writes
hashed_carried (Welcome g) = hashed_gossip g
hashed_carried (Gossip g) = hashed_gossip g
hashed_carried other = hashed_fields other

abbrev pub hashed_message : Message → Writes
hashed_message m = fed.u8 (kind_number m) ++ (if carries_nothing m then [] else hashed_carried m)

abbrev pub hashed : Envelope → Writes
hashed e = fed_of_unique (unique_key e.from) ++ (fed_of_address (address_key e.to) ++ (fed.u64 e.uid ++ hashed_message e.message))
