-- What is known, wherever it stands.
use Rattle.ak_address.specs.Uniques.{UniqueSet}
use Rattle.ak_gossip.specs.Gossip.{GossipState}
use Rattle.ak_gossip.specs.declared.known.Tables.{Tables}
use Rattle.ak_gossip.specs.declared.known.Ownership.{Ownership}
use Rattle.ak_gossip.specs.declared.known.Ownership.TheVariants.{Own, Shared}

-- what the tables say, seen by these
abbrev pub said_by : Tables → UniqueSet → GossipState
said_by tables seen = record { version = tables.version; view = record { standings = tables.members; rows = tables.rows }; seen = seen }

-- of one owner, or of several that share it
abbrev pub owned_state : Ownership → GossipState
owned_state (Own tables seen) = said_by tables seen
owned_state (Shared tables seen) = said_by tables.value seen.value
