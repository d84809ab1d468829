-- What a version shows is what its entries did (Akka's Cluster Specification, "Gossip": the state of a cluster converges
-- as updates are gossiped, and a vector clock says which of them a view has seen).
use Rattle.std.specs.Prelude.{◌≡◌, ℕ, ◌⊎◌, slice_get, Some, List}
use Rattle.ak_history.specs.declared.entry.Entry.{Entry}
use Rattle.ak_node.specs.declared.node.State.{State}
use Rattle.ak_wire.specs.declared.envelope.Envelope.{Envelope}
use Rattle.ak_wire.specs.declared.envelope.Message.{Message}
use Rattle.ak_wire.specs.Wire.{gossip_of}
use Rattle.ak_node.specs.Node.{known}
use Rattle.ak_gossip.specs.Gossip.{GossipState}
use Rattle.ak_history.specs.History.{IsBounded, view}
use Rattle.ak_world.specs.World.{WorldState}

-- what is known is what its version shows of a history: members with their statuses, tombstones and rows; and each entry
-- that it counts is in the history
pub record IsFold (history : List Entry) (gossip : GossipState) : Type 0 where
  pub shown : gossip.view ≡ view history gossip.version
  pub bounded : IsBounded history gossip.version

-- a message carries this
abbrev pub Carries : GossipState → Message → Type 0
Carries g m = gossip_of m ≡ Some g

-- a node of the world knows this, or a packet of it carries it
abbrev pub IsIn : GossipState → WorldState → Type 0
IsIn g w =
    ((index : ℕ) × (n : State) × (slice_get w.nodes index ≡ Some n) × (known n ≡ g))
    ⊎ ((index : ℕ) × (e : Envelope) × (slice_get w.packets index ≡ Some e) × Carries g e.message)
