-- What a node sends has a spelling as bytes, where what came in had one.
use Rattle.std.specs.Prelude.{◌≡◌, ◌≤◌, ◌<◌, ◌^◌, IsTrue, List, Option, None, Some, Contains, ⊤}
use Rattle.std.specs.FinMap as map
use Rattle.ak_address.specs.Unique.{AddressModel, UniqueModel, IsAddress, IsUnique}
use Rattle.ak_clock.specs.Version.{Counts, count, IsVersion}
use Rattle.ak_field.specs.Ranges.{IsEntity}
use Rattle.ak_gossip.specs.Gossip.{is_known}
use Rattle.ak_promise.specs.Ballot.{BallotModel, IsBallot}
use Rattle.ak_settings.specs.Settings.{SettingsModel, is_entity_in}
use Rattle.ak_settled.specs.Settled.{version_of, standings_of}
use Rattle.ak_singleton.specs.Singleton.{SingletonModel}
use Rattle.ak_wire.specs.declared.envelope.Envelope.{Envelope}
use Rattle.ak_wire.specs.declared.action.Action.{Action}
use Rattle.ak_wire.specs.Datagram.{IsValid}
use Rattle.ak_sharding.specs.Ranges.{AreUniques, InRange}
use Rattle.ak_wire.specs.Wire.{sent}
use Rattle.ak_node.specs.declared.node.State.{State}
use Rattle.ak_node.specs.declared.node.NodeEvent.{NodeEvent}
use Rattle.ak_node.specs.declared.node.NodeEvent as event
use Rattle.ak_node.specs.Node.{known, me_of, settled_of, most_in_version}

-- each packet that is sent is valid
abbrev pub AreValid : List Action → Type 0
AreValid actions = (p : Envelope) → Contains (sent actions) p → IsValid p

-- every process that a node knows is in its ranges
abbrev pub KnowsProcesses : State → Type 0
KnowsProcesses n = (who : UniqueModel) → IsTrue (is_known (known n).view.standings who) → IsUnique who

abbrev pub IsTarget : Option AddressModel → Type 0
IsTarget None = ⊤
IsTarget (Some address) = IsAddress address

-- a node that is a process, and joins through an address
pub record IsProcess (n : State) : Type 0 where
  pub me : IsUnique (me_of n)
  pub target : IsTarget n.membership.target

-- a version counts processes, which are in their ranges
pub record IsCounted (v : Counts) : Type 0 where
  pub version : IsVersion v
  pub uniques : (who : UniqueModel) → 1 ≤ count v who → IsUnique who

-- the ballots that are kept of the singleton are in their ranges, and so are the floor of the promise and who has granted
pub record KeepsBallots (s : SingletonModel) : Type 0 where
  pub last : (b : BallotModel) → s.promise.last ≡ Some b → IsBallot b
  pub live : (b : BallotModel) → s.live ≡ Some b → IsBallot b
  pub floor : IsCounted s.promise.floor
  pub granted : AreUniques s.granted

-- what a node has noted as settled fits into a packet, and names processes in their ranges
pub record KeepsSettled (n : State) : Type 0 where
  pub version : IsCounted (version_of (settled_of n))
  pub few : map.len (version_of (settled_of n)) ≤ most_in_version
  pub processes : (who : UniqueModel) → IsTrue (is_known (standings_of (settled_of n)) who) → IsUnique who

-- what is kept of the shards is in the ranges of packets
abbrev pub KeepsShards : State → Type 0
KeepsShards n = InRange n.sharding

-- What comes in is valid: a packet has a spelling as bytes. What else an event names is in its ranges by its types.
abbrev pub ComesValid : NodeEvent → Type 0
ComesValid (event.TheVariants.Packet p) = IsValid p
ComesValid other = ⊤

-- a text that is offered at a node is an entity in its settings
abbrev pub IsOffered : SettingsModel → NodeEvent → Type 0
IsOffered settings (event.TheVariants.Offer entity payload) = IsTrue (is_entity_in settings entity)
IsOffered settings other = ⊤

-- an event names an address to join through, brings a packet that has a spelling, or a payload for an entity
abbrev pub IsSaid : NodeEvent → Type 0
IsSaid (event.TheVariants.Join target) = IsAddress target
IsSaid (event.TheVariants.Packet p) = IsValid p
IsSaid (event.TheVariants.Offer entity payload) = IsEntity entity × (payload < 2 ^ 64)
IsSaid other = ⊤
