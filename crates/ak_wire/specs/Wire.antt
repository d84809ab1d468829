-- What nodes say to each other, by its names, and what of it a node's actions send.
use Rattle.std.specs.Prelude.{ℕ, Bool, true, false, List, [], ◌∷◌, Option, None, Some, codes}
use Rattle.ak_gossip.specs.Gossip.{GossipState}
use Rattle.ak_member.specs.declared.effect.Effect.{Effect}
use Rattle.ak_wire.specs.declared.envelope.Envelope.{Envelope}
use Rattle.ak_wire.specs.declared.envelope.Message.{Message}
use Rattle.ak_wire.specs.declared.envelope.Message as message
use Rattle.ak_wire.specs.declared.action.Action.{Action}
use Rattle.ak_wire.specs.declared.action.Action.TheVariants.{Send, Update, View, Settled, Active, Ended, Host, Gone, Entity, Deliver, Forward, Buffer, Drop, MarginEnd, Refused, Dead, Stopped}

-- the name of a message's kind
abbrev pub kind_text : Message → List ℕ
kind_text message.TheVariants.Join = codes "join"
kind_text (message.TheVariants.Welcome g) = codes "welcome"
kind_text (message.TheVariants.Gossip g) = codes "gossip"
kind_text message.TheVariants.Heartbeat = codes "heartbeat"
kind_text message.TheVariants.HeartbeatReply = codes "heartbeat-reply"
kind_text message.TheVariants.ExitingConfirmed = codes "exiting-confirmed"
kind_text (message.TheVariants.Ask b) = codes "ask"
kind_text (message.TheVariants.Granted b v rs) = codes "granted"
kind_text (message.TheVariants.Busy b c) = codes "busy"
kind_text (message.TheVariants.Old b c) = codes "old"
kind_text (message.TheVariants.HandOverToMe b) = codes "hand-over-to-me"
kind_text (message.TheVariants.HandOverDone b v) = codes "hand-over-done"
kind_text (message.TheVariants.Release b v) = codes "release"
kind_text (message.TheVariants.GetHome b s) = codes "get-home"
kind_text (message.TheVariants.Home b s u) = codes "home"
kind_text (message.TheVariants.HostShard b s n) = codes "host-shard"
kind_text (message.TheVariants.ShardStarted b s n) = codes "shard-started"
kind_text (message.TheVariants.BeginHandOff b s n) = codes "begin-hand-off"
kind_text (message.TheVariants.BeginHandOffAck b s n) = codes "begin-hand-off-ack"
kind_text (message.TheVariants.HandOff b s n) = codes "hand-off"
kind_text (message.TheVariants.ShardStopped b s n) = codes "shard-stopped"
kind_text (message.TheVariants.Forward e p) = codes "forward"
kind_text (message.TheVariants.Leave u) = codes "leave"
kind_text (message.TheVariants.Down u) = codes "down"
kind_text (message.TheVariants.Offer e p) = codes "offer"

-- the gossip that a message carries
abbrev pub gossip_of : Message → Option GossipState
gossip_of (message.TheVariants.Welcome g) = Some g
gossip_of (message.TheVariants.Gossip g) = Some g
gossip_of other = None

-- a message says that its sender stops
abbrev pub says_it_stops : Message → Bool
says_it_stops message.TheVariants.ExitingConfirmed = true
says_it_stops other = false

-- the packet that an action sends
abbrev pub envelope_of : Action → Option Envelope
envelope_of (Send e) = Some e
envelope_of (Update number effects) = None
envelope_of View = None
envelope_of Settled = None
envelope_of (Active term) = None
envelope_of (Ended term) = None
envelope_of (Host shard number) = None
envelope_of (Gone shard) = None
envelope_of (Entity entity) = None
envelope_of (Deliver entity payload) = None
envelope_of (Forward entity payload) = None
envelope_of (Buffer entity payload) = None
envelope_of (Drop entity payload) = None
envelope_of (MarginEnd who) = None
envelope_of (Refused why) = None
envelope_of Dead = None
envelope_of Stopped = None

-- the effects of the update that an action makes
abbrev pub effects_of : Action → Option (List Effect)
effects_of (Send e) = None
effects_of (Update number effects) = Some effects
effects_of View = None
effects_of Settled = None
effects_of (Active term) = None
effects_of (Ended term) = None
effects_of (Host shard number) = None
effects_of (Gone shard) = None
effects_of (Entity entity) = None
effects_of (Deliver entity payload) = None
effects_of (Forward entity payload) = None
effects_of (Buffer entity payload) = None
effects_of (Drop entity payload) = None
effects_of (MarginEnd who) = None
effects_of (Refused why) = None
effects_of Dead = None
effects_of Stopped = None

abbrev pub put : {X : Type 0} → Option X → List X → List X
put None xs = xs
put (Some x) xs = x ∷ xs

-- the packets that actions send, in order
abbrev pub sent : List Action → List Envelope
sent [] = []
sent (a ∷ actions) = put (envelope_of a) (sent actions)

-- the effects of the updates that they make, in order
abbrev pub updates_of : List Action → List (List Effect)
updates_of [] = []
updates_of (a ∷ actions) = put (effects_of a) (updates_of actions)
