-- A node of the cluster: its state, and what one event makes of it (Akka's Cluster Specification, "Membership Lifecycle";
-- the messages and their order are this project's choice). What it knows of the cluster is its membership; what it promised, and
-- how far it is with the singleton, is its singleton; what it keeps of the shards, is its sharding.
use Rattle.std.specs.Prelude.{ℕ, ◌+◌, Bool, true, false, ◌&&◌, ◌||◌, not, nat_le, ◌==◌, List, [], ◌∷◌, ◌++◌, length, Option, Some, None, is_some, option_map, Result, Ok, Err, map, if◌then◌else◌}
use Rattle.std.specs.FinMap as finmap
use Rattle.std.specs.Ordering.{is_eq}
use Rattle.ak_address.specs.Changed.{keys_of}
use Rattle.ak_address.specs.Unique.{AddressModel, UniqueModel, address_cmp, unique_cmp}
use Rattle.ak_address.specs.Uniques.{UniqueSet, in_order}
use Rattle.ak_clock.specs.Version.{Counts, merged}
use Rattle.ak_member.specs.declared.effect.Effect.{Effect}
use Rattle.ak_member.specs.declared.status.Status.{Status}
use Rattle.ak_member.specs.Standing.{member_of, members_of, tombstone_of, is_exiting, is_member_with}
use Rattle.ak_member.specs.Age.{counted_pairs}
use Rattle.ak_gossip.specs.Gossip.{GossipState}
use Rattle.ak_settings.specs.Settings.{SettingsModel, is_entity_in}
use Rattle.ak_membership.specs.declared.change.Closing.{Closing}
use Rattle.ak_membership.specs.declared.change.MemberFault.{MemberFault}
use Rattle.ak_membership.specs.declared.change.MemberFault.TheVariants as fault
use Rattle.ak_membership.specs.declared.change.Reply.{Reply}
use Rattle.ak_membership.specs.declared.change.Reply.TheVariants as reply
use Rattle.ak_membership.specs.Membership as membership
use Rattle.ak_membership.specs.Tick as ticks
use Rattle.ak_membership.specs.Closing as closing
use Rattle.ak_promise.specs.declared.promise.Answer.{Answer}
use Rattle.ak_promise.specs.declared.promise.Answer as given
use Rattle.ak_promise.specs.Ballot.{BallotModel}
use Rattle.ak_promise.specs.Promise.{PromiseModel, answer_to, asked, is_some_ballot, released_by}
use Rattle.ak_settled.specs.SettledView.{SettledView}
use Rattle.ak_settled.specs.Settled.{version_of, standings_of}
use Rattle.ak_shard_id.specs.declared.report.Report.{Report}
use Rattle.ak_singleton.specs.declared.phase.Phase.{Phase}
use Rattle.ak_singleton.specs.declared.phase.Phase as phase
use Rattle.ak_singleton.specs.declared.phase.TickRule.{TickRule}
use Rattle.ak_singleton.specs.Singleton as singleton
use Rattle.ak_region.specs.Region as region
use Rattle.ak_sharding.specs.Sharding as sharding
use Rattle.ak_sharding.specs.Sharding.{ShardingModel, Around}
use Rattle.ak_sharding.specs.Hosts as hosts
use Rattle.ak_sharding.specs.Coordinates as coordinates
use Rattle.ak_sharding.specs.Packets as packets
use Rattle.ak_singleton.specs.Singleton.{SingletonModel, only, needed_but}
use Rattle.ak_wire.specs.declared.envelope.Message.{Message}
use Rattle.ak_wire.specs.declared.envelope.Message as message
use Rattle.ak_wire.specs.declared.envelope.Envelope.{Envelope}
use Rattle.ak_wire.specs.declared.action.Action.{Action}
use Rattle.ak_wire.specs.declared.action.Action as action
use Rattle.ak_node.specs.declared.node.State.{State}
use Rattle.ak_node.specs.declared.node.NodeEvent.{NodeEvent}
use Rattle.ak_node.specs.declared.node.NodeEvent as event

-- a process starts, and knows nothing
abbrev pub started : UniqueModel → SettingsModel → State
started me settings = record { membership = membership.started me settings; singleton = singleton.unasked; sharding = sharding.new_sharding settings; runs = true; steps = 0 }

-- the process that a node is
abbrev pub me_of : State → UniqueModel
me_of n = n.membership.me

-- what a node knows: definitions and proofs ask it of a state by this word alone
abbrev pub known : State → GossipState
known n = n.membership.gossip

-- a node is a member where it is one of its own view
abbrev pub is_member : State → Bool
is_member n = membership.is_member n.membership

-- its view shows it as Down or as a tombstone
abbrev pub is_gone : State → Bool
is_gone n = membership.is_gone n.membership

-- the settled view that it noted last, and how long its tombstones are waited for
abbrev pub settled_of : State → SettledView
settled_of n = n.membership.settled.view

abbrev pub margin_of : State → ℕ
margin_of n = n.membership.settings.margin

-- what a rule makes of a state, and what it does
abbrev pub Outcome : Type 0
Outcome = State × List Action

abbrev pub nothing : State → Outcome
nothing n = (n, [])

abbrev pub refused : ℕ → State → Outcome
refused why n = (n, action.TheVariants.Refused why ∷ [])

-- one rule after another
abbrev pub and_then : (State → Outcome) → Outcome → Outcome
and_then next o = ((next o.0).0, o.1 ++ (next o.0).1)

-- a message to one process, to several in their order, and to whichever process is at an address
abbrev pub to_process : State → UniqueModel → Message → Action
to_process n to what = action.TheVariants.Send (record { from = me_of n; to = to.address; uid = to.uid; message = what })

abbrev pub to_each : State → List UniqueModel → Message → List Action
to_each n whos what = map (λ to. to_process n to what) whos

abbrev pub to_address : State → AddressModel → Message → Action
to_address n to what = action.TheVariants.Send (record { from = me_of n; to = to; uid = 0; message = what })

-- an update is told by its number and effects
abbrev pub update_by : Option ℕ → List Effect → List Action
update_by None effects = []
update_by (Some number) effects = action.TheVariants.Update number effects ∷ []

-- the node's membership did this
abbrev pub does : State → membership.Outcome → Outcome
does n o = (record n { membership = o.0 }, update_by o.1.number o.1.effects)

-- whoever asked is answered with what the node knows then
abbrev pub answer : Reply → UniqueModel → State → List Action
answer reply.Nothing to n = []
answer reply.Welcome to n = to_process n to (message.TheVariants.Welcome (known n)) ∷ []
answer reply.Gossip to n = to_process n to (message.TheVariants.Gossip (known n)) ∷ []

abbrev pub and_answers : Reply → UniqueModel → Outcome → Outcome
and_answers reply to o = (o.0, o.1 ++ answer reply to o.0)

-- the node's membership did this for who asked
abbrev pub does_for : UniqueModel → State → membership.Outcome → Outcome
does_for from n o = and_answers o.1.reply from (does n o)

-- the number of a refusal; that memory ends is none
abbrev pub number_of : MemberFault → ℕ
number_of fault.NotUp = 1
number_of fault.UnknownMember = 2
number_of fault.NotMember = 3
number_of fault.Unlisted = 4
number_of (fault.ForeignCount own theirs) = 5
number_of (fault.TooManyUniques union) = 6
number_of (fault.NoMemory _) = 0

-- what the membership answers, or that it refuses
abbrev pub unless_refused : (membership.Outcome → Outcome) → State → Result membership.Outcome MemberFault → Outcome
unless_refused next n (Ok o) = next o
unless_refused next n (Err fault) = refused (number_of fault) n

-- ---- local events
abbrev pub found : State → Outcome
found n = does n (membership.found n.membership)

-- the node asks to join, through an address
abbrev pub join : AddressModel → State → Outcome
join target n =
    if is_member n then nothing n
    else (record n { membership = membership.join target n.membership }, to_address n target message.TheVariants.Join ∷ [])

abbrev pub leave : UniqueModel → State → Outcome
leave who n = unless_refused (does n) n (membership.leave who n.membership)

abbrev pub down : UniqueModel → State → Outcome
down who n = unless_refused (does n) n (membership.down who n.membership)

abbrev pub stop : State → Outcome
stop n = nothing (record n { runs = false })

-- ---- a tick
-- a node that is no member asks its target again, where it has one
abbrev pub asks_at : Option AddressModel → State → Outcome
asks_at None n = nothing n
asks_at (Some target) n = (n, to_address n target message.TheVariants.Join ∷ [])

-- the members that count, in the order of processes
abbrev pub counted_members : State → List UniqueModel
counted_members n = map (λ (pair : UniqueModel × ℕ). pair.0) (counted_pairs (members_of (known n).view.standings))

-- ---- the shards
-- what the rules of shards read of the node
abbrev pub around : State → Around
around n = record { me = me_of n; settings = n.membership.settings; settled = settled_of n; members = (known n).view.standings; singleton = n.singleton }

-- this is kept of the shards from now on
abbrev pub sharing : ShardingModel → State → State
sharing s n = record n { sharding = s }

-- the node's part of shards did this
abbrev pub shards_do : (Around → ShardingModel → sharding.Outcome) → State → Outcome
shards_do rule n = (sharing (rule (around n) n.sharding).0 n, (rule (around n) n.sharding).1)

-- a payload is offered for an entity, to a member or not
abbrev pub offer : List ℕ → ℕ → State → Outcome
offer entity payload n = shards_do (λ a s. hosts.on_offer a entity payload s) n

-- a message of shards, heard by members alone
abbrev pub on_shards : UniqueModel → Message → State → Outcome
on_shards from what n = if is_member n then shards_do (λ a s. packets.on_shard_message a from what s) n else nothing n

-- ---- promises and the singleton
-- this is kept of the singleton from now on
abbrev pub keeping : SingletonModel → State → State
keeping s n = record n { singleton = s }

-- this is promised from now on
abbrev pub promising : PromiseModel → State → State
promising p n = keeping (record n.singleton { promise = p }) n

-- a message about a ballot, where there is one: to one process, to its own process, and to several
abbrev pub told_of : Option BallotModel → (BallotModel → Message) → UniqueModel → State → List Action
told_of None what to n = []
told_of (Some b) what to n = to_process n to (what b) ∷ []

abbrev pub told_its_own : Option BallotModel → State → List Action
told_its_own None n = []
told_its_own (Some b) n = to_process n b.unique (message.TheVariants.HandOverToMe b) ∷ []

abbrev pub told_to_each : Option BallotModel → (BallotModel → Message) → UniqueSet → State → List Action
told_to_each None what to n = []
told_to_each (Some b) what to n = to_each n (in_order to) (what b)

-- that the last ballot is released, with what is settled
abbrev pub releases : UniqueSet → State → List Action
releases to n = told_to_each n.singleton.promise.last (λ b. message.TheVariants.Release b (version_of (settled_of n))) to n

-- whom the node needs, but itself
abbrev pub needed_others : State → UniqueSet
needed_others n = needed_but (margin_of n) (settled_of n) (only (me_of n))

abbrev pub rule_on : Status → State → TickRule
rule_on status n = singleton.tick_rule (me_of n) (settled_of n) status (margin_of n) n.singleton

-- its part of a tick, by what that does: the messages name the live ballot after it, and the last one
abbrev pub does_rule : TickRule → State → Outcome
does_rule r n =
    let steps = singleton.steps_of r (me_of n) (settled_of n) (margin_of n) n.singleton in
    let after : State = keeping (singleton.after_rule r (me_of n) (settled_of n) n.singleton) (sharing (coordinates.tabled_by r (me_of n) n.sharding) n) in
    (after, told_its_own steps.hand_over_to after ++ releases steps.release after ++ told_to_each after.singleton.live message.TheVariants.Ask steps.ask after)

abbrev pub asks_as : Option Status → State → Outcome
asks_as None n = nothing n
asks_as (Some status) n = does_rule (rule_on status n) n

-- its status in its own view
abbrev pub status_of : State → Option Status
status_of n = option_map (λ (member : Status × ℕ). member.0) (member_of (finmap.get (known n).view.standings (me_of n)))

-- the end of its phase: of an activity its term is told, and of an asking or an activity the release
abbrev pub told_end : Option ℕ → List Action
told_end None = []
told_end (Some term) = action.TheVariants.Ended term ∷ []

abbrev pub let_go : Phase → State → List Action
let_go phase.TheVariants.Younger n = []
let_go phase.TheVariants.Asking n = releases (needed_others n) n
let_go phase.TheVariants.Active n = releases (needed_others n) n
let_go phase.TheVariants.Ended n = []

abbrev pub ends_phase : State → Outcome
ends_phase n = (
  keeping (singleton.ended (settled_of n) n.singleton) (sharing (coordinates.ended_table n.singleton.phase n.sharding) n),
  told_end (singleton.active_term n.singleton.phase n.singleton.live) ++ let_go n.singleton.phase n,
)

-- a candidate that each needed node has granted becomes active
abbrev pub told_active : Option BallotModel → List Action
told_active None = []
told_active (Some b) = action.TheVariants.Active b.term ∷ []

abbrev pub becomes_active : Bool → State → Outcome
becomes_active b n = (keeping (singleton.after_activation b n.singleton) n, if b then told_active n.singleton.live else [])

abbrev pub activates : State → Outcome
activates n = becomes_active (n.runs && singleton.may_activate (me_of n) (settled_of n) (margin_of n) n.singleton) n

-- the ballot with which a node that runs is active
abbrev pub active_in : Phase → Option BallotModel → Option BallotModel
active_in phase.TheVariants.Younger live = None
active_in phase.TheVariants.Asking live = None
active_in phase.TheVariants.Active live = live
active_in phase.TheVariants.Ended live = None

abbrev pub active : State → Option BallotModel
active n = if n.runs then active_in n.singleton.phase n.singleton.live else None

-- what the node reports of its shards
abbrev pub reports_of : State → List Report
reports_of n = region.reports n.sharding.region

-- the floor that a grant carries, which has to fit into a packet
abbrev pub floor_of : State → Counts
floor_of n = merged n.singleton.promise.floor (version_of (settled_of n))

abbrev pub most_in_version : ℕ
most_in_version = 128

abbrev pub fits_packet : Counts → Bool
fits_packet v = nat_le (finmap.len v) most_in_version

abbrev pub is_grantable : State → Bool
is_grantable n = fits_packet (floor_of n)

-- the answer to who asks for a ballot
abbrev pub answered : Answer → UniqueModel → BallotModel → State → List Action
answered given.TheVariants.Granted to b n = to_process n to (message.TheVariants.Granted b (floor_of n) (reports_of n)) ∷ []
answered given.TheVariants.Old to b n = told_of n.singleton.promise.last (λ last. message.TheVariants.Old b last) to n
answered given.TheVariants.Busy to b n = told_of n.singleton.promise.last (λ last. message.TheVariants.Busy b last) to n

abbrev pub is_over_here : State → Bool
is_over_here n = singleton.is_holder_finished (margin_of n) (settled_of n) n.singleton.promise.last

abbrev pub answers_ask : UniqueModel → BallotModel → State → Outcome
answers_ask from b n = (promising (asked n.singleton.promise b (is_over_here n)) n, answered (answer_to n.singleton.promise b (is_over_here n)) from b n)

-- a ballot is asked for by its own process
abbrev pub is_asked : UniqueModel → BallotModel → State → Bool
is_asked from b n = is_member n && is_eq (unique_cmp b.unique from) && is_grantable n

abbrev pub on_ask : UniqueModel → BallotModel → State → Outcome
on_ask from b n = if is_asked from b n then answers_ask from b n else nothing n

-- a grant counts only of who is no tombstone of the settled view: one that was removed cannot help, and what it reports may be old
abbrev pub is_buried : State → UniqueModel → Bool
is_buried n who = is_some (tombstone_of (finmap.get (standings_of (settled_of n)) who))

-- a member takes it, where each report is of one of the shards
abbrev pub takes_grant : UniqueModel → List Report → State → Bool
takes_grant from told n = is_member n && (not (is_buried n from) && coordinates.are_of_shards (length n.sharding.region.slots) told)

abbrev pub takes : UniqueModel → BallotModel → Counts → List Report → State → State
takes from b floor told n =
    let first = singleton.is_first_grant from b n.singleton in
    keeping (singleton.after_granted first from floor n.singleton) (sharing (coordinates.learns_if first (around n) from told n.sharding) n)

abbrev pub on_granted : UniqueModel → BallotModel → Counts → List Report → State → Outcome
on_granted from b floor told n = if takes_grant from told n then nothing (takes from b floor told n) else nothing n

-- the process of the ballot that binds is asked to hand over
abbrev pub on_busy : BallotModel → BallotModel → State → Outcome
on_busy b held n = if is_member n && is_some_ballot n.singleton.live b then (n, told_its_own (Some held) n) else nothing n

abbrev pub on_old : BallotModel → BallotModel → State → Outcome
on_old b last n =
    let outdone = singleton.is_outdone b last n.singleton in
    if is_member n then nothing (keeping (singleton.after_old outdone b last n.singleton) (sharing (coordinates.begins_if outdone (me_of n) n.sharding) n)) else nothing n

-- an own ballot that is not live has been handed over
abbrev pub has_handed_over : BallotModel → State → Bool
has_handed_over b n = is_eq (unique_cmp b.unique (me_of n)) && not (is_some_ballot n.singleton.live b)

abbrev pub on_hand_over : UniqueModel → BallotModel → State → Outcome
on_hand_over from b n =
    if is_member n && has_handed_over b n then (n, to_process n from (message.TheVariants.HandOverDone b (version_of (settled_of n))) ∷ []) else nothing n

-- a release, of which whoever heard that the hand-over was done tells those that it needs
abbrev pub on_release : BallotModel → Counts → State → Outcome
on_release b floor n = if is_member n then nothing (promising (released_by n.singleton.promise b floor) n) else nothing n

abbrev pub on_done : BallotModel → Counts → State → Outcome
on_done b floor n =
    if is_member n
    then (promising (released_by n.singleton.promise b floor) n, to_each n (in_order (needed_others n)) (message.TheVariants.Release b floor))
    else nothing n

-- ---- the rest of a tick
abbrev pub is_empty : {X : Type 0} → List X → Bool
is_empty [] = true
is_empty (x ∷ xs) = false

-- a node that exits tells those that count that it stops, and stops
abbrev pub exits : State → Outcome
exits n = (record n { runs = false }, to_each n (counted_members n) message.TheVariants.ExitingConfirmed)

-- what is known is told to one member, where there is one to tell it to
abbrev pub gossips_to : Option UniqueModel → State → Outcome
gossips_to None n = nothing n
gossips_to (Some to) n = (n, to_process n to (message.TheVariants.Gossip (known n)) ∷ [])

-- what is known is told to whom a word chooses
abbrev pub gossips : ℕ → State → Outcome
gossips word n = gossips_to (ticks.gossip_peer word n.membership) n

-- its part for the singleton, as the coordinator, and for whom messages wait; and then what is known is told to somebody
abbrev pub rest : ℕ → State → Outcome
rest word n = and_then (gossips word) (and_then (shards_do hosts.asks_homes) (and_then (shards_do coordinates.coordinates) (asks_as (status_of n) n)))

-- a node that exits may leave where it hosts no shard, or where nobody counts who could host one
abbrev pub may_leave : State → Bool
may_leave n = not (region.hosts_any n.sharding.region) || is_empty (counted_members n)

abbrev pub leaves : ℕ → State → Outcome
leaves word n = if may_leave n then exits n else rest word n

-- what follows the update of a tick: nothing where the node is Down now; one that is Exiting ends its phase, and leaves where it may; the
-- others, and one that may not leave yet, do the rest
abbrev pub goes_on : ℕ → State → Outcome
goes_on word n =
    if is_gone n then nothing n
    else (if is_member_with is_exiting (known n).view.standings (me_of n) then and_then (leaves word) (ends_phase n)
    else rest word n)

-- the tombstones of the settled view that have waited for as long as the margin now
abbrev pub ends : State → List Action
ends n = map action.TheVariants.MarginEnd n.membership.settled.just_ended

-- a heartbeat to each watched member
abbrev pub beats : State → List Action
beats n = to_each n (in_order (keys_of n.membership.detector)) message.TheVariants.Heartbeat

-- the node's membership ticked
abbrev pub ticked : State → membership.Outcome → Outcome
ticked n o =
    let after : State = record n { membership = o.0 } in
    (after, ends after ++ beats after ++ update_by o.1.number o.1.effects)

-- one tick
abbrev pub tick : ℕ → State → Outcome
tick word n =
    if is_member n then and_then (goes_on word) (ticked n (ticks.tick n.membership))
    else asks_at n.membership.target n

-- ---- packets
abbrev pub on_join : UniqueModel → State → Outcome
on_join from n = unless_refused (does_for from n) n (membership.on_join from n.membership)

abbrev pub on_gossip : UniqueModel → GossipState → State → Outcome
on_gossip from incoming n = unless_refused (does_for from n) n (membership.on_gossip incoming n.membership)

-- a member answers a heartbeat, and hears the answer to its own
abbrev pub on_heartbeat : UniqueModel → State → Outcome
on_heartbeat from n = if is_member n then (n, to_process n from message.TheVariants.HeartbeatReply ∷ []) else nothing n

abbrev pub on_heard : UniqueModel → State → Outcome
on_heard from n = if is_member n then nothing (record n { membership = membership.on_heard from n.membership }) else nothing n

-- a member that says that it stops; heard by members alone
abbrev pub on_confirmed : UniqueModel → State → Outcome
on_confirmed from n = if is_member n then nothing (record n { membership = membership.on_confirmed from n.membership }) else nothing n

-- what is for a text that is no entity in the settings is passed over
abbrev pub is_entity_at : List ℕ → State → Bool
is_entity_at entity n = is_entity_in n.membership.settings entity

abbrev pub of_entity : List ℕ → (State → Outcome) → State → Outcome
of_entity entity rule n = if is_entity_at entity n then rule n else nothing n

-- a leave, a down and an offer by message are those of the local events, from whomever they come
abbrev pub on_message : UniqueModel → Message → State → Outcome
on_message from message.TheVariants.Join n = on_join from n
on_message from (message.TheVariants.Welcome g) n = on_gossip from g n
on_message from (message.TheVariants.Gossip g) n = on_gossip from g n
on_message from message.TheVariants.Heartbeat n = on_heartbeat from n
on_message from message.TheVariants.HeartbeatReply n = on_heard from n
on_message from message.TheVariants.ExitingConfirmed n = on_confirmed from n
on_message from (message.TheVariants.Ask b) n = on_ask from b n
on_message from (message.TheVariants.Granted b floor reports) n = on_granted from b floor reports n
on_message from (message.TheVariants.Busy b held) n = on_busy b held n
on_message from (message.TheVariants.Old b last) n = on_old b last n
on_message from (message.TheVariants.HandOverToMe b) n = on_hand_over from b n
on_message from (message.TheVariants.HandOverDone b floor) n = on_done b floor n
on_message from (message.TheVariants.Release b floor) n = on_release b floor n
on_message from (message.TheVariants.GetHome b shard) n = on_shards from (message.TheVariants.GetHome b shard) n
on_message from (message.TheVariants.Home b shard owner) n = on_shards from (message.TheVariants.Home b shard owner) n
on_message from (message.TheVariants.HostShard b shard number) n = on_shards from (message.TheVariants.HostShard b shard number) n
on_message from (message.TheVariants.ShardStarted b shard number) n = on_shards from (message.TheVariants.ShardStarted b shard number) n
on_message from (message.TheVariants.BeginHandOff b shard number) n = on_shards from (message.TheVariants.BeginHandOff b shard number) n
on_message from (message.TheVariants.BeginHandOffAck b shard number) n = on_shards from (message.TheVariants.BeginHandOffAck b shard number) n
on_message from (message.TheVariants.HandOff b shard number) n = on_shards from (message.TheVariants.HandOff b shard number) n
on_message from (message.TheVariants.ShardStopped b shard number) n = on_shards from (message.TheVariants.ShardStopped b shard number) n
on_message from (message.TheVariants.Forward entity payload) n = of_entity entity (on_shards from (message.TheVariants.Forward entity payload)) n
on_message from (message.TheVariants.Leave who) n = leave who n
on_message from (message.TheVariants.Down who) n = down who n
on_message from (message.TheVariants.Offer entity payload) n = of_entity entity (offer entity payload) n

abbrev pub rule : NodeEvent → State → Outcome
rule event.TheVariants.Found n = found n
rule (event.TheVariants.Join target) n = join target n
rule (event.TheVariants.Tick word) n = tick word n
rule (event.TheVariants.Packet e) n = on_message e.from e.message n
rule (event.TheVariants.Leave who) n = leave who n
rule (event.TheVariants.Down who) n = down who n
rule (event.TheVariants.Offer entity payload) n = offer entity payload n
rule event.TheVariants.Stop n = stop n

-- ---- the closing after a rule: the view, and then that the node stops, or that its view is settled
abbrev pub if_so : Bool → Action → List Action
if_so true a = a ∷ []
if_so false a = []

abbrev pub due : Closing → List Action
due c = if_so c.viewed action.TheVariants.View ++ if_so c.stopped action.TheVariants.Stopped ++ if_so c.settled action.TheVariants.Settled

abbrev pub closes : State → Outcome
closes n =
    let c = closing.close (not n.runs) n.membership in
    (record n { membership = c.0; runs = not c.1.stopped }, due c.1)

-- a node that goes on forgets homes that are no members
abbrev pub forgets : State → State
forgets n = sharing (if n.runs then (hosts.forgets (around n) n.sharding).0 else n.sharding) n

-- and last, where the node goes on, it forgets homes, and may become active
abbrev pub concludes : State → Outcome
concludes n = and_then activates (forgets (closes n).0, (closes n).1)

-- a packet is for this process, or for whichever is at its address
abbrev pub is_for : UniqueModel → Envelope → Bool
is_for me e = is_eq (address_cmp e.to me.address) && (e.uid == 0 || e.uid == me.uid)

-- a packet for another process is dead
abbrev pub is_dead : UniqueModel → NodeEvent → Bool
is_dead me event.TheVariants.Found = false
is_dead me (event.TheVariants.Join target) = false
is_dead me (event.TheVariants.Tick word) = false
is_dead me (event.TheVariants.Packet e) = not (is_for me e)
is_dead me (event.TheVariants.Leave who) = false
is_dead me (event.TheVariants.Down who) = false
is_dead me (event.TheVariants.Offer entity payload) = false
is_dead me event.TheVariants.Stop = false

-- the step of a running node
abbrev pub running_step : NodeEvent → State → Outcome
running_step e n = if is_dead (me_of n) e then (n, action.TheVariants.Dead ∷ []) else and_then concludes (rule e n)

-- one event given to a node; one that has stopped does nothing
abbrev pub step : NodeEvent → State → Outcome
step e n = if n.runs then running_step e (record n { steps = n.steps + 1 }) else nothing n
