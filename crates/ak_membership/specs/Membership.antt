-- What a process knows of its cluster, and what it makes of what it is asked and of gossip (Akka's Cluster Specification,
-- "Membership Lifecycle", "Joining" and "Leaving"; who is refused, and in which order, is this project's choice).
use Rattle.std.specs.Prelude.{ℕ, ◌+◌, Bool, true, false, ◌&&◌, ◌||◌, not, nat_le, nat_lt, List, [], ◌∷◌, Some, None, Result, Ok, Err, if◌then◌else◌}
use Rattle.std.specs.List.{list_any}
use Rattle.std.specs.Ordering.{is_eq}
use Rattle.std.specs.FinMap as map
use Rattle.ak_address.specs.Unique.{AddressModel, UniqueModel, address_cmp}
use Rattle.ak_address.specs.Uniques.{no_one, has, with_one}
use Rattle.ak_clock.specs.declared.version.TheConstants.{BOUND}
use Rattle.ak_clock.specs.Version.{count}
use Rattle.ak_member.specs.declared.effect.Effect.{Effect}
use Rattle.ak_member.specs.declared.effect.Effect.TheVariants.{Joined, Rise}
use Rattle.ak_member.specs.declared.status.Status.TheVariants.{Leaving, Down}
use Rattle.ak_member.specs.Standing.{Standings, members_of, is_down, is_up, is_member_with}
use Rattle.ak_member.specs.Standing as standing
use Rattle.ak_gossip.specs.declared.gossip.Received as received
use Rattle.ak_gossip.specs.declared.gossip.GossipFault as fault
use Rattle.ak_gossip.specs.Gossip.{GossipState, nothing_known, is_known, updated, receive}
use Rattle.ak_settings.specs.Settings.{SettingsModel, is_listed}
use Rattle.ak_downing.specs.Downing.{all_downed}
use Rattle.ak_detector.specs.Detector.{heard}
use Rattle.ak_settled.specs.Settled.{unsettled}
use Rattle.ak_membership.specs.declared.change.Change.{Change}
use Rattle.ak_membership.specs.declared.change.Reply.{Reply}
use Rattle.ak_membership.specs.declared.change.Reply.TheVariants.{Nothing, Welcome, Gossip}
use Rattle.ak_membership.specs.declared.change.MemberFault.{MemberFault}
use Rattle.ak_membership.specs.declared.change.MemberFault.TheVariants.{NotUp, UnknownMember, NotMember, Unlisted, ForeignCount, TooManyUniques}
use Rattle.ak_membership.specs.declared.state.MembershipState.{MembershipState}
use Rattle.ak_sight.specs.Sight.{has_moved}

-- a process starts, and knows nothing
abbrev pub started : UniqueModel → SettingsModel → MembershipState
started me settings =
    record {
      me = me;
      settings = settings;
      gossip = nothing_known;
      shown = map.empty;
      founder = false;
      target = None;
      ticks = 0;
      stable = 0;
      weak = 0;
      moved = false;
      detector = map.empty;
      confirmed = no_one;
      settled = unsettled;
    }

-- a node is a member where it is one of its own view
abbrev pub is_member : MembershipState → Bool
is_member m = standing.is_member m.gossip.view.standings m.me

-- a node that its view shows as Down or as a tombstone is gone; one that its view does not know is not
abbrev pub is_gone : MembershipState → Bool
is_gone m = standing.is_gone (map.get m.gossip.view.standings m.me)

-- what a rule makes of what is known, and the change that it tells
abbrev pub Outcome : Type 0
Outcome = MembershipState × Change

abbrev pub no_change : Change
no_change = record { number = None; effects = []; reply = Nothing }

abbrev pub unchanged : MembershipState → Outcome
unchanged m = (m, no_change)

abbrev pub replying : Reply → Outcome → Outcome
replying reply o = (o.0, record o.1 { reply = reply })

-- an update has a number: none above the bound is given
abbrev pub may_count : MembershipState → Bool
may_count m = nat_lt (count m.gossip.version m.me) BOUND

-- this is known from now on; that members are shown otherwise is kept until the closing
abbrev pub knowing : GossipState → MembershipState → MembershipState
knowing g m = record m { gossip = g; moved = m.moved || has_moved m.gossip.view g.view }

-- the node makes its next update, by these effects
abbrev pub made : List Effect → MembershipState → Outcome
made effects m = (
  knowing (updated m.me effects m.gossip) m,
  record { number = Some (count m.gossip.version m.me + 1); effects = effects; reply = Nothing },
)

-- the same, where a number is left for it
abbrev pub update : List Effect → MembershipState → Outcome
update effects m = if may_count m then made effects m else unchanged m

-- the same, where there are effects
abbrev pub update_any : List Effect → MembershipState → Outcome
update_any [] m = unchanged m
update_any (effect ∷ effects) m = update (effect ∷ effects) m

-- Founding: the node becomes the first member. (A node that was removed learns so from its view; it does nothing.)
abbrev pub found : MembershipState → Outcome
found m = if is_known m.gossip.view.standings m.me then unchanged m else update (Joined m.me ∷ []) (record m { founder = true })

-- a node that is no member keeps the address through which it asks to join
abbrev pub join : AddressModel → MembershipState → MembershipState
join target m = if is_member m then m else record m { target = Some target }

-- the node is asked that a member leaves: one that is Up does
abbrev pub leave : UniqueModel → MembershipState → Result Outcome MemberFault
leave who m =
    if not (is_member m) then Err NotMember
    else (if not (standing.is_member m.gossip.view.standings who) then Err UnknownMember
    else (if not (is_member_with is_up m.gossip.view.standings who) then Err NotUp
    else Ok (update (Rise who Leaving 0 ∷ []) m)))

-- the node is asked to down a member: one that is Down stays so
abbrev pub down : UniqueModel → MembershipState → Result Outcome MemberFault
down who m =
    if not (is_member m) then Err NotMember
    else (if not (standing.is_member m.gossip.view.standings who) then Err UnknownMember
    else (if is_member_with is_down m.gossip.view.standings who then Ok (unchanged m)
    else Ok (update (Rise who Down 0 ∷ []) m)))

-- another process is at the address of this one
abbrev pub is_beside : UniqueModel → UniqueModel → Bool
is_beside who other = is_eq (address_cmp other.address who.address)

abbrev pub has_member_beside : UniqueModel → Standings → Bool
has_member_beside who standings = list_any (λ m. is_beside who m.0) (members_of standings)

-- a new process at an address shows that those before it there have stopped: they go Down
abbrev pub replaced : UniqueModel → Standings → List Effect
replaced who standings = all_downed (is_beside who) (members_of standings)

-- a view that holds this many processes, members and tombstones together, admits no further one
abbrev pub most_at_join : ℕ
most_at_join = 64

-- a process becomes a member, and is welcomed
abbrev pub admitted : UniqueModel → MembershipState → Outcome
admitted from m = if may_count m then replying Welcome (made (Joined from ∷ []) m) else unchanged m

-- a process asks to join
abbrev pub on_join : UniqueModel → MembershipState → Result Outcome MemberFault
on_join from m =
    if not (is_member m) then Err NotMember
    else (if not (is_listed m.settings.listed from.address) then Err Unlisted
    else (if standing.is_member m.gossip.view.standings from then Ok (replying Welcome (unchanged m))
    else (if is_known m.gossip.view.standings from then Ok (unchanged m)
    else (if has_member_beside from m.gossip.view.standings then Ok (update_any (replaced from m.gossip.view.standings) m)
    else (if nat_le most_at_join (map.len m.gossip.view.standings) then Err (TooManyUniques (map.len m.gossip.view.standings + 1))
    else Ok (admitted from m))))))

-- the sender of a gossip that is accepted is answered, but where both know the same and it is known that the node does
abbrev pub is_answered : Bool → received.Received → Bool
is_answered known received.TheVariants.Same = not known
is_answered known received.TheVariants.Newer = true
is_answered known received.TheVariants.Older = true
is_answered known received.TheVariants.Merged = true

abbrev pub gossip_if : Bool → Reply
gossip_if true = Gossip
gossip_if false = Nothing

-- the node knows this then; and a node that is gone answers nobody
abbrev pub hears : Bool → received.Received → MembershipState → Outcome
hears known r m = replying (gossip_if (is_answered known r && not (is_gone m))) (unchanged m)

abbrev pub on_received : GossipState → MembershipState → Result (received.Received × GossipState) fault.GossipFault → Result Outcome MemberFault
on_received incoming m (Err (fault.TheVariants.ForeignCount own theirs)) = Err (ForeignCount own theirs)
on_received incoming m (Err (fault.TheVariants.TooManyUniques union)) = Err (TooManyUniques union)
on_received incoming m (Err (fault.TheVariants.NoMemory _)) = Ok (unchanged m)
on_received incoming m (Ok r) = Ok (hears (has incoming.seen m.me) r.0 (knowing r.1 m))

-- a gossip in which the node is neither a member nor a tombstone is passed over
abbrev pub on_gossip : GossipState → MembershipState → Result Outcome MemberFault
on_gossip incoming m =
    if is_known incoming.view.standings m.me
    then on_received incoming m (receive m.me m.gossip incoming)
    else Ok (unchanged m)

-- a process is heard: where it is watched it is not silent any more
abbrev pub on_heard : UniqueModel → MembershipState → MembershipState
on_heard from m = record m { detector = heard from m.detector }

-- a member says that it stops
abbrev pub on_confirmed : UniqueModel → MembershipState → MembershipState
on_confirmed from m = if standing.is_member m.gossip.view.standings from then record m { confirmed = with_one m.confirmed from } else m
