-- Words of the contracts of a membership's calls.
use Rattle.std.specs.declared.alloc.AllocError.{AllocError}
use Rattle.std.specs.Prelude.{◌≡◌, ◌≢◌, ◌⊎◌, Bool, true, false, not, [], is_some, Result, Ok, Err, ⊤, IsTrue}
use Rattle.std.specs.FinMap as map
use Rattle.ak_address.specs.Changed.{keys_of}
use Rattle.ak_address.specs.Unique.{UniqueModel}
use Rattle.ak_address.specs.Uniques.{no_one, has}
use Rattle.ak_clock.specs.Version.{Covers}
use Rattle.ak_detector.specs.Detector.{watch_ring, silent}
use Rattle.ak_gossip.specs.declared.gossip.Received.{Received}
use Rattle.ak_gossip.specs.declared.gossip.Received.TheVariants as received
use Rattle.ak_gossip.specs.declared.gossip.GossipFault.{GossipFault}
use Rattle.ak_gossip.specs.declared.gossip.GossipFault.TheVariants as gossip
use Rattle.ak_gossip.specs.Gossip.{GossipState, is_known, receive}
use Rattle.ak_member.specs.Standing.{is_member, is_down, is_member_with}
use Rattle.ak_settled.specs.Settled.{version_of}
use Rattle.ak_membership.specs.declared.change.Change.{Change}
use Rattle.ak_membership.specs.declared.change.Closing.{Closing}
use Rattle.ak_membership.specs.declared.change.MemberFault.{MemberFault}
use Rattle.ak_membership.specs.declared.change.MemberFault.TheVariants.{NotUp, UnknownMember, NotMember, Unlisted, ForeignCount, TooManyUniques, NoMemory}
use Rattle.ak_membership.specs.declared.state.MembershipState.{MembershipState}
use Rattle.ak_membership.specs.Membership.{Outcome, started, knowing, is_gone, may_count, has_member_beside, replaced}
use Rattle.ak_membership.specs.Closing.{is_noted, is_viewed, notes}

-- what a rule makes of what is known is this, with this change
pub record Makes (outcome : Outcome) (after : MembershipState) (change : Change) : Type 0 where
  pub state_after : after ≡ outcome.0
  pub change_told : change ≡ outcome.1

-- a node that knows anybody knows itself
abbrev pub KnowsItself : UniqueModel → GossipState → Type 0
KnowsItself me g = is_known g.view.standings me ≡ false → map.len g.view.standings ≡ 0

-- what is true of every membership: it knows itself where it knows anybody, and what it knows covers its settled view
pub record IsMembership (m : MembershipState) : Type 0 where
  pub itself : KnowsItself m.me m.gossip
  pub settled_before : Covers m.gossip.version (version_of m.settled.view)

-- Whoever is watched is a member. It is so when a process starts and after each closing; a gossip that comes in between may
-- remove a member.
abbrev pub IsWatching : MembershipState → Type 0
IsWatching m = (who : UniqueModel) → map.contains_key m.detector who ≡ true → is_member m.gossip.view.standings who ≡ true

-- A closing would find nothing due: the version of what is known was shown, it does not show the node as gone, no settled view is
-- to be noted, and whom the node watches is its ring.
pub record IsAtRest (m : MembershipState) : Type 0 where
  pub shown : m.shown ≡ m.gossip.version
  pub here : is_gone m ≡ false
  pub noted : is_noted m ≡ false
  pub ring : keys_of m.detector ≡ watch_ring m.me m.gossip.view.standings

-- a membership of which it is kept whether it is at rest
abbrev pub RestsIf : Bool → MembershipState → Type 0
RestsIf at_rest m = at_rest ≡ true → IsAtRest m

-- A gossip that was received so leaves what is known at rest: it knew no more, and if both knew the same, no settled view is to be
-- noted though more members have seen it.
abbrev pub LeavesAtRest : Received → MembershipState → Type 0
LeavesAtRest received.Same m = is_noted m ≡ false
LeavesAtRest received.Newer m = ⊥
LeavesAtRest received.Older m = ⊤
LeavesAtRest received.Merged m = ⊥

-- whatever a rule answers, it is the same process with the same settings
pub record IsSameProcess (old new : MembershipState) : Type 0 where
  pub me : new.me ≡ old.me
  pub settings : new.settings ≡ old.settings

-- out of memory is one of the answers of a call that may refuse
abbrev pub or_no_memory : Result Change AllocError → Result Change MemberFault
or_no_memory (Ok change) = Ok change
or_no_memory (Err error) = Err (NoMemory error)

-- What a call that may refuse answered and left: the rule's change; or the rule's refusal, and nothing changed. Memory runs out
-- only where the rule allows that, and then nothing changed.
abbrev pub Answers : Type 0 → Result Outcome MemberFault → MembershipState → Result Change MemberFault → MembershipState → Type 0
Answers free outcome old (Ok change) new = (o : Outcome) × (outcome ≡ Ok o) × Makes o new change
Answers free outcome old (Err NotUp) new = (outcome ≡ Err NotUp) × (new ≡ old)
Answers free outcome old (Err UnknownMember) new = (outcome ≡ Err UnknownMember) × (new ≡ old)
Answers free outcome old (Err NotMember) new = (outcome ≡ Err NotMember) × (new ≡ old)
Answers free outcome old (Err Unlisted) new = (outcome ≡ Err Unlisted) × (new ≡ old)
Answers free outcome old (Err (ForeignCount own theirs)) new = (outcome ≡ Err (ForeignCount own theirs)) × (new ≡ old)
Answers free outcome old (Err (TooManyUniques union)) new = (outcome ≡ Err (TooManyUniques union)) × (new ≡ old)
Answers free outcome old (Err (NoMemory _)) new = free × (new ≡ old)

-- a call that may refuse made no update: it was refused, or its change tells none
abbrev pub makes_none : Result Change MemberFault → Bool
makes_none (Ok change) = not (is_some change.number)
makes_none (Err fault) = true

-- What accepting a gossip answered and left: it is known then; or the refusal, and nothing changed.
abbrev pub Receives : GossipState → MembershipState → Result Received GossipFault → MembershipState → Type 0
Receives incoming old (Ok received) new = (g : GossipState) × (receive old.me old.gossip incoming ≡ Ok (received, g)) × (new ≡ knowing g old)
Receives incoming old (Err (gossip.ForeignCount own theirs)) new = (receive old.me old.gossip incoming ≡ Err (gossip.ForeignCount own theirs)) × (new ≡ old)
Receives incoming old (Err (gossip.TooManyUniques union)) new = (receive old.me old.gossip incoming ≡ Err (gossip.TooManyUniques union)) × (new ≡ old)
Receives incoming old (Err (gossip.NoMemory _)) new = new ≡ old

-- a number is left for an update
abbrev pub IsCounting : MembershipState → Type 0
IsCounting m = IsTrue (may_count m)

-- An update may be made for a process that asks to join: it is no member and no tombstone, a number is left, and where members are
-- at its address, one of them is to go Down.
abbrev pub MayAdmit : UniqueModel → MembershipState → Type 0
MayAdmit from m =
    IsCounting m × (is_known m.gossip.view.standings from ≡ false) × (IsTrue (has_member_beside from m.gossip.view.standings) → replaced from m.gossip.view.standings ≢ [])

-- a member may be downed: it is not Down, and a number is left
abbrev pub MayDown : UniqueModel → MembershipState → Type 0
MayDown who m = IsCounting m × (is_member_with is_down m.gossip.view.standings who ≡ false)

-- a process may be confirmed: it is a member, and not among the confirmed yet
abbrev pub MayConfirm : UniqueModel → MembershipState → Type 0
MayConfirm who m = IsTrue (is_member m.gossip.view.standings who) × (has m.confirmed who ≡ false)

-- the node does not know itself, neither as a member nor as a tombstone
abbrev pub IsUnknown : MembershipState → Type 0
IsUnknown m = is_known m.gossip.view.standings m.me ≡ false

-- a gossip knows the node, as a member or as a tombstone
abbrev pub IsKnownIn : GossipState → MembershipState → Type 0
IsKnownIn incoming m = IsTrue (is_known incoming.view.standings m.me)

-- the rule does not refuse
abbrev pub IsAccepted : Result Outcome MemberFault → Type 0
IsAccepted outcome = (o : Outcome) × (outcome ≡ Ok o)

-- what the closing makes of what is known is this, and this is due
pub record Closes (close : MembershipState × Closing) (after : MembershipState) (due : Closing) : Type 0 where
  pub state_after : after ≡ close.0
  pub is_due : due ≡ close.1

-- somebody is to be watched anew: whom the node watches is not its ring, and another member is there, or one that is watched and
-- silent
abbrev pub WatchesAnew : MembershipState → Type 0
WatchesAnew m =
    (keys_of m.detector ≢ watch_ring m.me m.gossip.view.standings) × ((watch_ring m.me m.gossip.view.standings ≢ no_one) ⊎ (silent m.settings.deadline m.detector ≢ no_one))

-- a closing may take memory: for a version to show, for a settled view to note, or for whom to watch anew
abbrev pub MayTake : Bool → MembershipState → Type 0
MayTake stopping m = IsTrue (is_viewed m) ⊎ IsTrue (notes stopping m) ⊎ WatchesAnew m

-- after the call it is the same process with the same settings, and knows nothing
pub record Forgets (old new : MembershipState) : Type 0 where
  pub process : IsSameProcess old new
  pub forgot : new ≡ started old.me old.settings
