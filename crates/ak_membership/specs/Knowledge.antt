-- What a rule does to what a node knows, as data: it keeps it, makes one update of its own, or accepts one gossip; and why a
-- node may write an effect. All that is proved of a world's nodes and packets uses of a step no more than this.
use Rattle.std.specs.Prelude.{◌≡◌, ◌⊎◌, ℕ, ◌+◌, ◌≤◌, Bool, true, false, List, [], ◌∷◌, Option, Some, None, IsTrue, Contains}
use Rattle.ak_address.specs.Unique.{UniqueModel}
use Rattle.ak_address.specs.Uniques.{has}
use Rattle.ak_clock.specs.Version.{count, relation}
use Rattle.ak_member.specs.declared.effect.Effect.{Effect}
use Rattle.ak_member.specs.declared.effect.Effect.TheVariants.{Joined, Rise, Removed, Observed}
use Rattle.ak_member.specs.declared.status.Status.{Status}
use Rattle.ak_member.specs.declared.status.Status.TheVariants.{Joining, WeaklyUp, Up, Leaving, Exiting, Down}
use Rattle.ak_member.specs.Standing as standing
use Rattle.ak_member.specs.Standing.{is_up, is_joining, is_waiting, is_member_with}
use Rattle.ak_gossip.specs.Gossip.{GossipState, is_known, updated, accepted, marked_seen}
use Rattle.ak_settled.specs.Settled.{after_tick}
use Rattle.ak_settled.specs.SettledView.{SettledModel}
use Rattle.ak_membership.specs.declared.change.Change.{Change}
use Rattle.ak_membership.specs.declared.state.MembershipState.{MembershipState}
use Rattle.ak_membership.specs.Membership.{Outcome, is_member}
use Rattle.ak_membership.specs.Tick.{has_settled, silent}

pub data Knowledge : Type 0 where
  Keeps : Knowledge
  Updates : List Effect → Knowledge
  Accepts : GossipState → Knowledge

-- what a node knows then
abbrev pub learnt : UniqueModel → Knowledge → GossipState → GossipState
learnt me Keeps g = g
learnt me (Updates effects) g = updated me effects g
learnt me (Accepts incoming) g = (marked_seen me (accepted (relation g.version incoming.version) g incoming)).1

-- the updates that it makes
abbrev pub made_by : Knowledge → List (List Effect)
made_by Keeps = []
made_by (Updates effects) = effects ∷ []
made_by (Accepts incoming) = []

-- the updates that a change tells
abbrev pub told_as : Option ℕ → List Effect → List (List Effect)
told_as None effects = []
told_as (Some number) effects = effects ∷ []

abbrev pub told : Change → List (List Effect)
told c = told_as c.number c.effects

-- what a membership was given: that it founds, who asks to join, and the gossip that comes
pub record Given : Type 0 where
  pub founds : Bool
  pub asks : Option UniqueModel
  pub brings : Option GossipState

abbrev pub nothing_given : Given
nothing_given = record { founds = false; asks = None; brings = None }

-- a process is a member of what is known
abbrev pub HasMember : MembershipState → UniqueModel → Type 0
HasMember m who = IsTrue (standing.is_member m.gossip.view.standings who)

-- the founder founds: it is Joining, and is among those that it raises
abbrev pub IsFounding : MembershipState → List Effect → Type 0
IsFounding m effects = IsTrue m.founder × IsTrue (is_member_with is_joining m.gossip.view.standings m.me) × ((number : ℕ) × Contains effects (Rise m.me Up number))

-- why a node may raise a member: to WeaklyUp one that is Joining; to Up one that waits, at the founding or in a settled view;
-- to Leaving one that is Up; to Exiting one that is Leaving, in a settled view; to Down any
abbrev pub MayRaise : MembershipState → List Effect → UniqueModel → Status → Type 0
MayRaise m effects who Joining = ⊥
MayRaise m effects who WeaklyUp = IsTrue (is_member_with is_joining m.gossip.view.standings who)
MayRaise m effects who Up = IsTrue (is_member_with is_waiting m.gossip.view.standings who) × (IsFounding m effects ⊎ IsTrue (has_settled m))
MayRaise m effects who Leaving = IsTrue (is_member_with is_up m.gossip.view.standings who)
MayRaise m effects who Exiting = IsTrue (has_settled m)
MayRaise m effects who Down = Unit {0}

-- why a node may remove a member, in a settled view: as confirmed, where it is of those that said that they stop
abbrev pub MayRemove : MembershipState → UniqueModel → Bool → Type 0
MayRemove m who true = IsTrue (has_settled m) × IsTrue (has m.confirmed who)
MayRemove m who false = IsTrue (has_settled m)

-- why a node may write an effect among others; whom it observes, it finds silent
abbrev pub IsCause : Given → MembershipState → List Effect → Effect → Type 0
IsCause given m effects (Joined who) = (IsTrue given.founds × (who ≡ m.me)) ⊎ (IsTrue (is_member m) × (given.asks ≡ Some who))
IsCause given m effects (Rise who status number) = HasMember m who × MayRaise m effects who status
IsCause given m effects (Removed who confirmed) = HasMember m who × MayRemove m who confirmed
IsCause given m effects (Observed subjects) = subjects ≡ silent m

-- A node that is known to itself, or joins itself, makes an update whose effects have causes. It accepts a gossip that knows
-- the node and counts no more of the node's updates than the node does.
abbrev pub IsLawful : Given → MembershipState → Knowledge → Type 0
IsLawful given m Keeps = Unit {0}
IsLawful given m (Updates effects) = (IsTrue (is_known m.gossip.view.standings m.me) ⊎ (effects ≡ Joined m.me ∷ [])) × ((x : Effect) → Contains effects x → IsCause given m effects x)
IsLawful given m (Accepts incoming) = (given.brings ≡ Some incoming) × IsTrue (is_known incoming.view.standings m.me) × (count incoming.version m.me ≤ count m.gossip.version m.me)

-- the settled view is as it was, or its tombstones wait for a tick more
abbrev pub WaitsOn : ℕ → SettledModel → SettledModel → Type 0
WaitsOn margin old new = (new ≡ old) ⊎ (new ≡ after_tick margin old)

-- What a rule did: the change of what is known, which is lawful; the update that it tells, which has the next number of the
-- node's own; and what it leaves as it was.
pub record Learns (given : Given) (m : MembershipState) (o : Outcome) : Type 0 where
  pub knowledge : Knowledge
  pub lawful : IsLawful given m knowledge
  pub knows : o.0.gossip ≡ learnt m.me knowledge m.gossip
  pub tells : told o.1 ≡ made_by knowledge
  pub numbered : (number : ℕ) → o.1.number ≡ Some number → number ≡ count m.gossip.version m.me + 1
  pub same_me : o.0.me ≡ m.me
  pub same_settings : o.0.settings ≡ m.settings
  pub same_shown : o.0.shown ≡ m.shown
  pub same_confirmed : o.0.confirmed ≡ m.confirmed
  pub waits_on : WaitsOn m.settings.margin m.settled o.0.settled
  pub ticked : o.0.ticks ≤ m.ticks + 1
  pub founder : IsTrue o.0.founder → IsTrue m.founder ⊎ IsTrue given.founds
  pub founds : IsTrue m.founder → IsTrue o.0.founder
