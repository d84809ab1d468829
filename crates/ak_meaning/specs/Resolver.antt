-- What a resolver's decision means, in words of members, addresses and rows (Akka's Split Brain Resolver, "Strategies"; the exact
-- answers are this project's choice).
use Rattle.std.specs.Prelude.{◌≡◌, ◌≢◌, ◌↔◌, ◌⊎◌, ℕ, ◌*◌, ◌<◌, ◌≤◌, Bool, IsTrue, List, Contains}
use Rattle.std.specs.declared.cmp.Ordering.TheVariants.{Less}
use Rattle.ak_address.specs.Unique.{AddressModel, UniqueModel, unique_cmp}
use Rattle.ak_leader.specs.Led.{IsMemberWith}
use Rattle.ak_member.specs.declared.effect.Effect.{Effect}
use Rattle.ak_member.specs.declared.effect.Effect.TheVariants.{Rise}
use Rattle.ak_member.specs.declared.status.Status.{Status}
use Rattle.ak_member.specs.declared.status.Status.TheVariants.{Up, Leaving, Down}
use Rattle.ak_member.specs.Age.{IsCounted}
use Rattle.ak_member.specs.View.{View}
use Rattle.ak_reach.specs.Unreachable.{IsUnreachable}
use Rattle.ak_settings.specs.declared.settings.Strategy.{Strategy}
use Rattle.ak_settings.specs.declared.settings.Strategy.TheVariants.{StaticQuorum, KeepMajority, KeepOldest}
use Rattle.ak_downing.specs.declared.decision.Decision.TheVariants.{DownUnreachable, DownReachable, DownAll}
use Rattle.ak_downing.specs.Downing.{decide, downs}
use Rattle.ak_meaning.specs.Counting.{AreMany}

-- ---- who counts, and on which side
-- a member counts here: it is Up or Leaving, and its address has the role
abbrev pub DoesCount : List AddressModel → View → UniqueModel → Type 0
DoesCount role v who = (IsMemberWith v.standings who Up ⊎ IsMemberWith v.standings who Leaving) × Contains role who.address

-- a process is on the side of a node: it is the node itself, or it is not unreachable
abbrev pub IsWith : View → UniqueModel → UniqueModel → Type 0
IsWith v me who = (who ≡ me) ⊎ (¬ IsUnreachable v who)

-- a counted member on the side of the node, and one that is not
abbrev pub CountsWith : List AddressModel → View → UniqueModel → UniqueModel → Type 0
CountsWith role v me who = DoesCount role v who × IsWith v me who

abbrev pub CountsApart : List AddressModel → View → UniqueModel → UniqueModel → Type 0
CountsApart role v me who = DoesCount role v who × (¬ IsWith v me who)

-- an address of a counted member, and one of a counted member on the side of the node
abbrev pub HasCounted : List AddressModel → View → AddressModel → Type 0
HasCounted role v a = (who : UniqueModel) × (who.address ≡ a) × DoesCount role v who

abbrev pub HasReached : List AddressModel → View → UniqueModel → AddressModel → Type 0
HasReached role v me a = (who : UniqueModel) × (who.address ≡ a) × CountsWith role v me who

-- ---- static-quorum
-- Fewer than twice the quorum of addresses count, and at least a quorum of them are on the node's side: it downs the unreachable
-- ones. At least twice the quorum count: all are downed. Else the node's side is.
pub record DecidesByQuorum (quorum : ℕ) (role : List AddressModel) (v : View) (me : UniqueModel) : Type 0 where
  pub counted : ℕ
  pub reached : ℕ
  pub counted_are : AreMany (HasCounted role v) counted
  pub reached_are : AreMany (HasReached role v me) reached
  pub others : (decide (StaticQuorum quorum) role v me ≡ DownUnreachable) ↔ ((quorum ≤ reached) × (counted < 2 * quorum))
  pub all : (decide (StaticQuorum quorum) role v me ≡ DownAll) ↔ (2 * quorum ≤ counted)
  pub own : (decide (StaticQuorum quorum) role v me ≡ DownReachable) ↔ ((reached < quorum) × (counted < 2 * quorum))

-- ---- keep-majority
-- the first counted member in the order of processes is on the side of the node
pub record FirstIsWith (role : List AddressModel) (v : View) (me : UniqueModel) : Type 0 where
  pub who : UniqueModel
  pub is_with : CountsWith role v me who
  pub first : (other : UniqueModel) → DoesCount role v other → (other ≡ who) ⊎ (unique_cmp who other ≡ Less)

-- The node downs the unreachable ones where more counted members are on its side than are not, and at equal numbers where the
-- first counted one is; else it downs its own side.
pub record DecidesByMajority (role : List AddressModel) (v : View) (me : UniqueModel) : Type 0 where
  pub beside : ℕ
  pub apart : ℕ
  pub beside_are : AreMany (CountsWith role v me) beside
  pub apart_are : AreMany (CountsApart role v me) apart
  pub others : (decide KeepMajority role v me ≡ DownUnreachable) ↔ ((apart < beside) ⊎ ((beside ≡ apart) × FirstIsWith role v me))
  pub own : (decide KeepMajority role v me ≡ DownReachable) ↔ (¬ (decide KeepMajority role v me ≡ DownUnreachable))

-- ---- keep-oldest
-- a member counts, and became Up as the one with this number
abbrev pub CountsAs : List AddressModel → View → UniqueModel → ℕ → Type 0
CountsAs role v who number = IsCounted v.standings who number × Contains role who.address

-- the oldest of the members that count: no other became Up before it, and of those with its number it is the first
pub record IsOldest (role : List AddressModel) (v : View) (who : UniqueModel) : Type 0 where
  pub number : ℕ
  pub counts : CountsAs role v who number
  pub first : (other : UniqueModel) (later : ℕ) → CountsAs role v other later → (number < later) ⊎ ((number ≡ later) × ((other ≡ who) ⊎ (unique_cmp who other ≡ Less)))

abbrev pub OldestIsWith : List AddressModel → View → UniqueModel → Type 0
OldestIsWith role v me = (who : UniqueModel) × IsOldest role v who × IsWith v me who

abbrev pub OldestIsApart : List AddressModel → View → UniqueModel → Type 0
OldestIsApart role v me = (who : UniqueModel) × IsOldest role v who × (¬ IsWith v me who)

-- the oldest is alone on its side, others are on the other side, and it is asked that it gives way then
abbrev pub MustGiveWay : Bool → ℕ → ℕ → Type 0
MustGiveWay asked here there = IsTrue asked × (here ≡ 1) × (1 ≤ there)

-- The node downs the unreachable ones where the oldest is on its side and need not give way, and where the oldest is not and
-- must. It downs its own side where nobody counts, where the oldest is on its side and must give way, and where it is not and
-- need not. It never downs all.
pub record DecidesByOldest (asked : Bool) (role : List AddressModel) (v : View) (me : UniqueModel) : Type 0 where
  pub beside : ℕ
  pub apart : ℕ
  pub beside_are : AreMany (CountsWith role v me) beside
  pub apart_are : AreMany (CountsApart role v me) apart
  pub others : (decide (KeepOldest asked) role v me ≡ DownUnreachable)
      ↔ ((OldestIsWith role v me × (¬ MustGiveWay asked beside apart)) ⊎ (OldestIsApart role v me × MustGiveWay asked apart beside))
  pub own : (decide (KeepOldest asked) role v me ≡ DownReachable)
      ↔ (((who : UniqueModel) → ¬ DoesCount role v who) ⊎ ((OldestIsWith role v me × MustGiveWay asked beside apart) ⊎ (OldestIsApart role v me × (¬ MustGiveWay asked apart beside))))
  pub never_all : decide (KeepOldest asked) role v me ≢ DownAll

-- Two nodes know the same members, and what each reaches divides them: each member that counts is on one side, and on one alone.
pub record AreDivided (role : List AddressModel) (v w : View) (me you : UniqueModel) : Type 0 where
  pub same : v.standings ≡ w.standings
  pub either : (who : UniqueModel) → DoesCount role v who → IsWith v me who ⊎ IsWith w you who
  pub apart : (who : UniqueModel) → DoesCount role v who → IsWith v me who → IsWith w you who → ⊥

-- ---- whom a decision downs
-- Each effect is that a member which is not Down goes Down. The node is downed where it gives up its side or all; another member
-- where all are, where it is unreachable and the others are downed, and where it is not and the own side is.
pub record DownsRightly (strategy : Strategy) (role : List AddressModel) (v : View) (me : UniqueModel) : Type 0 where
  pub them : (effect : Effect) → Contains (downs (decide strategy role v me) v me) effect
      → (who : UniqueModel) × (status : Status) × IsMemberWith v.standings who status × (status ≢ Down) × (effect ≡ Rise who Down 0)
  pub itself : (status : Status) → IsMemberWith v.standings me status → status ≢ Down
      → Contains (downs (decide strategy role v me) v me) (Rise me Down 0) ↔ ((decide strategy role v me ≡ DownReachable) ⊎ (decide strategy role v me ≡ DownAll))
  pub others : (who : UniqueModel) (status : Status) → IsMemberWith v.standings who status → status ≢ Down → who ≢ me
      → Contains (downs (decide strategy role v me) v me) (Rise who Down 0)
      ↔ ((decide strategy role v me ≡ DownAll) ⊎ (((decide strategy role v me ≡ DownUnreachable) × IsUnreachable v who) ⊎ ((decide strategy role v me ≡ DownReachable) × (¬ IsUnreachable v who))))
