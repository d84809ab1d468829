-- What a role does: a decision is made over the members that have it alone (Akka's Split Brain Resolver, "Strategies"), and where
-- each member that could count has it, it is made over all of them, as where nothing is said of roles.
use Rattle.std.specs.Prelude.{◌↔◌, ℕ, ◌*◌, nat_lt, nat_le, Bool, not, ◌&&◌, if◌then◌else◌, List, length, Contains}
use Rattle.std.specs.Prelude as list
use Rattle.std.specs.List.{filter}
use Rattle.ak_address.specs.Distinct.{distinct}
use Rattle.ak_address.specs.Unique.{AddressModel, UniqueModel}
use Rattle.ak_address.specs.Uniques.{UniqueSet}
use Rattle.ak_converge.specs.Convergence.{is_converged}
use Rattle.ak_downing.specs.declared.decision.Decision.{Decision}
use Rattle.ak_downing.specs.declared.decision.Decision.TheVariants as decision
use Rattle.ak_downing.specs.Downing.{is_beside, by_first, with_oldest}
use Rattle.ak_leader.specs.Led.{IsMemberWith}
use Rattle.ak_member.specs.declared.status.Status.TheVariants.{Joining}
use Rattle.ak_member.specs.Age.{counted_pairs, counted_addresses, least_pair, IsCounted}
use Rattle.ak_member.specs.Standing.{Standings, members_of}
use Rattle.ak_member.specs.View.{View}
use Rattle.ak_membership.specs.Tick.{joining_pairs}
use Rattle.ak_reach.specs.Unreachable.{unreachable_members}
use Rattle.ak_settings.specs.declared.settings.Strategy.{Strategy}
use Rattle.ak_settings.specs.declared.settings.Strategy.TheVariants.{StaticQuorum, KeepMajority, KeepOldest, DownAll}
use Rattle.ak_meaning.specs.Resolver.{DoesCount, IsWith, CountsAs}

-- ---- the members that have the role
-- In both views the same members count, with the same numbers, and the same of them are on the side of the node. Nothing is asked
-- of the other members, nor of rows but in so far as they say who of those that count is unreachable.
pub record HaveSameCounted (role : List AddressModel) (v w : View) (me : UniqueModel) : Type 0 where
  pub counted : (who : UniqueModel) (number : ℕ) → CountsAs role v who number ↔ CountsAs role w who number
  pub beside : (who : UniqueModel) → DoesCount role v who → IsWith v me who ↔ IsWith w me who

-- ---- all members
-- each Up and each Leaving member is at an address that has the role; and each Joining one is
abbrev pub EachHasRole : List AddressModel → Standings → Type 0
EachHasRole role s = (who : UniqueModel) (number : ℕ) → IsCounted s who number → Contains role who.address

abbrev pub EachJoiningHasRole : List AddressModel → Standings → Type 0
EachJoiningHasRole role s = (who : UniqueModel) → IsMemberWith s who Joining → Contains role who.address

-- the addresses of the Joining members, wherever they are
abbrev pub all_joining : Standings → List AddressModel
all_joining s = list.map (λ (pair : UniqueModel × ℕ). pair.0.address) (joining_pairs (members_of s))

-- the Up and the Leaving members, wherever they are: on the side of the node, and the others
abbrev pub all_beside : View → UniqueModel → List (UniqueModel × ℕ)
all_beside v me = filter (λ (pair : UniqueModel × ℕ). is_beside (unreachable_members v) me pair.0) (counted_pairs (members_of v.standings))

abbrev pub all_apart : View → UniqueModel → List (UniqueModel × ℕ)
all_apart v me = filter (λ (pair : UniqueModel × ℕ). not (is_beside (unreachable_members v) me pair.0)) (counted_pairs (members_of v.standings))

abbrev pub all_reachable : View → UniqueModel → ℕ
all_reachable v me = distinct (list.map (λ (pair : UniqueModel × ℕ). pair.0.address) (all_beside v me))

-- a view is settled where enough addresses of Up and Leaving members, whichever they are, are in it
abbrev pub settles_over_all : ℕ → View → UniqueSet → Bool
settles_over_all quorum v seen = is_converged v seen && nat_le quorum (distinct (counted_addresses v.standings))

-- the decision over all of them
abbrev pub decide_over_all : Strategy → View → UniqueModel → Decision
decide_over_all (StaticQuorum quorum) v me =
    if nat_le (2 * quorum) (distinct (counted_addresses v.standings)) then decision.DownAll
    else (if nat_le quorum (all_reachable v me) then decision.DownUnreachable else decision.DownReachable)
decide_over_all KeepMajority v me =
    if nat_lt (length (all_apart v me)) (length (all_beside v me)) then decision.DownUnreachable
    else (if nat_lt (length (all_beside v me)) (length (all_apart v me)) then decision.DownReachable
    else by_first (unreachable_members v) me (counted_pairs (members_of v.standings)))
decide_over_all (KeepOldest alone) v me =
    with_oldest alone (length (all_beside v me)) (length (all_apart v me)) (unreachable_members v) me (least_pair (counted_pairs (members_of v.standings)))
decide_over_all DownAll v me = decision.DownAll
