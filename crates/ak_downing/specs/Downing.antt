-- Which side of a partition goes on (Akka's Split Brain Resolver, "Strategies": their names and purpose are Akka's; that
-- static-quorum counts addresses, those with the role, and the exact answers, are this project's).
use Rattle.std.specs.Prelude.{ℕ, ◌*◌, nat_lt, nat_le, nat_eq, Bool, true, false, not, ◌&&◌, ◌||◌, List, [], ◌∷◌, Option, None, Some, length, if◌then◌else◌}
use Rattle.std.specs.Prelude as list
use Rattle.std.specs.List.{filter}
use Rattle.std.specs.Ordering.{is_eq}
use Rattle.ak_address.specs.Distinct.{distinct}
use Rattle.ak_address.specs.Unique.{AddressModel, UniqueModel, unique_cmp}
use Rattle.ak_address.specs.Uniques.{UniqueSet, has}
use Rattle.ak_member.specs.declared.effect.Effect.{Effect}
use Rattle.ak_member.specs.declared.effect.Effect.TheVariants.{Rise}
use Rattle.ak_member.specs.declared.status.Status.{Status}
use Rattle.ak_member.specs.declared.status.Status.TheVariants.{Down}
use Rattle.ak_member.specs.Standing.{members_of, is_down}
use Rattle.ak_member.specs.Age.{role_pairs, role_addresses, least_pair}
use Rattle.ak_member.specs.View.{View}
use Rattle.ak_reach.specs.Unreachable.{unreachable_members}
use Rattle.ak_settings.specs.declared.settings.Strategy.{Strategy}
use Rattle.ak_settings.specs.declared.settings.Strategy.TheVariants.{StaticQuorum, KeepMajority, KeepOldest, DownAll}
use Rattle.ak_downing.specs.declared.decision.Decision.{Decision}
use Rattle.ak_downing.specs.declared.decision.Decision.TheVariants as decision

-- a process is on the side of the node: it is the node, or it is not among the unreachable ones
abbrev pub is_beside : UniqueSet → UniqueModel → UniqueModel → Bool
is_beside lost me who = is_eq (unique_cmp who me) || not (has lost who)

-- the counted members with the role on the side of the node, and the other ones with it, with their numbers
abbrev pub counted_beside : List AddressModel → View → UniqueModel → List (UniqueModel × ℕ)
counted_beside role v me = filter (λ (pair : UniqueModel × ℕ). is_beside (unreachable_members v) me pair.0) (role_pairs role (members_of v.standings))

abbrev pub counted_apart : List AddressModel → View → UniqueModel → List (UniqueModel × ℕ)
counted_apart role v me = filter (λ (pair : UniqueModel × ℕ). not (is_beside (unreachable_members v) me pair.0)) (role_pairs role (members_of v.standings))

-- the addresses of those on the side of the node, and how many different ones they are
abbrev pub addresses_beside : List AddressModel → View → UniqueModel → List AddressModel
addresses_beside role v me = list.map (λ (pair : UniqueModel × ℕ). pair.0.address) (counted_beside role v me)

abbrev pub reachable_addresses : List AddressModel → View → UniqueModel → ℕ
reachable_addresses role v me = distinct (addresses_beside role v me)

-- static-quorum: too many addresses for one quorum; else whether the side of the node has one
abbrev pub by_quorum : ℕ → List AddressModel → View → UniqueModel → Decision
by_quorum quorum role v me =
    if nat_le (2 * quorum) (distinct (role_addresses role v.standings)) then decision.DownAll
    else (if nat_le quorum (reachable_addresses role v me) then decision.DownUnreachable else decision.DownReachable)

-- at equal numbers the side of the first of them goes on
abbrev pub by_first : UniqueSet → UniqueModel → List (UniqueModel × ℕ) → Decision
by_first lost me [] = decision.DownReachable
by_first lost me (pair ∷ pairs) = if is_beside lost me pair.0 then decision.DownUnreachable else decision.DownReachable

-- keep-majority: the side with more counted members that have the role goes on
abbrev pub by_majority : List AddressModel → View → UniqueModel → Decision
by_majority role v me =
    let beside = length (counted_beside role v me) in
    let others = length (counted_apart role v me) in
    if nat_lt others beside then decision.DownUnreachable
    else (if nat_lt beside others then decision.DownReachable
    else by_first (unreachable_members v) me (role_pairs role (members_of v.standings)))

-- the side of the oldest gives way: it is asked for, the oldest is alone on its side, and there is another side
abbrev pub gives_way : Bool → ℕ → ℕ → Bool
gives_way asked here there = asked && (nat_eq here 1 && nat_le 1 there)

-- the side of the oldest goes on, where there is one, unless it gives way; then the other side does
abbrev pub by_side : Bool → ℕ → ℕ → Bool → Decision
by_side asked beside others true = if gives_way asked beside others then decision.DownReachable else decision.DownUnreachable
by_side asked beside others false = if gives_way asked others beside then decision.DownUnreachable else decision.DownReachable

abbrev pub with_oldest : Bool → ℕ → ℕ → UniqueSet → UniqueModel → Option (UniqueModel × ℕ) → Decision
with_oldest asked beside others lost me None = decision.DownReachable
with_oldest asked beside others lost me (Some oldest) = by_side asked beside others (is_beside lost me oldest.0)

-- keep-oldest: of the counted members that have the role, the one with the least number, at equal numbers the first
abbrev pub by_oldest : Bool → List AddressModel → View → UniqueModel → Decision
by_oldest asked role v me =
    with_oldest asked (length (counted_beside role v me)) (length (counted_apart role v me)) (unreachable_members v) me (least_pair (role_pairs role (members_of v.standings)))

abbrev pub decide : Strategy → List AddressModel → View → UniqueModel → Decision
decide (StaticQuorum quorum) role v me = by_quorum quorum role v me
decide KeepMajority role v me = by_majority role v me
decide (KeepOldest alone) role v me = by_oldest alone role v me
decide DownAll role v me = decision.DownAll

-- a decision is against a process: against the node's own side, and against an unreachable one
abbrev pub is_against : Decision → UniqueSet → UniqueModel → UniqueModel → Bool
is_against decision.DownUnreachable lost me who = not (is_beside lost me who)
is_against decision.DownReachable lost me who = is_beside lost me who
is_against decision.DownAll lost me who = true

-- those members that pass the test go Down, where they are not
abbrev pub all_downed : (UniqueModel → Bool) → List (UniqueModel × (Status × ℕ)) → List Effect
all_downed test [] = []
all_downed test (pair ∷ pairs) = if test pair.0 && not (is_down pair.1.0) then Rise pair.0 Down 0 ∷ all_downed test pairs else all_downed test pairs

-- the effects of a decision, in the order of processes
abbrev pub downs : Decision → View → UniqueModel → List Effect
downs decided v me = all_downed (is_against decided (unreachable_members v) me) (members_of v.standings)
