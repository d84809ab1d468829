-- Who leads, and what the leader makes of a view on which all agree (Akka's Cluster Specification, "Leader"; that only
-- counted members lead, the founding, and whom the leader removes unconfirmed, are this project's choice).
use Rattle.std.specs.Prelude.{◌≡◌, ℕ, ◌+◌, max, nat_lt, Bool, true, false, not, ◌&&◌, ◌⊎◌, List, [], ◌∷◌, ◌++◌, Option, Some, None, option_map, if◌then◌else◌}
use Rattle.std.specs.List.{find}
use Rattle.std.specs.declared.cmp.Ordering.TheVariants.{Less}
use Rattle.ak_address.specs.Unique.{UniqueModel, unique_cmp}
use Rattle.ak_address.specs.Uniques.{UniqueSet, has}
use Rattle.ak_clock.specs.declared.version.TheConstants.{BOUND}
use Rattle.ak_member.specs.declared.effect.Effect.{Effect}
use Rattle.ak_member.specs.declared.effect.Effect.TheVariants.{Rise, Removed}
use Rattle.ak_member.specs.declared.status.Status.{Status}
use Rattle.ak_member.specs.declared.status.Status.TheVariants.{Joining, WeaklyUp, Up, Leaving, Exiting, Down}
use Rattle.ak_member.specs.Standing.{Standings, members_of, is_joining}
use Rattle.ak_member.specs.Age.{counts, IsCounted}
use Rattle.ak_member.specs.View.{View}
use Rattle.ak_reach.specs.Unreachable.{unreachable_members, IsUnreachable}

-- a counted member that is reachable may lead
abbrev pub may_lead : UniqueSet → UniqueModel × (Status × ℕ) → Bool
may_lead lost (who, (status, number)) = counts status && not (has lost who)

-- the first of them in the order of processes
abbrev pub leader : View → Option UniqueModel
leader v = option_map (λ (pair : UniqueModel × (Status × ℕ)). pair.0) (find (may_lead (unreachable_members v)) (members_of v.standings))

-- the process is a counted member, and not an unreachable one
abbrev pub MayLead : View → UniqueModel → Type 0
MayLead v who = (number : ℕ) × IsCounted v.standings who number × (IsUnreachable v who → ⊥)

-- this process may lead, and comes before every other one that may; or nobody may lead
abbrev pub IsLeader : View → Option UniqueModel → Type 0
IsLeader v None = (who : UniqueModel) → MayLead v who → ⊥
IsLeader v (Some who) = MayLead v who × ((other : UniqueModel) → MayLead v other → (other ≡ who) ⊎ (unique_cmp who other ≡ Less))

-- the greatest number of a member
abbrev pub greatest_number : List (UniqueModel × (Status × ℕ)) → ℕ
greatest_number [] = 0
greatest_number (pair ∷ pairs) = max pair.1.1 (greatest_number pairs)

-- a number may be given: the next one is within the bound
abbrev pub has_next : ℕ → Bool
has_next number = nat_lt number BOUND

-- the last number given, after a member with this status
abbrev pub number_after : ℕ → Status → ℕ
number_after number Joining = if has_next number then number + 1 else number
number_after number WeaklyUp = if has_next number then number + 1 else number
number_after number Up = number
number_after number Leaving = number
number_after number Exiting = number
number_after number Down = number

-- what the leader makes of one member: who is Joining or WeaklyUp comes Up with the next number, who leaves exits, and who has
-- exited or is Down is removed, once it said that it stops, or where a Down one is unreachable
abbrev pub led : UniqueSet → UniqueSet → ℕ → UniqueModel × (Status × ℕ) → List Effect
led lost confirmed number (who, (Joining, up)) = if has_next number then Rise who Up (number + 1) ∷ [] else []
led lost confirmed number (who, (WeaklyUp, up)) = if has_next number then Rise who Up (number + 1) ∷ [] else []
led lost confirmed number (who, (Up, up)) = []
led lost confirmed number (who, (Leaving, up)) = Rise who Exiting 0 ∷ []
led lost confirmed number (who, (Exiting, up)) = if has confirmed who then Removed who true ∷ [] else []
led lost confirmed number (who, (Down, up)) = if has confirmed who then Removed who true ∷ [] else (if has lost who then Removed who false ∷ [] else [])

-- one pass over the members in their order
abbrev pub all_led : UniqueSet → UniqueSet → ℕ → List (UniqueModel × (Status × ℕ)) → List Effect
all_led lost confirmed number [] = []
all_led lost confirmed number (pair ∷ pairs) = led lost confirmed number pair ++ all_led lost confirmed (number_after number pair.1.0) pairs

-- the leader's effects
abbrev pub leaders_effects : View → UniqueSet → List Effect
leaders_effects v confirmed = all_led (unreachable_members v) confirmed (greatest_number (members_of v.standings)) (members_of v.standings)

-- each Joining member comes Up with the next number
abbrev pub all_founded : ℕ → List (UniqueModel × (Status × ℕ)) → List Effect
all_founded number [] = []
all_founded number (pair ∷ pairs) = if is_joining pair.1.0 then Rise pair.0 Up (number + 1) ∷ all_founded (number + 1) pairs else all_founded number pairs

-- the founding effects
abbrev pub founding_effects : Standings → List Effect
founding_effects s = all_founded 0 (members_of s)

-- a member is let in while the members cannot agree: it is Joining, and can be reached
abbrev pub is_let_in : UniqueSet → UniqueModel × (Status × ℕ) → Bool
is_let_in lost pair = is_joining pair.1.0 && not (has lost pair.0)

-- each of them becomes WeaklyUp
abbrev pub all_let_in : UniqueSet → List (UniqueModel × (Status × ℕ)) → List Effect
all_let_in lost [] = []
all_let_in lost (pair ∷ pairs) = if is_let_in lost pair then Rise pair.0 WeaklyUp 0 ∷ all_let_in lost pairs else all_let_in lost pairs

-- what the leader of a view that does not settle makes of it (Akka's Cluster Specification, "WeaklyUp Members")
abbrev pub weak_effects : View → List Effect
weak_effects v = all_let_in (unreachable_members v) (members_of v.standings)
