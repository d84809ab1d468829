-- Whom a node watches, and whom it finds silent (Akka's Cluster Specification, "Failure Detector": each node is monitored
-- by a few others on a ring; the counters in ticks are this project's).
use Rattle.std.specs.Prelude.{ℕ, ◌+◌, nat_lt, Bool, ◌&&◌, List, ◌++◌, map, take, if◌then◌else◌}
use Rattle.std.specs.FinMap as finmap
use Rattle.std.specs.List.{filter}
use Rattle.std.specs.Ordering.{is_lt}
use Rattle.ak_address.specs.Unique.{UniqueModel, unique_cmp}
use Rattle.ak_address.specs.Uniques.{UniqueSet, in_order, set_of}
use Rattle.ak_address.specs.Counters.{Counters, counter, raised, with_each, above}
use Rattle.ak_member.specs.declared.status.Status.{Status}
use Rattle.ak_member.specs.Standing.{Standings, is_member, members_of}

-- a node watches this many members
abbrev pub most_watched : ℕ
most_watched = 5

-- the other members, those after the node first
abbrev pub others_around : UniqueModel → Standings → List UniqueModel
others_around me s =
    let members = map (λ (pair : UniqueModel × (Status × ℕ)). pair.0) (members_of s) in
    filter (λ who. is_lt (unique_cmp me who)) members ++ filter (λ who. is_lt (unique_cmp who me)) members

-- the next members on the ring
abbrev pub watch_ring : UniqueModel → Standings → UniqueSet
watch_ring me s = set_of (take most_watched (others_around me s))

-- a process was not heard for longer than the deadline
abbrev pub is_silent : ℕ → Counters → UniqueModel → Bool
is_silent deadline counters who = nat_lt deadline (counter counters who)

abbrev pub silent : ℕ → Counters → UniqueSet
silent deadline counters = set_of (above deadline counters)

-- A node watches its ring, and on whoever is silent and still a member; a counter is kept, a new one is 0.
abbrev pub watching : UniqueModel → Standings → ℕ → Counters → Counters
watching me s deadline counters =
    with_each counters (in_order (watch_ring me s)) (finmap.retain_keys counters (λ who. is_silent deadline counters who && is_member s who))

-- a watched member is heard
abbrev pub heard : UniqueModel → Counters → Counters
heard who counters = if finmap.contains_key counters who then finmap.insert counters who 0 else counters

-- one tick: a counter stops one above the deadline
abbrev pub ticked : ℕ → Counters → Counters
ticked deadline counters = raised (deadline + 1) counters
