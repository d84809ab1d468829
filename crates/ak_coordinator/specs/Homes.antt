-- How the shards at each node are counted (this project's choice).
use Rattle.std.specs.Prelude.{◌≡◌, ℕ, ◌+◌, List, length, map, Option, None, Some}
use Rattle.std.specs.FinMap as finmap
use Rattle.std.specs.List.{filter}
use Rattle.ak_address.specs.Unique.{UniqueModel}
use Rattle.ak_address.specs.Uniques.{UniqueSet}
use Rattle.ak_address.specs.Counters.{Counters, counter}
use Rattle.ak_allocation.specs.declared.load.Load.{Load}
use Rattle.ak_member.specs.Standing.{member_pairs}
use Rattle.ak_member.specs.declared.standing.Standing.{Standing}
use Rattle.ak_member.specs.declared.status.Status.{Status}
use Rattle.ak_coordinator.specs.Table.{Home, ShardTable}
use Rattle.ak_coordinator.specs.Entry.{is_at}
use Rattle.ak_coordinator.specs.Coordinator.{may_host}

-- one shard more at a home, where there is one
abbrev pub with_home : Counters → Option Home → Counters
with_home counts None = counts
with_home counts (Some home) = finmap.insert counts home.owner (counter counts home.owner + 1)

-- the counter of each node is the number of shards that have their home there
abbrev pub AreHomes : ShardTable → Counters → Type 0
AreHomes table counts = (who : UniqueModel) → counter counts who ≡ length (filter (is_at who) table)

-- the load of a node, as counted
abbrev pub counted_load : Counters → UniqueModel → Load
counted_load counts who = record { unique = who; shards = counter counts who }

-- the loads, as counted, of the Up members among these pairs that have granted
abbrev pub loads_counted : Counters → UniqueSet → List (UniqueModel × Standing) → List Load
loads_counted counts granted pairs = map (λ (pair : UniqueModel × (Status × ℕ)). counted_load counts pair.0) (filter (may_host granted) (member_pairs pairs))
