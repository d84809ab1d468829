-- Counters of processes: tables with a number at each process.
use Rattle.std.specs.Prelude.{ℕ, ◌+◌, min, nat_lt, List, [], ◌∷◌, map, unwrap_or}
use Rattle.std.specs.FinMap as finmap
use Rattle.std.specs.Coded.{Coded, coded_ℕ}
use Rattle.std.specs.List.{filter}
use Rattle.ak_address.specs.Unique.{UniqueModel, unique_cmp, coded_unique}
use Rattle.ak_address.specs.Changed.{changed}

abbrev pub Counters : Type 0
Counters = finmap.FinMap unique_cmp ℕ

abbrev pub coded_counters : Coded Counters
coded_counters = finmap.code coded_unique coded_ℕ

-- the number of a process, 0 where it has none
abbrev pub counter : Counters → UniqueModel → ℕ
counter counters who = unwrap_or (finmap.get counters who) 0

-- each counter is raised by one, up to the most
abbrev pub raised : ℕ → Counters → Counters
raised most counters = changed (λ n. min (n + 1) most) counters

-- a counter for each of these processes: the one that is kept, or 0
abbrev pub with_each : Counters → List UniqueModel → Counters → Counters
with_each kept [] counters = counters
with_each kept (who ∷ rest) counters = finmap.insert (with_each kept rest counters) who (counter kept who)

-- the processes whose counter is above a limit, in their order
abbrev pub above : ℕ → Counters → List UniqueModel
above limit counters = map (λ (e : UniqueModel × ℕ). e.0) (filter (λ (e : UniqueModel × ℕ). nat_lt limit e.1) (finmap.entries counters))
