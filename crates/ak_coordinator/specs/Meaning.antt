-- What a table of shards means: what is learnt of a home, and whom an order is for.
use Rattle.std.specs.Prelude.{◌≡◌, ℕ, ◌==◌, Bool, false, IsTrue, List, Option, Some, if◌then◌else◌}
use Rattle.std.specs.List.{filter, fold}
use Rattle.ak_address.specs.Unique.{UniqueModel}
use Rattle.ak_address.specs.Uniques.{has}
use Rattle.ak_shard_id.specs.declared.report.Report.{Report}
use Rattle.ak_coordinator.specs.declared.entry.Stage.TheVariants as stages
use Rattle.ak_coordinator.specs.declared.orders.Order.{Order}
use Rattle.ak_coordinator.specs.declared.orders.Order.TheVariants as order
use Rattle.ak_coordinator.specs.Table.{Home, ShardEntry}
use Rattle.ak_coordinator.specs.Entry.{claims, learnt}

-- the home after a node said that it hosts the shard with a number
abbrev pub claimed : Bool → UniqueModel → ℕ → Option Home → Option Home
claimed asking from number home = if claims asking from number home then Some (record { owner = from; number = number }) else home

-- what is learnt of one shard from the reports of it, one after the other
abbrev pub learnt_of : Bool → UniqueModel → ℕ → List Report → ShardEntry → ShardEntry
learnt_of asking from shard reports entry = fold (λ (known : ShardEntry) (report : Report). learnt asking from report known) entry (filter (λ (report : Report). report.shard == shard) reports)

-- an order of a shard is for the home with its number, or for a node that is waited for
abbrev pub IsFor : ℕ → ShardEntry → Order → Type 0
IsFor shard entry (order.Begin s number who) = (s ≡ shard) × (entry.stage ≡ stages.Holding) × IsTrue (has entry.waits who) × ((home : Home) × (entry.home ≡ Some home) × (home.number ≡ number))
IsFor shard entry (order.HandOff s number who) = (s ≡ shard) × (entry.stage ≡ stages.Leaving) × (entry.home ≡ Some (record { owner = who; number = number }))
IsFor shard entry (order.Host s number who) = (s ≡ shard) × (entry.stage ≡ stages.Still) × (entry.started ≡ false) × (entry.home ≡ Some (record { owner = who; number = number }))
