-- A table has an entry for each shard: learning changes no length, and what a region reports is of its shards.
use Rattle.std.proofs.Common.{◌≡◌, ℕ, ◌<◌, Bool, true, List, [], ◌∷◌, length, replicate, Contains, refl, sym, ap, ◌∙◌, subst}
use Rattle.std.proofs.lemmas.List.{length-replicate}
use Rattle.ak_address.specs.Unique.{UniqueModel}
use Rattle.ak_coordinator.specs.Table.{ShardTable}
use Rattle.ak_coordinator.specs.Entry.{unplaced, learnt}
use Rattle.ak_coordinator.specs.Coordinator.{entry_of, with_entry, learnt_all}
use Rattle.ak_region.specs.RegionModel.{RegionModel}
use Rattle.ak_region.specs.Region.{reports}
use Rattle.ak_region.proofs.ReportLaws.{exactly_reported}
use Rattle.ak_shard_id.specs.declared.report.Report.{Report}
use Rattle.ak_sharding.specs.Sharding.{ShardingModel}
use Rattle.ak_sharding.specs.Coordinates.{own_table}
use Rattle.ak_sharding.proofs.RangesKept.{set_many}

pub learnt_length : (asking : Bool) (from : UniqueModel) (told : List Report) (table : ShardTable) → length (learnt_all asking from told table) ≡ length table
learnt_length asking from [] table = refl
learnt_length asking from (report ∷ told) table =
    let entry = learnt asking from report (entry_of table report.shard) in
    learnt_length asking from told (with_entry table report.shard entry) ∙ set_many table report.shard entry

pub own_table_length : (me : UniqueModel) (s : ShardingModel) → length (own_table me s) ≡ length s.region.slots
own_table_length me s = learnt_length true me (reports s.region) (replicate (length s.region.slots) unplaced) ∙ length-replicate (length s.region.slots) unplaced

pub own_reports_fit : (region : RegionModel) (shards : ℕ) (told : List Report) (table : ShardTable) → told ≡ reports region → shards ≡ length region.slots → table ≡ replicate shards unplaced
    → (report : Report) → Contains told report → report.shard < length table
own_reports_fit region shards told table all many new report there =
    subst (λ n. report.shard < n) (sym (ap length new ∙ length-replicate shards unplaced ∙ many)) ((exactly_reported region report).0 (subst (λ l. Contains l report) all there)).within
