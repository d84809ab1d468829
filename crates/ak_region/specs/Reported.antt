-- What a report of a region says.
use Rattle.std.specs.Prelude.{◌≡◌, ◌<◌, length, is_some}
use Rattle.ak_shard_id.specs.declared.report.Report.{Report}
use Rattle.ak_region.specs.RegionModel.{RegionModel}
use Rattle.ak_region.specs.Region.{slot_of}

-- the report is that of one of the shards, whose mark is not 0
pub record IsReported (region : RegionModel) (report : Report) : Type 0 where
  pub within : report.shard < length region.slots
  pub told : 0 < report.number
  pub marked : report.number ≡ (slot_of region report.shard).mark
  pub hosted : report.hosted ≡ is_some (slot_of region report.shard).hosted
