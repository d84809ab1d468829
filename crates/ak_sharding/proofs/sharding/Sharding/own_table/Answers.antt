use Rattle.std.proofs.Common.{◌∙◌}
use Rattle.ak_sharding.proofs.TableLengths.{own_reports_fit}
use Rattle.ak_sharding.proofs.sharding.Sharding.own_table.Goals as goal

pub learn-requires : goal.learn-requires
learn-requires c =
    own_reports_fit c.self.inside.region c.shards.result c.deref.result.now c.in_ok-table.table (c.deref.ensures.value ∙ c.in_ok-reports.ensures.found) c.shards.ensures c.in_ok-table.ensures
