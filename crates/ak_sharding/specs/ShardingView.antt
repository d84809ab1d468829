-- What a node keeps of the shards, and what it reads for that, as values.
use Rattle.std.specs.Prelude.{◌≡◌, Option, IfSome, length, refl}
use Rattle.std.specs.FinMap as map
use Rattle.std.specs.Coded.{Coded, code_by, coded×, coded_option}
use Rattle.ak_address.specs.Unique.{UniqueModel, coded_unique}
use Rattle.ak_coordinator.specs.Table.{ShardTable, coded_table}
use Rattle.ak_entity.specs.Active.{ActiveEntities, coded_entities}
use Rattle.ak_member.specs.Standing.{Standings}
use Rattle.ak_member.specs.contracts.standing.Standing as standing
use Rattle.ak_region.specs.RegionModel.{RegionModel, coded_region}
use Rattle.ak_settings.specs.Settings.{SettingsModel, coded_settings}
use Rattle.ak_settled.specs.SettledView.{SettledView, coded_noted}
use Rattle.ak_singleton.specs.Singleton.{SingletonModel}
use Rattle.ak_singleton.specs.SingletonView.{coded_singleton}
use Rattle.ak_sharding.specs.Sharding.{ShardingModel, Around}

abbrev pub coded_sharding : Coded ShardingModel
coded_sharding =
    code_by (RegionModel × (ActiveEntities × Option ShardTable))
    (coded× coded_region (coded× coded_entities (coded_option coded_table)))
    (λ s. (s.region, (s.entities, s.table)))
    (λ p. record { region = p.0; entities = p.1.0; table = p.1.1 })
    (λ _. refl)

-- the table, where there is one, has an entry for each shard
abbrev pub HasTable : ShardingModel → Type 0
HasTable s = IfSome s.table (λ table. length table ≡ length s.region.slots)

abbrev pub coded_around : Coded Around
coded_around =
    code_by (UniqueModel × (SettingsModel × (SettledView × (Standings × SingletonModel))))
    (coded× coded_unique (coded× coded_settings (coded× (coded_option coded_noted) (coded× (map.code coded_unique standing.the_row.coded) coded_singleton))))
    (λ a. (a.me, (a.settings, (a.settled, (a.members, a.singleton)))))
    (λ p. record { me = p.0; settings = p.1.0; settled = p.1.1.0; members = p.1.1.1.0; singleton = p.1.1.1.1 })
    (λ _. refl)
