-- What the first of the loads is among them.
use Rattle.std.specs.Prelude.{◌≡◌, ◌≢◌, ◌≤◌, List, Contains}
use Rattle.std.specs.declared.cmp.Ordering.TheVariants.{Less}
use Rattle.ak_address.specs.Unique.{unique_cmp}
use Rattle.ak_allocation.specs.declared.load.Load.{Load}

-- a load has the fewest shards, and of those that have as many it is the first in the order of processes
pub record IsLightest (loads : List Load) (load : Load) : Type 0 where
  pub there : Contains loads load
  pub fewest : (other : Load) → Contains loads other → load.shards ≤ other.shards
  pub first : (other : Load) → Contains loads other → other.shards ≡ load.shards → unique_cmp other.unique load.unique ≢ Less

-- a load has the most shards, and of those that have as many it is the first in the order of processes
pub record IsHeaviest (loads : List Load) (load : Load) : Type 0 where
  pub there : Contains loads load
  pub most : (other : Load) → Contains loads other → other.shards ≤ load.shards
  pub first : (other : Load) → Contains loads other → other.shards ≡ load.shards → unique_cmp other.unique load.unique ≢ Less
