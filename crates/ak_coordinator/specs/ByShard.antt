-- A map from shards, in their order.
use Rattle.std.specs.Prelude.{◌≡◌, ℕ}
use Rattle.std.specs.List.{range_with_len}
use Rattle.indexmap.specs.IndexMap.{IndexMap, keys, index_map_len}

-- the keys are the shards from 0 on, in their order
abbrev pub AreByShard : {X S : Type 0} → IndexMap ℕ X S → Type 0
AreByShard table = keys table ≡ range_with_len 0 (index_map_len table)
