-- Tables whose values are changed, each by itself, at the same processes.
use Rattle.std.specs.Prelude as list
use Rattle.std.specs.FinMap as map
use Rattle.ak_address.specs.Unique.{UniqueModel, unique_cmp}
use Rattle.ak_address.specs.Uniques.{UniqueSet}

-- each value becomes what f makes of it
abbrev pub changed : {X Y : Type 0} → (X → Y) → map.FinMap unique_cmp X → map.FinMap unique_cmp Y
changed {X} {Y} f m = map.from_sorted (list.map (λ (e : UniqueModel × X). (e.0, f e.1)) (map.entries m))

-- the processes of a table, as a set
abbrev pub keys_of : {X : Type 0} → map.FinMap unique_cmp X → UniqueSet
keys_of m = changed (λ _. tt) m
