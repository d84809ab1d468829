-- What two tables over processes come to when they are merged: a table is a finite map from processes to values.
use Rattle.std.specs.Prelude.{List, [], ◌∷◌, Option, Some, None}
use Rattle.std.specs.FinMap as map
use Rattle.ak_address.specs.Unique.{UniqueModel, unique_cmp}

-- what two tables say of one key together: what the one has that has it, and the merge where both have
abbrev pub merged_at : {X : Type 0} → (X → X → X) → Option X → Option X → Option X
merged_at f None b = b
merged_at f (Some x) None = Some x
merged_at f (Some x) (Some y) = Some (f x y)

-- the value y of a key, merged with what is there
abbrev pub value_with : {X : Type 0} → (X → X → X) → Option X → X → X
value_with f None y = y
value_with f (Some x) y = f x y

-- the table with each of these pairs, merged with what the table has at its key
abbrev pub with_pairs : {X : Type 0} → (X → X → X) → map.FinMap unique_cmp X → List (UniqueModel × X) → map.FinMap unique_cmp X
with_pairs f m [] = m
with_pairs f m (e ∷ es) = let n = with_pairs f m es in map.insert n e.0 (value_with f (map.get n e.0) e.1)

-- the pairs of both; where both have a key, its values are merged
unfoldable pub merged_tables : {X : Type 0} → (X → X → X) → map.FinMap unique_cmp X → map.FinMap unique_cmp X → map.FinMap unique_cmp X
merged_tables f m n = with_pairs f m (map.entries n)
