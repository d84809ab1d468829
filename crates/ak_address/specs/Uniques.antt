-- Finite sets of processes: tables with nothing at each process. `map`'s laws on tables hold of them as they stand.
use Rattle.std.specs.Prelude.{ℕ, Bool, List, [], ◌∷◌}
use Rattle.std.specs.FinMap as map
use Rattle.ak_address.specs.Table.{merged_tables}
use Rattle.ak_address.specs.Unique.{UniqueModel, unique_cmp}

abbrev pub UniqueSet : Type 0
UniqueSet = map.FinMap unique_cmp (Unit {0})

abbrev pub no_one : UniqueSet
no_one = map.empty

abbrev pub has : UniqueSet → UniqueModel → Bool
has s u = map.contains_key s u

abbrev pub with_one : UniqueSet → UniqueModel → UniqueSet
with_one s u = map.insert s u tt

abbrev pub without_one : UniqueSet → UniqueModel → UniqueSet
without_one s u = map.remove s u

-- those that pass a test
abbrev pub those : UniqueSet → (UniqueModel → Bool) → UniqueSet
those s p = map.retain_keys s p

abbrev pub how_many : UniqueSet → ℕ
how_many s = map.len s

-- its processes in their order
abbrev pub in_order : UniqueSet → List UniqueModel
in_order s = map.keys s

-- those of either set
unfoldable pub union : UniqueSet → UniqueSet → UniqueSet
union s t = merged_tables (λ _ _. tt) s t

-- the processes of a list
abbrev pub set_of : List UniqueModel → UniqueSet
set_of [] = no_one
set_of (who ∷ rest) = with_one (set_of rest) who
