-- Which homes the slots have: those of a list, which may have more. Where all of that list are members, no slot has a home to forget.
use Rattle.std.specs.Prelude.{Bool, true, List, [], ◌∷◌, ◌++◌, Option, None, Some, if◌then◌else◌}
use Rattle.std.specs.List.{list_any, list_all}
use Rattle.std.specs.Ordering.{is_eq}
use Rattle.ak_address.specs.Unique.{UniqueModel, unique_cmp}
use Rattle.ak_region.specs.Shards.{ShardSlot}

abbrev pub is_among : List UniqueModel → UniqueModel → Bool
is_among homes who = list_any (λ home. is_eq (unique_cmp home who)) homes

abbrev pub with_home : List UniqueModel → UniqueModel → List UniqueModel
with_home homes who = if is_among homes who then homes else homes ++ who ∷ []

-- a home that is known is one of them
abbrev pub is_one : List UniqueModel → Option UniqueModel → Bool
is_one homes None = true
is_one homes (Some home) = is_among homes home

abbrev pub is_housed : List UniqueModel → ShardSlot → Bool
is_housed homes slot = is_one homes slot.home

abbrev pub are_housed : List UniqueModel → List ShardSlot → Bool
are_housed homes slots = list_all (is_housed homes) slots
