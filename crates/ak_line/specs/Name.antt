-- Who a node is: a process of the cluster. Of names nothing is used but that they can be told apart.
use Rattle.std.specs.Prelude.{Bool}
use Rattle.std.specs.Ordering.{is_eq}
use Rattle.ak_address.specs.Unique.{UniqueModel, unique_cmp}

abbrev pub Name : Type 0
Name = UniqueModel

abbrev pub is_name : Name → Name → Bool
is_name a b = is_eq (unique_cmp a b)
