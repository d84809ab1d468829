-- How the entities are kept: by vectors of bytes.
use Rattle.std.specs.Prelude.{ℕ, List, map}
use Rattle.std.specs.declared.vec.Vec.{Vec}
use Rattle.std.specs.Global.{Global}
use Rattle.ak_entity.specs.Active.{ActiveEntity}

-- the bytes of each id with its entity
abbrev pub pairs_of : List (Vec ℕ Global × ActiveEntity) → List (List ℕ × ActiveEntity)
pairs_of pairs = map (λ (pair : Vec ℕ Global × ActiveEntity). (pair.0.items, pair.1)) pairs
