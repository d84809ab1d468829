-- What is delivered to the entities of a node, and when they end (Akka's Cluster Sharding).
use Rattle.std.specs.Prelude.{ℕ, ◌==◌, Bool, not, List, [], ◌∷◌, ◌++◌, Option, None, Some}
use Rattle.std.specs.FinMap as map
use Rattle.std.specs.List.{filter}
use Rattle.ak_entity.specs.Active.{ActiveEntity, ActiveEntities}

-- an entity that begins with a payload
abbrev pub started : ℕ → ℕ → ActiveEntity
started shard payload = record { shard = shard; log = payload ∷ [] }

-- an active entity with one more payload
abbrev pub with_payload : ℕ → ActiveEntity → ActiveEntity
with_payload payload active = record active { log = active.log ++ payload ∷ [] }

-- what an entity is after a delivery
abbrev pub delivered : ℕ → ℕ → Option ActiveEntity → ActiveEntity
delivered shard payload None = started shard payload
delivered shard payload (Some active) = with_payload payload active

abbrev pub after_delivery : ActiveEntities → ℕ → List ℕ → ℕ → ActiveEntities
after_delivery entities shard entity payload = map.insert entities entity (delivered shard payload (map.get entities entity))

abbrev pub is_elsewhere : ℕ → List ℕ × ActiveEntity → Bool
is_elsewhere shard pair = not (pair.1.shard == shard)

-- those that are of another shard
abbrev pub without_shard : ActiveEntities → ℕ → ActiveEntities
without_shard entities shard = map.from_sorted (filter (is_elsewhere shard) (map.entries entities))
