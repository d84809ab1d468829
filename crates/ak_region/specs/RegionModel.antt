-- What a node knows of all shards, and the messages that wait there, as a value.
use Rattle.std.specs.Prelude.{◌≡◌, ℕ, ◌≤◌, List, length, refl}
use Rattle.std.specs.Coded.{Coded, code_by, coded×, coded_ℕ, coded_list}
use Rattle.ak_shard_id.specs.Division.{DivisionModel, coded_division, many_shards}
use Rattle.ak_region.specs.Shards.{ShardSlot, coded_slot}

-- a message that waits: the bytes of the entity's id, and the payload
pub record Message : Type 0 where
  pub entity : List ℕ
  pub payload : ℕ

abbrev pub coded_message : Coded Message
coded_message = code_by (List ℕ × ℕ) (coded× (coded_list coded_ℕ) coded_ℕ) (λ m. (m.entity, m.payload)) (λ p. record { entity = p.0; payload = p.1 }) (λ _. refl)

-- how entities are divided, the shards in their order from shard 0 on, what waits, the first message first, and how many messages may
-- wait
pub record RegionModel : Type 0 where
  pub division : DivisionModel
  pub slots : List ShardSlot
  pub messages : List Message
  pub most : ℕ

abbrev pub coded_region : Coded RegionModel
coded_region =
    code_by (DivisionModel × (List ShardSlot × (List Message × ℕ)))
    (coded× coded_division (coded× (coded_list coded_slot) (coded× (coded_list coded_message) coded_ℕ)))
    (λ r. (r.division, (r.slots, (r.messages, r.most))))
    (λ p. record { division = p.0; slots = p.1.0; messages = p.1.1.0; most = p.1.1.1 })
    (λ _. refl)

-- there are 1 to 1000 shards, those of the division, and no more messages wait than may
pub record IsRegion (region : RegionModel) : Type 0 where
  pub some : 1 ≤ length region.slots
  pub each : 1 ≤ region.division.each
  pub all : length region.slots ≡ many_shards region.division
  pub few : length region.slots ≤ 1000
  pub within : length region.messages ≤ region.most
