-- What a node does for the shards (Akka's Cluster Sharding, "How it works").
use Rattle.std.specs.Prelude.{ℕ, ◌+◌, ◌==◌, nat_le, ⊤, Bool, not, List, [], ◌∷◌, ◌++◌, length, map, replicate, slice_index_or, slice_set, is_some, Option, None, Some, if◌then◌else◌}
use Rattle.std.specs.List.{filter, list_any}
use Rattle.ak_address.specs.Unique.{UniqueModel}
use Rattle.ak_member.specs.Standing.{Standings}
use Rattle.ak_shard_id.specs.Division.{DivisionModel, many_shards, shard_in}
use Rattle.ak_shard_id.specs.declared.report.Report.{Report}
use Rattle.ak_region.specs.declared.region.Offered.{Offered}
use Rattle.ak_region.specs.declared.region.Offered.TheVariants.{Delivered, Forwarded, Buffered, Dropped}
use Rattle.ak_region.specs.Shards.{ShardSlot}
use Rattle.ak_region.specs.Slot.{untold, receives, other_home, can_flush, without_stranger}
use Rattle.ak_region.specs.RegionModel.{RegionModel, Message}

-- nothing was told yet, and nothing waits
abbrev pub new_region : DivisionModel → ℕ → RegionModel
new_region division most = record { division = division; slots = replicate (many_shards division) untold; messages = []; most = most }

-- what is known of a shard
abbrev pub slot_of : RegionModel → ℕ → ShardSlot
slot_of region shard = slice_index_or region.slots shard untold

abbrev pub with_slot : RegionModel → ℕ → ShardSlot → RegionModel
with_slot region shard slot = record region { slots = slice_set region.slots shard slot }

-- the shard of an entity, and of a message that waits
abbrev pub entity_shard : RegionModel → List ℕ → ℕ
entity_shard region entity = shard_in region.division entity

abbrev pub is_full : RegionModel → Bool
is_full region = nat_le region.most (length region.messages)

-- A message without a place to go waits, where there is room.
abbrev pub kept : Bool → List ℕ → Option UniqueModel → Offered
kept full entity None = if full then Dropped entity else Buffered
kept full entity (Some home) = Forwarded home entity

-- The route of a message: to the entity, where its shard is hosted and not held; to the other node that is the shard's home,
-- where it is not held; else it waits, and where the buffer is full it is dropped.
abbrev pub route : UniqueModel → RegionModel → List ℕ → Offered
route me region entity =
    let slot = slot_of region (entity_shard region entity) in
    if receives slot then Delivered entity else kept (is_full region) entity (other_home me slot)

-- memory may be wanted for it: for the name of another home, or for room in the buffer
abbrev pub TakesRoom : Offered → Type 0
TakesRoom (Delivered entity) = ⊥
TakesRoom (Forwarded home entity) = ⊤
TakesRoom Buffered = ⊤
TakesRoom (Dropped entity) = ⊥

-- a buffered message goes to the end
abbrev pub after_offer : Offered → Message → RegionModel → RegionModel
after_offer (Delivered entity) message region = region
after_offer (Forwarded home entity) message region = region
after_offer Buffered message region = record region { messages = region.messages ++ message ∷ [] }
after_offer (Dropped entity) message region = region

-- a message waits for the shard
abbrev pub is_for : DivisionModel → ℕ → Message → Bool
is_for division shard message = shard_in division message.entity == shard

abbrev pub those_for : DivisionModel → ℕ → List Message → List Message
those_for division shard messages = filter (is_for division shard) messages

abbrev pub others_than_for : DivisionModel → ℕ → List Message → List Message
others_than_for division shard messages = filter (λ message. not (is_for division shard message)) messages

-- what leaves the buffer for a shard, where it is hosted or has its home at another node, and is not held
abbrev pub flushed : UniqueModel → ℕ → RegionModel → List Message
flushed me shard region = if can_flush me (slot_of region shard) then those_for region.division shard region.messages else []

abbrev pub after_flush : UniqueModel → ℕ → RegionModel → RegionModel
after_flush me shard region =
    record region { messages = if can_flush me (slot_of region shard) then others_than_for region.division shard region.messages else region.messages }

-- each number once, in the order of the first places
abbrev pub firsts : List ℕ → List ℕ
firsts [] = []
firsts (n ∷ ns) = n ∷ filter (λ m. not (m == n)) (firsts ns)

-- the shards of the messages that wait, in their order
abbrev pub waiting_shards : RegionModel → List ℕ
waiting_shards region = map (λ (message : Message). entity_shard region message.entity) region.messages

-- the shards for which a message waits and which do not receive here
abbrev pub wanted : RegionModel → List ℕ
wanted region = firsts (filter (λ shard. not (receives (slot_of region shard))) (waiting_shards region))

-- homes that are no members are forgotten
abbrev pub after_forget : Standings → RegionModel → RegionModel
after_forget s region = record region { slots = map (without_stranger s) region.slots }

abbrev pub hosts_any : RegionModel → Bool
hosts_any region = list_any (λ (slot : ShardSlot). is_some slot.hosted) region.slots

-- a shard is reported where its mark is not 0, with the mark, and whether it is hosted
abbrev pub report_of : ℕ → ShardSlot → List Report
report_of shard slot = if slot.mark == 0 then [] else record { shard = shard; number = slot.mark; hosted = is_some slot.hosted } ∷ []

-- the reports of the shards from a number on
abbrev pub reports_from : ℕ → List ShardSlot → List Report
reports_from shard [] = []
reports_from shard (slot ∷ slots) = report_of shard slot ++ reports_from (shard + 1) slots

abbrev pub reports : RegionModel → List Report
reports region = reports_from 0 region.slots
