-- How the messages that wait are walked.
use Rattle.std.specs.Prelude.{ℕ, not, List, [], ◌∷◌, ◌++◌, length, map, slice_index_or, if◌then◌else◌}
use Rattle.std.specs.List.{filter}
use Rattle.ak_shard_id.specs.Division.{DivisionModel, shard_in}
use Rattle.ak_region.specs.declared.region.Offered.{Offered}
use Rattle.ak_region.specs.declared.region.Offered.TheVariants.{Delivered, Forwarded, Buffered, Dropped}
use Rattle.ak_region.specs.Shards.{ShardSlot}
use Rattle.ak_region.specs.Slot.{untold, receives}
use Rattle.ak_region.specs.RegionModel.{Message}
use Rattle.ak_region.specs.Region.{is_for, firsts}

-- a buffered message goes to the end
abbrev pub after_wait : Offered → Message → List Message → List Message
after_wait (Delivered entity) message messages = messages
after_wait (Forwarded home entity) message messages = messages
after_wait Buffered message messages = messages ++ message ∷ []
after_wait (Dropped entity) message messages = messages

-- the first message had its turn: what is left, and what goes
abbrev pub turn_left : DivisionModel → ℕ → List Message → List Message
turn_left division shard [] = []
turn_left division shard (message ∷ messages) = if is_for division shard message then messages else messages ++ message ∷ []

abbrev pub turn_gone : DivisionModel → ℕ → List Message → List Message
turn_gone division shard [] = []
turn_gone division shard (message ∷ messages) = if is_for division shard message then message ∷ [] else []

-- the shards of these messages that do not receive, each once
abbrev pub wanted_among : DivisionModel → List ShardSlot → List Message → List ℕ
wanted_among division slots messages =
    firsts (filter (λ shard. not (receives (slice_index_or slots shard untold))) (map (λ (message : Message). shard_in division message.entity) messages))
