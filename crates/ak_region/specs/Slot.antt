-- What is done with one shard at a node (Akka's Cluster Sharding, "How it works": messages are buffered while the home is not
-- known, and while a shard is handed off; allocation numbers, which fence late messages, are this project's).
use Rattle.std.specs.Prelude.{ℕ, max, nat_le, nat_lt, ◌==◌, Bool, true, false, not, ◌&&◌, ◌||◌, is_some, Option, None, Some, if◌then◌else◌}
use Rattle.std.specs.Ordering.{is_eq}
use Rattle.ak_address.specs.Unique.{UniqueModel, unique_cmp}
use Rattle.ak_member.specs.Standing.{Standings, is_member}
use Rattle.ak_region.specs.declared.slot.Hosting.{Hosting}
use Rattle.ak_region.specs.declared.slot.Hosting.TheVariants.{New, Again, Ignored}
use Rattle.ak_region.specs.Shards.{ShardSlot}

-- nothing was told of the shard yet
abbrev pub untold : ShardSlot
untold = record { hosted = None; mark = 0; held = false; home = None }

-- the shard is hosted here and not held: messages to it are delivered
abbrev pub receives : ShardSlot → Bool
receives slot = is_some slot.hosted && not slot.held

-- a known home, where it is another node
abbrev pub other_than : UniqueModel → Option UniqueModel → Option UniqueModel
other_than me None = None
other_than me (Some home) = if is_eq (unique_cmp home me) then None else Some home

-- the other node to which messages to the shard go, where it is not held
abbrev pub other_home : UniqueModel → ShardSlot → Option UniqueModel
other_home me slot = if slot.held then None else other_than me slot.home

-- messages that wait for the shard may go
abbrev pub can_flush : UniqueModel → ShardSlot → Bool
can_flush me slot = receives slot || is_some (other_home me slot)

-- the first process, where there is one, is the second
abbrev pub is_some_unique : Option UniqueModel → UniqueModel → Bool
is_some_unique None who = false
is_some_unique (Some home) who = is_eq (unique_cmp home who)

-- the coordinator told the home: the hold ends
abbrev pub at_home : UniqueModel → ShardSlot → ShardSlot
at_home home slot = record slot { held = false; home = Some home }

-- the home is known to be there, and the shard is not held: that the coordinator tells it changes nothing
abbrev pub is_known_at : UniqueModel → ShardSlot → Bool
is_known_at home slot = not slot.held && is_some_unique slot.home home

-- What comes of the order to host the shard with a number: it is hosted so already; or it is not hosted, and the number is
-- above its mark; else the order is an old one.
abbrev pub host_of : ℕ → Option ℕ → Bool → Hosting
host_of number None newer = if newer then New else Ignored
host_of number (Some hosted) newer = if hosted == number then Again else Ignored

abbrev pub host_answer : ℕ → ShardSlot → Hosting
host_answer number slot = host_of number slot.hosted (nat_lt slot.mark number)

-- newly hosted: at home here, with the number as its mark, and not held
abbrev pub after_host : UniqueModel → ℕ → Hosting → ShardSlot → ShardSlot
after_host me number New slot = record { hosted = Some number; mark = number; held = false; home = Some me }
after_host me number Again slot = slot
after_host me number Ignored slot = slot

-- a hand-off begins: the shard is held, and its home is forgotten
abbrev pub begun : ShardSlot → ShardSlot
begun slot = record slot { held = true; home = None }

-- the shard is hosted with at most the number of the hand-off
abbrev pub is_given_up : ℕ → Option ℕ → Bool
is_given_up number None = false
is_given_up number (Some hosted) = nat_le hosted number

abbrev pub gives_up : ℕ → ShardSlot → Bool
gives_up number slot = is_given_up number slot.hosted

-- after a hand-off the mark is at least its number, and what was hosted with at most that number is hosted no more
abbrev pub handed_off : ℕ → ShardSlot → ShardSlot
handed_off number slot = record slot { hosted = if gives_up number slot then None else slot.hosted; mark = max slot.mark number }

-- a known home that is a member
abbrev pub member_home : Standings → Option UniqueModel → Option UniqueModel
member_home s None = None
member_home s (Some home) = if is_member s home then Some home else None

-- a home that is no member is forgotten
abbrev pub without_stranger : Standings → ShardSlot → ShardSlot
without_stranger s slot = record slot { home = member_home s slot.home }
