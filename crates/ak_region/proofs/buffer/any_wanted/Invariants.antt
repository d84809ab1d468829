use Rattle.std.proofs.Common.{◌≡◌, drop}
use Rattle.ak_region.specs.Stored.{all_slots}
use Rattle.ak_region.specs.Turns.{wanted_among}
use Rattle.ak_region.proofs.buffer.any_wanted.Given as goal

-- the messages that are left want what all want
abbrev pub invariant-messages : goal.invariant-messages
invariant-messages l =
    wanted_among l.division (all_slots l.shards l.told) (drop l.index l.buffer.items) ≡ wanted_among l.division (all_slots l.shards l.told) l.buffer.items
