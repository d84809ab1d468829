use Rattle.std.proofs.Common.{◌≡◌, drop}
use Rattle.std.specs.FinMap as map
use Rattle.std.specs.Map.{lookup}
use Rattle.ak_member.specs.Slots.{standings_of}
use Rattle.ak_member.proofs.SlotLemmas.{same_unique}
use Rattle.ak_member.proofs.slots.found_along.Given as goal

-- the process is in none of the slots so far
abbrev pub invariant-slots : goal.invariant-slots
invariant-slots l = map.get (standings_of l.slots.entries) l.who ≡ lookup (same_unique l.who) (drop l.slot l.slots.entries)
