use Rattle.std.proofs.Common.{◌≡◌, ◌++◌, map, take, drop}
use Rattle.ak_region.specs.Slot.{without_stranger}
use Rattle.ak_region.proofs.walks.forget_strangers.Given as goal

-- those before the index have forgotten strangers
abbrev pub invariant-slots : goal.invariant-slots
invariant-slots l = l.slots ≡ map (without_stranger l.members) (take l.slot-index l.initial.slots) ++ drop l.slot-index l.initial.slots
