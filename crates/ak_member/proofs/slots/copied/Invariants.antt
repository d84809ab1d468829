use Rattle.std.proofs.Common.{◌≡◌, take}
use Rattle.ak_member.proofs.slots.copied.Given as goal

-- as many as were seen
abbrev pub invariant-slots : goal.invariant-slots
invariant-slots l = l.copy.entries ≡ take l.slot l.slots.entries
