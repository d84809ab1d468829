use Rattle.std.proofs.Common.{◌≡◌, ◌<◌, ℕ, Some, length, slice_get}
use Rattle.ak_gossip.specs.declared.part.Part.{Part}
use Rattle.ak_gossip.specs.Parts.{IsPart}
use Rattle.ak_gossip.proofs.parts.each_valid.Given as goal

-- the parts so far are in their ranges
abbrev pub invariant-parts : goal.invariant-parts
invariant-parts l = (i : ℕ) (part : Part) → i < l.part-index → slice_get l.parts i ≡ Some part → IsPart (length l.parts) part
