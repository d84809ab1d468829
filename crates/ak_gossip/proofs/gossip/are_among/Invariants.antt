use Rattle.std.proofs.Common.{◌≡◌, ◌≤◌, ◌<◌, ℕ, true, slice_get, Some}
use Rattle.ak_address.specs.Unique.{UniqueModel}
use Rattle.ak_address.specs.Uniques.{has, in_order}
use Rattle.ak_gossip.proofs.gossip.are_among.Given as goal

-- so many of the others were found
abbrev pub invariant-seen : goal.invariant-seen
invariant-seen l = record {
  few : l.found ≤ l.index;
  each : (k : ℕ) (who : UniqueModel) → k < l.found → slice_get (in_order l.others) k ≡ Some who → has l.fn.seen who ≡ true;
}
