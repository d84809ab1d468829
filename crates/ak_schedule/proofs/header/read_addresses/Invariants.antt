use Rattle.std.proofs.Common.{length}
use Rattle.ak_schedule.specs.Line.{words}
use Rattle.ak_schedule.proofs.Listing.{SpelledSoFar}
use Rattle.ak_schedule.proofs.header.read_addresses.Given as goal

abbrev pub invariant-names : goal.invariant-names
invariant-names l = SpelledSoFar (words l.names) (words l.rest) l.listed.items

abbrev pub decreases-names : goal.decreases-names
decreases-names l = length l.rest
