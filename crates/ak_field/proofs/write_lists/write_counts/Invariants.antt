use Rattle.std.specs.FinMap as map
use Rattle.ak_field.specs.Spelling.{counted}
use Rattle.ak_field.proofs.Written.{Written}
use Rattle.ak_field.proofs.write_lists.write_counts.Given as goal

abbrev pub invariant-counts : goal.invariant-counts
invariant-counts l = Written counted (map.entries l.counts) l.fn.out.items l.index l.out.items
