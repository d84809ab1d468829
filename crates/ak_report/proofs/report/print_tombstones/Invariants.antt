use Rattle.std.proofs.Common.{◌≡◌, ◌≤◌, ◌++◌, map, drop}
use Rattle.std.specs.FinMap as finmap
use Rattle.ak_member.specs.Standing.{tombstone_pairs, tombstones_of}
use Rattle.ak_report.specs.ActionText.{listed_text, tombstone_text}
use Rattle.ak_report.proofs.TextLemmas.{rest_text}
use Rattle.ak_report.proofs.report.print_tombstones.Given as goal

-- what is printed so far, and the tombstones of the rows that are left; those printed are counted by themselves, since a row may have
-- none, and a separator stands between two that are printed
abbrev pub invariant-pairs : goal.invariant-pairs
invariant-pairs l = record {
  few : l.printed ≤ l.pair;
  so_far : l.out.items ++ rest_text l.printed (map tombstone_text (tombstone_pairs (drop l.pair (finmap.entries l.members)))) ≡ l.initial.out.items ++ listed_text (map tombstone_text (tombstones_of l.members));
}
