use Rattle.std.proofs.Common.{◌≡◌, ◌++◌, map, take}
use Rattle.std.specs.FinMap as finmap
use Rattle.ak_report.specs.ActionText.{count_text}
use Rattle.ak_report.proofs.TextLemmas.{prefix}
use Rattle.ak_report.proofs.report.print_version.Given as goal

-- by those that are printed, since whether a separator stands before the next one goes by them
abbrev pub invariant-counts : goal.invariant-counts
invariant-counts l = l.out.items ≡ l.initial.out.items ++ prefix (map count_text (take l.index (finmap.entries l.version)))
