use Rattle.std.proofs.Common.{◌≡◌, ◌++◌, drop}
use Rattle.ak_address.specs.Uniques.{in_order}
use Rattle.ak_report.specs.ActionText.{spaced_text}
use Rattle.ak_report.proofs.report.print_spaced.Given as goal

-- what is printed so far, and the processes that are left: each has its space, so that no index matters
abbrev pub invariant-processes : goal.invariant-processes
invariant-processes l = l.out.items ++ spaced_text (drop l.index (in_order l.who)) ≡ l.initial.out.items ++ spaced_text (in_order l.who)
