use Rattle.std.proofs.Common.{None}
use Rattle.ak_field.specs.Reading.{items_at}
use Rattle.ak_field.specs.Lists.{report_at}
use Rattle.ak_field.proofs.Items.{Reached}
use Rattle.ak_field.proofs.fields.Fields.some_reports.Given as goal

abbrev pub invariant-reports : goal.invariant-reports
invariant-reports l = Reached report_at l.reports.items l.many l.counter l.self (items_at report_at None l.many l.fn.self)
