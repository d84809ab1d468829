use Rattle.std.proofs.Common.{None}
use Rattle.std.proofs.lemmas.Result.{err_from_is_err_and}
use Rattle.ak_field.specs.Reading.{items_at}
use Rattle.ak_field.specs.Lists.{report_at}
use Rattle.ak_field.proofs.Items.{goes_on, ends, is_done}
use Rattle.ak_field.proofs.fields.Fields.some_reports.Goals as goal

pub returns-in_err-add_report : goal.returns-in_err-add_report
returns-in_err-add_report c =
    let p = err_from_is_err_and c.from_residual.result c.from_residual.ensures.1 in
    rw (p.1, p.2) (ends report_at c.in_err-add_report.field-0.0 c.reports.reports.items c.args.many c.reports.counter c.reports.self (items_at report_at None c.args.many c.args.self.now) c.reports-test.true c.in_err-add_report.ensures c.reports.invariant)

pub reports-preserved : goal.reports-preserved
reports-preserved c =
    let added = c.in_ok-add_report.ensures in
    goes_on report_at c.reports.reports.items c.add_report.new.reports.items c.args.many c.reports.counter c.reports.self c.add_report.new.self (items_at report_at None c.args.many c.args.self.now) c.reports-test.true added.0 added.1 added.2 c.reports.invariant

pub returns : goal.returns
returns c = is_done report_at c.reports.reports.items c.args.many c.reports.counter c.reports.self (items_at report_at None c.args.many c.args.self.now) c.reports-test.false c.reports.invariant
