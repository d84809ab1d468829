use Rattle.std.proofs.Common.{None}
use Rattle.ak_field.proofs.Written.{report_fits}
use Rattle.ak_field.proofs.write_lists.write_reports.Goals as goal

pub write_each_report-requires : goal.write_each_report-requires
write_each_report-requires c = report_fits None c.args.list.now c.requires.each
