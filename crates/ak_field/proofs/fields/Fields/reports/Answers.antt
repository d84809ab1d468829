use Rattle.std.specs.Global.{Global}
use Rattle.std.proofs.lemmas.Result.{err_from_is_err_and}
use Rattle.std.specs.declared.vec.Vec.{Vec}
use Rattle.ak_shard_id.specs.declared.report.Report.{Report}
use Rattle.ak_field.specs.Lists.{report_count_at}
use Rattle.ak_field.proofs.Numbered.{a_report_count, takes_none}
use Rattle.ak_field.proofs.fields.Fields.reports.Goals as goal

pub returns-in_err-many-clause-memory : goal.returns-in_err-many-clause-memory
returns-in_err-many-clause-memory c =
    let p = err_from_is_err_and c.from_residual.result c.from_residual.ensures.1 in
    rw (p.1, p.2) (takes_none (Vec Report Global) c.in_err-many.field-0.0 (report_count_at c.args.self.now) (report_count_at c.args.self.now) (a_report_count c.args.self.now) c.in_err-many.ensures)
