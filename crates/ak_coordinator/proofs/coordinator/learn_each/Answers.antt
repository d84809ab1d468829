use Rattle.std.proofs.Common.{false, get_or, drop, ◌∙◌, arith}
use Rattle.std.proofs.lemmas.Result.{err_from_is_err_and}
use Rattle.std.proofs.lemmas.List.{get_or_default, length-set}
use Rattle.ak_shard_id.specs.declared.report.Report.{Report}
use Rattle.ak_coordinator.proofs.CoordinatorLaws.{learnt_as_many}
use Rattle.ak_coordinator.proofs.coordinator.learn_each.Goals as goal

pub at_mut-requires : goal.at_mut-requires
at_mut-requires c =
    let d : Report = record { shard = 0; number = 0; hosted = false } in
    let report = get_or c.args.reports.now c.reports.report-index d in
    let lt = c.requires report (c.reports.report-index, c.reports-test.true, get_or_default c.args.reports.now c.reports.report-index report d c.reports-test.true) in
    let many = learnt_as_many c.args.asking c.args.from.now (drop c.reports.report-index c.args.reports.now) c.args.reports.now c.reports.entries c.args.entries.now c.reports.invariant in
    omega arith

pub returns-in_err-learn-clause-memory : goal.returns-in_err-learn-clause-memory
returns-in_err-learn-clause-memory c =
    let d : Report = record { shard = 0; number = 0; hosted = false } in
    let p = err_from_is_err_and c.from_residual.result c.from_residual.ensures.1 in
    rw p.1 (get_or c.args.reports.now c.reports.report-index d, (c.reports.report-index, c.reports-test.true, get_or_default c.args.reports.now c.reports.report-index (get_or c.args.reports.now c.reports.report-index d) d c.reports-test.true), c.in_err-learn.ensures.memory)

pub returns-in_err-learn-clause-many : goal.returns-in_err-learn-clause-many
returns-in_err-learn-clause-many c =
    length-set c.reports.entries _ c.learn.new.self
    ∙ learnt_as_many c.args.asking c.args.from.now (drop c.reports.report-index c.args.reports.now) c.args.reports.now c.reports.entries c.args.entries.now c.reports.invariant

pub returns-clause-many : goal.returns-clause-many
returns-clause-many c =
    learnt_as_many c.args.asking c.args.from.now (drop c.reports.report-index c.args.reports.now) c.args.reports.now c.reports.entries c.args.entries.now c.reports.invariant
