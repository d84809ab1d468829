use Rattle.std.proofs.Common.{◌≢◌, [], subst, arith}
use Rattle.std.proofs.lemmas.Result.{err_from_is_err_and}
use Rattle.ak_region.specs.Region.{report_of, reports_from}
use Rattle.ak_region.proofs.EmptyLemmas.{reports_stand}
use Rattle.ak_region.proofs.walks.reports_of.Goals as goal

pub returns-in_err-push_report-clause-memory : goal.returns-in_err-push_report-clause-memory
returns-in_err-push_report-clause-memory c =
    let p = err_from_is_err_and c.from_residual.result c.from_residual.ensures.1 in
    rw p.1 (reports_stand c.slots.reports.items (reports_from 0 c.args.slots.now) c.args.slots.now c.slots.shard c.index-slots-shard.result (omega arith) c.slots.invariant (subst (λ slot. report_of c.slots.shard slot ≢ []) c.index-slots-shard.is c.in_err-push_report.ensures.memory))
