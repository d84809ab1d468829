use Rattle.std.proofs.Common.{◌≡◌, drop}
use Rattle.ak_coordinator.specs.Coordinator.{learnt_all}
use Rattle.ak_coordinator.proofs.coordinator.learn_each.Given as goal

-- with the reports that are left, all are learnt
abbrev pub invariant-reports : goal.invariant-reports
invariant-reports l = learnt_all l.asking l.from (drop l.report-index l.reports) l.entries ≡ learnt_all l.asking l.from l.reports l.initial.entries
