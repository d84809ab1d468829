use Rattle.std.proofs.Common.{sym, ap, ◌∙◌, arith}
use Rattle.std.specs.FinMap as map
use Rattle.std.specs.List.{list_any}
use Rattle.ak_address.specs.Uniques.{in_order}
use Rattle.ak_reach.specs.Reach.{row_has}
use Rattle.ak_reach.specs.Walk.{reports}
use Rattle.ak_reach.proofs.ReachLemmas.{any_found, any_passed, none_left}
use Rattle.ak_reach.proofs.rows.is_reported.Goals as goal

pub returns-then-reports : goal.returns-then-reports
returns-then-reports c =
    sym (any_found c.args.rows.now c.args.subject.now (in_order c.args.observers.now) c.observers.index
    (ap (reports c.args.rows.now c.args.subject.now) (sym c.at.ensures) ∙ sym c.reports.ensures ∙ c.if-reports.true))
    ∙ c.observers.invariant

pub observers-preserved : goal.observers-preserved
observers-preserved c =
    any_passed c.args.rows.now c.args.subject.now (in_order c.args.observers.now) c.observers.index
    (ap (reports c.args.rows.now c.args.subject.now) (sym c.at.ensures) ∙ sym c.reports.ensures ∙ c.if-reports.false)
    ∙ c.observers.invariant

pub returns : goal.returns
returns c =
    sym (ap (list_any (λ observer. row_has (map.get c.args.rows.now observer) c.args.subject.now)) (none_left c.args.observers.now c.observers.index (omega (arith, c.len-index-end.ensures))))
    ∙ c.observers.invariant
