use Rattle.std.proofs.Common.{sym, ap, ◌∙◌, ◌+◌, drop, arith}
use Rattle.ak_address.specs.Uniques.{in_order}
use Rattle.ak_reach.specs.Reach.{reported}
use Rattle.ak_reach.specs.Walk.{with_reported, with_all_reported}
use Rattle.ak_reach.proofs.ReachLemmas.{with_left, all_with, none_left}
use Rattle.ak_address.proofs.Failing.{on_err}
use Rattle.ak_reach.proofs.UnreachableLaws.{some_of_those}
use Rattle.ak_reach.proofs.rows.reported_of.Goals as goal

pub subjects-preserved : goal.subjects-preserved
subjects-preserved c =
    let test = reported c.args.rows.now c.args.observers.now in
    let rest = in_order c.args.subjects.now in
    ap (with_all_reported test (drop (c.subjects.index + 1) rest)) ((c.in_ok-add_reported.ensures {u = tt}).ok ∙ ap (λ o. with_reported test o c.subjects.them) c.at.ensures)
    ∙ sym (with_left test rest c.subjects.index c.subjects.them)
    ∙ c.subjects.invariant

pub returns-clause-ok : goal.returns-clause-ok
returns-clause-ok c =
    let test = reported c.args.rows.now c.args.observers.now in
    sym (ap (λ rest. with_all_reported test rest c.subjects.them) (none_left c.args.subjects.now c.subjects.index (omega (arith, c.len-index-end.ensures))))
    ∙ c.subjects.invariant
    ∙ all_with test c.args.subjects.now

-- where it fails, there is one
pub returns-in_err-add_reported-clause-memory : goal.returns-in_err-add_reported-clause-memory
returns-in_err-add_reported-clause-memory c =
    on_err _ (some_of_those (reported c.args.rows.now c.args.observers.now) c.args.subjects.now c.subjects.index _ c.at.ensures (c.in_err-add_reported.ensures {u = tt}).memory)
