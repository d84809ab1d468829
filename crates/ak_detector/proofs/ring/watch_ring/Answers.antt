use Rattle.std.proofs.Common.{take, sym, ap, ◌∙◌}
use Rattle.std.specs.List.{fold}
use Rattle.std.specs.FinMap as map
use Rattle.ak_address.specs.Uniques.{no_one, with_one}
use Rattle.ak_address.proofs.Failing.{on_err_not}
use Rattle.ak_detector.specs.Detector.{most_watched, watch_ring}
use Rattle.ak_detector.specs.Sides.{names_of, run}
use Rattle.ak_detector.proofs.RingLaws.{ring_made, ring_none, run_to_end}
use Rattle.ak_detector.proofs.ring.watch_ring.Goals as goal

pub returns-clause-ok : goal.returns-clause-ok
returns-clause-ok c =
    ring_made c.args.me.now c.args.members.now c.sides-before.result.0 c.sides-before.result.1 c.in_ok-left.left c.uniques-end.result c.add_run.new.ring _
    c.sides-before.ensures.before c.sides-before.ensures.after c.uniques-end.ensures (c.in_ok-left.ensures {u = tt}).ok.0
    ((c.in_ok-left.ensures {u = tt}).ok.1 ∙ ap (λ ring. fold with_one ring (take most_watched (names_of (run c.sides-before.result.1 c.uniques-end.result (map.entries c.args.members.now))))) c.empty-ring.ensures)
    (c.in_ok-add_run.ensures {u = tt}).ok.1

-- where it fails, a member is on that side
pub returns-in_err-left-clause-memory : goal.returns-in_err-left-clause-memory
returns-in_err-left-clause-memory c =
    on_err_not _ (watch_ring c.args.me.now c.args.members.now) no_one (λ none.
    (c.in_err-left.ensures {u = tt}).memory (ap names_of (run_to_end c.args.members.now c.sides-before.result.1 c.uniques-end.result c.uniques-end.ensures) ∙ sym c.sides-before.ensures.after ∙ (ring_none _ _ none).0))

pub returns-in_err-add_run-clause-memory : goal.returns-in_err-add_run-clause-memory
returns-in_err-add_run-clause-memory c =
    on_err_not _ (watch_ring c.args.me.now c.args.members.now) no_one (λ none.
    (c.in_err-add_run.ensures {u = tt}).memory (sym c.sides-before.ensures.before ∙ (ring_none _ _ none).1))
