use Rattle.std.proofs.Common.{IsTrue, All, true≢false, sym, subst, ◌∙◌, arith}
use Rattle.std.specs.FinMap as map
use Rattle.ak_address.specs.Uniques.{no_one, has, set_of, with_one}
use Rattle.ak_address.proofs.Failing.{on_err_not}
use Rattle.ak_address.proofs.CountersLaws.{set_walked}
use Rattle.ak_member.proofs.Folds.{kept_none, set_of_none, fold_next, fold_end}
use Rattle.ak_detector.specs.Sides.{above_pairs}
use Rattle.ak_detector.proofs.DetectorLemmas.{keeps_above}
use Rattle.ak_detector.proofs.detector.silent_in.Goals as goal

pub pairs-preserved : goal.pairs-preserved
pairs-preserved c =
    fold_next (above_pairs c.args.deadline) (keeps_above c.args.deadline) with_one (map.entries c.args.counters.now) c.pairs.pair c.pairs.them _ _ _ c.silent_at.ensures c.in_ok-insert_if_some.ensures.ok c.pairs.invariant

pub returns-clause-ok : goal.returns-clause-ok
returns-clause-ok c =
    fold_end (above_pairs c.args.deadline) (keeps_above c.args.deadline) with_one (map.entries c.args.counters.now) c.pairs.pair c.pairs.them _ (let past = map.len-entries c.args.counters.now in omega arith) c.pairs.invariant
    ∙ set_walked (above_pairs c.args.deadline (map.entries c.args.counters.now))

-- where it fails, there is one
pub returns-in_err-insert_if_some-clause-memory : goal.returns-in_err-insert_if_some-clause-memory
returns-in_err-insert_if_some-clause-memory c =
    let kept = above_pairs c.args.deadline in
    let es = map.entries c.args.counters.now in
    on_err_not _ (set_of (kept es)) no_one (λ none.
    let here = c.silent_at.ensures ∙ kept_none kept (keeps_above c.args.deadline) es c.pairs.pair (set_of_none (kept es) none) in
    true≢false (sym ((c.in_err-insert_if_some.ensures {u = tt}).present (subst (All (λ one. IsTrue (has c.pairs.them one))) (sym here) (λ k d lt. absurd (omega (arith, lt)))))))
