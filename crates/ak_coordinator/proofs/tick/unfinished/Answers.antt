use Rattle.std.proofs.Common.{IsTrue, All, true≢false, sym, subst, ◌∙◌, arith}
use Rattle.std.specs.List.{filter}
use Rattle.ak_address.specs.Uniques.{no_one, has, set_of, with_one, in_order}
use Rattle.ak_address.proofs.Failing.{on_err_not}
use Rattle.ak_address.proofs.CountersLaws.{set_walked}
use Rattle.ak_address.proofs.UniquesLaws.{length-in_order}
use Rattle.ak_member.proofs.Folds.{kept_none, set_of_none, fold_next, fold_end, keeps_filtered, keeps_all}
use Rattle.ak_coordinator.specs.Tick.{is_unfinished}
use Rattle.ak_coordinator.proofs.tick.unfinished.Goals as goal

pub whos-preserved : goal.whos-preserved
whos-preserved c =
    let p = is_unfinished c.args.margin c.args.settled.now.view in
    fold_next (filter p) (keeps_filtered (λ xs. xs) keeps_all p) with_one (in_order c.args.whos.now) c.whos.index c.whos.left _ _ _ c.unfinished_at-who.ensures c.in_ok-insert_if_some.ensures.ok c.whos.invariant

pub returns-clause-ok : goal.returns-clause-ok
returns-clause-ok c =
    let p = is_unfinished c.args.margin c.args.settled.now.view in
    fold_end (filter p) (keeps_filtered (λ xs. xs) keeps_all p) with_one (in_order c.args.whos.now) c.whos.index c.whos.left _ (let many = length-in_order c.args.whos.now in omega arith) c.whos.invariant
    ∙ set_walked (filter p (in_order c.args.whos.now))

-- where it fails, there is one
pub returns-in_err-insert_if_some-clause-memory : goal.returns-in_err-insert_if_some-clause-memory
returns-in_err-insert_if_some-clause-memory c =
    let p = is_unfinished c.args.margin c.args.settled.now.view in
    let whos = in_order c.args.whos.now in
    on_err_not c.from_residual.result (set_of (filter p whos)) no_one (λ none.
    let here = c.unfinished_at-who.ensures ∙ kept_none (filter p) (keeps_filtered (λ xs. xs) keeps_all p) whos c.whos.index (set_of_none (filter p whos) none) in
    true≢false (sym ((c.in_err-insert_if_some.ensures {u = tt}).present (subst (All (λ one. IsTrue (has c.whos.left one))) (sym here) (λ k d lt. absurd (omega (arith, lt)))))))
