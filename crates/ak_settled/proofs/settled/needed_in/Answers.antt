use Rattle.std.proofs.Common.{IsTrue, All, true≢false, sym, subst, ◌∙◌, arith}
use Rattle.std.specs.FinMap as map
use Rattle.ak_address.specs.Uniques.{no_one, has, set_of, with_one}
use Rattle.ak_address.proofs.Failing.{on_err_not}
use Rattle.ak_address.proofs.CountersLaws.{set_walked}
use Rattle.ak_member.proofs.Folds.{kept_none, set_of_none, fold_next, fold_end}
use Rattle.ak_settled.specs.Settled.{needed_pairs}
use Rattle.ak_settled.specs.Ticks.{counts_of}
use Rattle.ak_settled.proofs.SettledLemmas.{keeps_needed}
use Rattle.ak_settled.proofs.settled.needed_in.Goals as goal

pub pairs-preserved : goal.pairs-preserved
pairs-preserved c =
    let counters = counts_of c.args.counters.now in
    fold_next (needed_pairs c.args.margin counters) (keeps_needed c.args.margin counters) with_one (map.entries c.args.members.now) c.pairs.pair c.pairs.them _ _ _ c.needed_at.ensures c.in_ok-insert_if_some.ensures.ok c.pairs.invariant

pub returns-clause-ok : goal.returns-clause-ok
returns-clause-ok c =
    let counters = counts_of c.args.counters.now in
    fold_end (needed_pairs c.args.margin counters) (keeps_needed c.args.margin counters) with_one (map.entries c.args.members.now) c.pairs.pair c.pairs.them _ (let past = map.len-entries c.args.members.now in omega arith) c.pairs.invariant
    ∙ set_walked (needed_pairs c.args.margin counters (map.entries c.args.members.now))

-- where it fails, there is one
pub returns-in_err-insert_if_some-clause-memory : goal.returns-in_err-insert_if_some-clause-memory
returns-in_err-insert_if_some-clause-memory c =
    let counters = counts_of c.args.counters.now in
    let kept = needed_pairs c.args.margin counters in
    let es = map.entries c.args.members.now in
    on_err_not _ (set_of (kept es)) no_one (λ none.
    let here = c.needed_at.ensures ∙ kept_none kept (keeps_needed c.args.margin counters) es c.pairs.pair (set_of_none (kept es) none) in
    true≢false (sym ((c.in_err-insert_if_some.ensures {u = tt}).present (subst (All (λ one. IsTrue (has c.pairs.them one))) (sym here) (λ k d lt. absurd (omega (arith, lt)))))))
