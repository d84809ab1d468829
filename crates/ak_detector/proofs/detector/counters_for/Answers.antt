use Rattle.std.proofs.Common.{ap, ◌∙◌, arith}
use Rattle.std.specs.FinMap as map
use Rattle.ak_address.specs.Unique.{unique_cmp}
use Rattle.ak_address.proofs.Failing.{on_err_not}
use Rattle.ak_address.specs.Uniques.{no_one, how_many, in_order}
use Rattle.ak_address.specs.Counters.{counter}
use Rattle.ak_address.proofs.CountersLaws.{each_walked}
use Rattle.ak_address.proofs.UniquesLaws.{length-in_order}
use Rattle.ak_member.proofs.Folds.{keeps_all, fold_next, fold_end}
use Rattle.ak_detector.proofs.DetectorLemmas.{pair_there}
use Rattle.ak_detector.proofs.detector.counters_for.Goals as goal

pub watched-preserved : goal.watched-preserved
watched-preserved c =
    fold_next (λ xs. xs) keeps_all (λ t who. map.insert t who (counter c.args.before.now who)) (in_order c.args.watched.now) c.watched.index c.watched.counters _ _ _ (pair_there _ _ c.at.ensures) c.in_ok-add_counter.ensures c.watched.invariant

pub returns-clause-ok : goal.returns-clause-ok
returns-clause-ok c =
    fold_end (λ xs. xs) keeps_all (λ t who. map.insert t who (counter c.args.before.now who)) (in_order c.args.watched.now) c.watched.index c.watched.counters _ (let past = length-in_order c.args.watched.now in omega arith) c.watched.invariant
    ∙ each_walked c.args.before.now (in_order c.args.watched.now) map.empty

-- where it fails, there is one
pub returns-in_err-add_counter-clause-memory : goal.returns-in_err-add_counter-clause-memory
returns-in_err-add_counter-clause-memory c =
    on_err_not _ c.args.watched.now no_one (λ none. absurd (omega (arith, c.watched-test.true, c.len-index-end.ensures, ap how_many none, map.len-empty unique_cmp (Unit {0}))))
