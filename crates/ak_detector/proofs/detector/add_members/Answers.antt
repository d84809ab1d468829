use Rattle.std.proofs.Common.{ap, arith}
use Rattle.std.specs.FinMap as map
use Rattle.ak_address.specs.Unique.{unique_cmp}
use Rattle.ak_address.proofs.Failing.{on_err_not}
use Rattle.ak_address.proofs.UniquesLaws.{length-in_order}
use Rattle.std.specs.List.{filter}
use Rattle.ak_address.specs.Uniques.{no_one, how_many, with_one, in_order}
use Rattle.ak_member.specs.Standing.{is_member}
use Rattle.ak_member.proofs.Folds.{fold_next, fold_end}
use Rattle.ak_detector.proofs.DetectorLemmas.{keeps_those}
use Rattle.ak_detector.proofs.detector.add_members.Goals as goal

pub whos-preserved : goal.whos-preserved
whos-preserved c =
    fold_next (filter (is_member c.args.members.now)) (keeps_those (is_member c.args.members.now)) with_one (in_order c.args.whos.now) c.whos.index c.whos.them _ _ _ c.member_at.ensures c.in_ok-insert_if_some.ensures.ok c.whos.invariant

pub returns-clause-ok : goal.returns-clause-ok
returns-clause-ok c =
    fold_end (filter (is_member c.args.members.now)) (keeps_those (is_member c.args.members.now)) with_one (in_order c.args.whos.now) c.whos.index c.whos.them _ (let past = length-in_order c.args.whos.now in omega arith) c.whos.invariant

-- where it fails, there is one
pub returns-in_err-insert_if_some-clause-memory : goal.returns-in_err-insert_if_some-clause-memory
returns-in_err-insert_if_some-clause-memory c =
    on_err_not _ c.args.whos.now no_one (λ none. absurd (omega (arith, c.whos-test.true, c.len-index-end.ensures, ap how_many none, map.len-empty unique_cmp (Unit {0}))))
