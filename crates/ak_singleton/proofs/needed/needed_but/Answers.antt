use Rattle.std.proofs.Common.{true≢false, sym, ap, ◌∙◌, arith}
use Rattle.std.proofs.lemmas.Result.{err_from_is_err_and}
use Rattle.std.specs.FinMap as map
use Rattle.ak_address.specs.Uniques.{with_one}
use Rattle.ak_address.proofs.CountersLaws.{set_walked}
use Rattle.ak_member.proofs.Folds.{fold_next, fold_end}
use Rattle.ak_settled.specs.Settled.{standings_of}
use Rattle.ak_singleton.proofs.NeededLemmas.{kept_but, keeps_but, left_is, somebody_left}
use Rattle.ak_singleton.proofs.needed.needed_but.Goals as goal

pub returns-in_err-insert_if_some-clause-memory : goal.returns-in_err-insert_if_some-clause-memory
returns-in_err-insert_if_some-clause-memory c =
    let view = c.args.settled.now.view in
    let others = c.args.others.now in
    let pairs = map.entries (standings_of view) in
    let p = err_from_is_err_and c.from_residual.result c.from_residual.ensures.1 in
    rw p.1 (somebody_left (kept_but c.args.margin view others) (keeps_but c.args.margin view others) pairs c.pairs.pair c.pairs.them _ _ c.left_at.ensures
    (c.pairs.invariant ∙ set_walked (kept_but c.args.margin view others pairs) ∙ left_is c.args.margin view others) (λ all. true≢false (sym (c.in_err-insert_if_some.ensures.present all))))

pub pairs-preserved : goal.pairs-preserved
pairs-preserved c =
    let view = c.args.settled.now.view in
    let others = c.args.others.now in
    fold_next (kept_but c.args.margin view others) (keeps_but c.args.margin view others) with_one (map.entries (standings_of view)) c.pairs.pair c.pairs.them _ _ _ c.left_at.ensures c.in_ok-insert_if_some.ensures.ok c.pairs.invariant

pub returns-clause-them : goal.returns-clause-them
returns-clause-them c =
    let view = c.args.settled.now.view in
    let others = c.args.others.now in
    let pairs = map.entries (standings_of view) in
    fold_end (kept_but c.args.margin view others) (keeps_but c.args.margin view others) with_one pairs c.pairs.pair c.pairs.them _ (let past = map.len-entries (standings_of view) in let many = c.uniques-pair-end.ensures ∙ ap (λ s. map.len s) c.members.ensures in omega arith) c.pairs.invariant
    ∙ set_walked (kept_but c.args.margin view others pairs)
    ∙ left_is c.args.margin view others
