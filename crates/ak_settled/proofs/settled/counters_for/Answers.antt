use Rattle.std.proofs.Common.{[], ◌∙◌, arith}
use Rattle.std.specs.FinMap as map
use Rattle.ak_address.proofs.Failing.{on_err_not}
use Rattle.ak_member.proofs.Folds.{kept_none, fold_next, fold_end}
use Rattle.ak_settled.specs.Settled.{unconfirmed_pairs, unconfirmed}
use Rattle.ak_settled.specs.Ticks.{counts_of, with_unmarked}
use Rattle.ak_settled.proofs.SettledLemmas.{keeps_unconfirmed, counters_walked}
use Rattle.ak_settled.proofs.settled.counters_for.Goals as goal

pub pairs-preserved : goal.pairs-preserved
pairs-preserved c =
    fold_next unconfirmed_pairs keeps_unconfirmed (with_unmarked (counts_of c.args.before.now)) (map.entries c.args.members.now) c.pairs.pair c.pairs.counters _ _ _ c.unconfirmed_at.ensures c.in_ok-add_counter.ensures.ok c.pairs.invariant

pub returns-clause-ok : goal.returns-clause-ok
returns-clause-ok c =
    fold_end unconfirmed_pairs keeps_unconfirmed (with_unmarked (counts_of c.args.before.now)) (map.entries c.args.members.now) c.pairs.pair c.pairs.counters _ (let past = map.len-entries c.args.members.now in omega arith) c.pairs.invariant
    ∙ counters_walked (counts_of c.args.before.now) (unconfirmed c.args.members.now)

-- where it fails, there is one
pub returns-in_err-add_counter-clause-memory : goal.returns-in_err-add_counter-clause-memory
returns-in_err-add_counter-clause-memory c =
    on_err_not c.from_residual.result (unconfirmed c.args.members.now) [] (λ none.
    c.in_err-add_counter.ensures.memory (c.unconfirmed_at.ensures ∙ kept_none unconfirmed_pairs keeps_unconfirmed (map.entries c.args.members.now) c.pairs.pair none))
