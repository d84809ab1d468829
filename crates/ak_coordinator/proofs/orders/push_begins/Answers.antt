use Rattle.std.proofs.Common.{[], length, option_to_list, ◌+◌, ◌++◌, map, drop, append_assoc, append-nil, option_copied, sym, ap, ◌∙◌, arith}
use Rattle.ak_address.specs.Uniques.{in_order}
use Rattle.std.proofs.lemmas.List.{length-map, nil_from_length}
use Rattle.ak_address.proofs.Failing.{on_err_not}
use Rattle.ak_address.proofs.UniquesLaws.{length-in_order}
use Rattle.ak_member.proofs.MemberLemmas.{kept_at_end}
use Rattle.ak_member.proofs.Folds.{kept_none, keeps_all}
use Rattle.ak_coordinator.specs.Tick.{begin_order}
use Rattle.ak_coordinator.proofs.LoadLemmas.{begins_next}
use Rattle.ak_coordinator.proofs.orders.push_begins.Goals as goal

pub waits-preserved : goal.waits-preserved
waits-preserved c =
    let f = begin_order c.args.shard c.args.number in
    let whos = in_order c.args.waits.now in
    ap (λ l. l ++ map f (drop (c.waits.index + 1) whos)) c.in_ok-push_begin.ensures.ok
    ∙ append_assoc c.waits.orders.items _ _
    ∙ ap (λ l. c.waits.orders.items ++ l) (begins_next f whos c.waits.index (option_copied c.at.result) c.at.ensures)
    ∙ c.waits.invariant

pub returns-clause-ok : goal.returns-clause-ok
returns-clause-ok c =
    let f = begin_order c.args.shard c.args.number in
    let whos = in_order c.args.waits.now in
    sym (append-nil c.waits.orders.items)
    ∙ ap (λ l. c.waits.orders.items ++ map f l) (sym (kept_at_end (λ xs. xs) keeps_all whos c.waits.index (let many = length-in_order c.args.waits.now in omega arith)))
    ∙ c.waits.invariant

-- where it fails, somebody is waited for
pub returns-in_err-push_begin-clause-memory : goal.returns-in_err-push_begin-clause-memory
returns-in_err-push_begin-clause-memory c =
    let f = begin_order c.args.shard c.args.number in
    let whos = in_order c.args.waits.now in
    on_err_not c.from_residual.result (map f whos) [] (λ none.
    let nobody = nil_from_length whos (sym (length-map whos f) ∙ ap length none) in
    c.in_err-push_begin.ensures.memory (ap option_to_list c.at.ensures ∙ kept_none (λ xs. xs) keeps_all whos c.waits.index nobody))
