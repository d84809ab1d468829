use Rattle.std.proofs.Common.{ℕ, ◌+◌, List, Result, refl, sym, subst, drop, ◌∙◌}
use Rattle.std.proofs.lemmas.List.{drop_all}
use Rattle.std.proofs.lemmas.Result.{err_from_is_err_and}
use Rattle.std.specs.declared.alloc.AllocError.{AllocError}
use Rattle.ak_turns.specs.TurnsContracts.{TellsAll}
use Rattle.ak_wire.specs.Wire.{envelope_of, sent}
use Rattle.ak_wire.specs.declared.action.Action.{Action}
use Rattle.ak_node.specs.Sends.{AreValid}
use Rattle.ak_turns.specs.Outside.{wire}
use Rattle.ak_turns.proofs.SendLemmas.{told_start, told_more, told_cut, told_all, valid_first, valid_rest, actions_from}
use Rattle.ak_turns.proofs.process.tell_all.Goals as goal

pub actions-init : goal.actions-init
actions-init g c = (told_start c.args.gossip.now c.args.first c.args.actions.now c.args.out.now.items _, c.requires.valid, refl)

pub tell_one-requires-clause-valid : goal.tell_one-requires-clause-valid
tell_one-requires-clause-valid g c =
    let is = actions_from c.args.actions.now c.actions.action-index c.action-item.result c.actions-test.true c.action-item.is in
    valid_first (envelope_of c.action-item.result) (sent (drop (c.actions.action-index + 1) c.args.actions.now)) (subst (λ (xs : List Action). AreValid xs) is c.actions.invariant.1)

pub returns-in_err-number-clause-tells : goal.returns-in_err-number-clause-tells
returns-in_err-number-clause-tells g c =
    let is = actions_from c.args.actions.now c.actions.action-index c.action-item.result c.actions-test.true c.action-item.is in
    let p = err_from_is_err_and c.from_residual.result c.from_residual.ensures.1 in
    subst (λ (r : Result ℕ AllocError). TellsAll r c.args.gossip.now c.args.first c.args.actions.now c.args.out.now.items c.tell_one.new.out.items
    (wire (g.L.Link.bound c.args.link.now) (g.L.Link.sends c.args.link.now) (g.L.Link.losses c.args.link.now) (g.L.Link.coming c.args.link.now))
    (wire (g.L.Link.bound c.tell_one.new.link) (g.L.Link.sends c.tell_one.new.link) (g.L.Link.losses c.tell_one.new.link) (g.L.Link.coming c.tell_one.new.link))) (sym p.1)
    (told_cut c.args.gossip.now c.args.first c.args.actions.now c.args.out.now.items _ c.actions.number (drop c.actions.action-index c.args.actions.now) (drop (c.actions.action-index + 1) c.args.actions.now)
    c.action-item.result c.actions.out.items c.tell_one.new.out.items _ _ _ _ c.actions.invariant.0 is c.in_err-number.ensures.tells)

pub actions-preserved : goal.actions-preserved
actions-preserved g c =
    let is = actions_from c.args.actions.now c.actions.action-index c.action-item.result c.actions-test.true c.action-item.is in (
      told_more c.args.gossip.now c.args.first c.args.actions.now c.args.out.now.items _ c.actions.number c.in_ok-number.number (drop c.actions.action-index c.args.actions.now) (drop (c.actions.action-index + 1) c.args.actions.now)
          c.action-item.result c.actions.out.items c.tell_one.new.out.items _ _ c.actions.invariant.0 is c.in_ok-number.ensures.tells,
      valid_rest (envelope_of c.action-item.result) (sent (drop (c.actions.action-index + 1) c.args.actions.now)) (subst (λ (xs : List Action). AreValid xs) is c.actions.invariant.1),
      c.tell_one.ensures.faults ∙ c.actions.invariant.2,
    )

pub returns-clause-tells : goal.returns-clause-tells
returns-clause-tells g c =
    told_all c.args.gossip.now c.args.first c.args.actions.now c.args.out.now.items _ c.actions.number (drop c.actions.action-index c.args.actions.now) c.actions.out.items _ c.actions.invariant.0 (drop_all c.actions.action-index c.args.actions.now c.actions-test.false)
