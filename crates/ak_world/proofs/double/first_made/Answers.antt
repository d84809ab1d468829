use Rattle.std.proofs.Common.{Option, Some, sym, ap, ◌∙◌, subst}
use Rattle.std.specs.Option.{option_map}
use Rattle.std.proofs.lemmas.Option.{slice_get-get_or}
use Rattle.ak_wire.specs.declared.action.Action.{Action}
use Rattle.ak_world.specs.DoubleMark.{MadeBy}
use Rattle.ak_world.specs.declared.double.Double.{Double}
use Rattle.ak_world.specs.WorldContracts.{states, doubled_of}
use Rattle.ak_world.proofs.DoubleLoops.{starts_more, starts_first, starts_none}
use Rattle.ak_world.proofs.double.first_made.Goals as goal

pub returns-in-Some : goal.returns-in-Some
returns-in-Some c =
    let all = states c.args.nodes.now in
    let a = c.action-item.result in
    starts_first all c.args.acting c.args.number c.args.actions.now c.actions.action-index a (doubled_of c.in-Some.double)
    (slice_get-get_or c.args.actions.now c.actions.action-index a c.actions-test.true ∙ ap (λ (x : Action). Some x) (sym c.action-item.is)) c.actions.invariant
    (subst (λ (o : Option Double). MadeBy c.args.number all c.args.acting a (option_map doubled_of o)) c.in-Some.is (c.in_ok-double.ensures {u = tt}))

pub actions-preserved : goal.actions-preserved
actions-preserved c =
    let all = states c.args.nodes.now in
    let a = c.action-item.result in
    starts_more all c.args.acting c.args.number c.args.actions.now c.actions.action-index a
    (slice_get-get_or c.args.actions.now c.actions.action-index a c.actions-test.true ∙ ap (λ (x : Action). Some x) (sym c.action-item.is)) c.actions.invariant
    (subst (λ (o : Option Double). MadeBy c.args.number all c.args.acting a (option_map doubled_of o)) c.in_default.is (c.in_ok-double.ensures {u = tt}))

pub returns : goal.returns
returns c = starts_none (states c.args.nodes.now) c.args.acting c.args.number c.args.actions.now c.actions.action-index c.actions-test.false c.actions.invariant
