use Rattle.std.proofs.Common.{List, set, ap, arith}
use Rattle.std.proofs.Math.ListN.{length-set}
use Rattle.ak_node.specs.declared.node.State.{State}
use Rattle.ak_world.specs.WorldContracts.{state_of, states}
use Rattle.ak_world.proofs.WorldLemmas.{state-at, state-set, set-states, kept-scenes}
use Rattle.ak_world.proofs.AlikeRuns.{apart_given}
use Rattle.ak_world.proofs.world.Scene.give.Goals as goal

pub step_on-requires-clause-steps : goal.step_on-requires-clause-steps
step_on-requires-clause-steps c =
    c.requires.ready.few_steps c.args.index c.index_mut.result.now.state (state-at c.args.self.now.nodes.items c.args.index c.index_mut.result.now c.requires.index c.index_mut.ensures.value)

pub step_on-requires-clause-comes : goal.step_on-requires-clause-comes
step_on-requires-clause-comes c = c.requires.comes

pub keep-requires-clause-index : goal.keep-requires-clause-index
keep-requires-clause-index c =
    let same = length-set c.args.self.now.nodes.items c.args.index c.step_on.new.self in omega (arith, same, c.requires.index)

pub returns-clause-scenes : goal.returns-clause-scenes
returns-clause-scenes c =
    let w = state_of c.args.self.now in
    let nodes = c.args.self.now.nodes.items in
    let m = c.step_on.new.self in
    kept-scenes w (record w { nodes = states (set nodes c.args.index m) }) _ c.args.index c.args.event.now c.index_mut.result.now.state m.state c.in_ok-actions.actions _
    (state-at nodes c.args.index c.index_mut.result.now c.requires.index c.index_mut.ensures.value)
    c.in_ok-actions.ensures.ok.state_after c.in_ok-actions.ensures.ok.actions_done
    (ap (λ (xs : List State). record w { nodes = xs }) (set-states nodes c.args.index m))
    (c.keep.ensures.kept m.state (state-set nodes c.args.index m c.requires.index))
    c.keep.ensures.refused

pub keep-requires-clause-apart : goal.keep-requires-clause-apart
keep-requires-clause-apart c =
    apart_given (state_of c.args.self.now) c.args.index c.args.event.now c.index_mut.result.now.state c.in_ok-actions.actions
    (state-at c.args.self.now.nodes.items c.args.index c.index_mut.result.now c.requires.index c.index_mut.ensures.value)
    c.in_ok-actions.ensures.ok.actions_done c.requires.apart

pub step_on-requires-clause-offered : goal.step_on-requires-clause-offered
step_on-requires-clause-offered c =
    c.requires.offered c.index_mut.result.now.state (state-at c.args.self.now.nodes.items c.args.index c.index_mut.result.now c.requires.index c.index_mut.ensures.value)
