use Rattle.std.proofs.Common.{List, set, sym, ap, subst, arith, ◌<◌, length}
use Rattle.std.proofs.Math.ListN.{length-set}
use Rattle.std.proofs.lemmas.Result.{err_from_is_err_and}
use Rattle.ak_node.specs.declared.node.State.{State}
use Rattle.ak_node.specs.declared.node.NodeEvent.TheVariants.{Tick}
use Rattle.ak_world.specs.WorldContracts.{Scenes, state_of, states}
use Rattle.ak_world.proofs.WorldLemmas.{accepted-too, given-accepted, kept-scenes, length-states, ran-out, set-states, state-at, state-set}
use Rattle.ak_world.proofs.AlikeRuns.{apart_given, apart_too}
use Rattle.ak_world.proofs.world.Scene.tick.Goals as goal

pub tick-requires : goal.tick-requires
tick-requires c =
    let nodes = c.args.self.now.nodes.items in
    let within : c.in-Ok.index < length nodes = let same = length-states nodes in omega (arith, same, c.in-Ok.ensures.0) in
    record { steps = c.requires.ready.few_steps c.in-Ok.index c.index_mut.result.now.state (state-at nodes c.in-Ok.index c.index_mut.result.now within c.index_mut.ensures.value) }

pub keep-requires-clause-index : goal.keep-requires-clause-index
keep-requires-clause-index c =
    let nodes = c.args.self.now.nodes.items in
    let many = length-set nodes c.in-Ok.index c.tick.new.self in
    let same = length-states nodes in
    omega (arith, many, same, c.in-Ok.ensures.0)

pub keep-requires-clause-apart : goal.keep-requires-clause-apart
keep-requires-clause-apart c =
    let nodes = c.args.self.now.nodes.items in
    let within : c.in-Ok.index < length nodes = let same = length-states nodes in omega (arith, same, c.in-Ok.ensures.0) in
    apart_given (state_of c.args.self.now) c.in-Ok.index (Tick c.args.word) c.index_mut.result.now.state c.in_ok-actions.actions
    (state-at nodes c.in-Ok.index c.index_mut.result.now within c.index_mut.ensures.value)
    c.in_ok-actions.ensures.ok.actions_done (apart_too _ _ (c.in-Ok.ensures.1 (Tick c.args.word)) c.requires.apart)

pub returns-clause-scenes : goal.returns-clause-scenes
returns-clause-scenes c =
    let w = state_of c.args.self.now in
    let nodes = c.args.self.now.nodes.items in
    let m = c.tick.new.self in
    let within : c.in-Ok.index < length nodes = let same = length-states nodes in omega (arith, same, c.in-Ok.ensures.0) in
    subst (λ answer. Scenes w answer c.keep.result (state_of c.keep.new.self)) (sym (c.in-Ok.ensures.1 (Tick c.args.word)))
    (kept-scenes w (record w { nodes = states (set nodes c.in-Ok.index m) }) _ c.in-Ok.index (Tick c.args.word) c.index_mut.result.now.state m.state c.in_ok-actions.actions _
    (state-at nodes c.in-Ok.index c.index_mut.result.now within c.index_mut.ensures.value)
    c.in_ok-actions.ensures.ok.state_after c.in_ok-actions.ensures.ok.actions_done
    (ap (λ (xs : List State). record w { nodes = xs }) (set-states nodes c.in-Ok.index m))
    (c.keep.ensures.kept m.state (state-set nodes c.in-Ok.index m within))
    c.keep.ensures.refused)

pub returns-in_err-actions-clause-scenes : goal.returns-in_err-actions-clause-scenes
returns-in_err-actions-clause-scenes c =
    let p = err_from_is_err_and c.from_residual.result c.from_residual.ensures.1 in
    ran-out (state_of c.args.self.now) _ _ _ p.0
    (accepted-too _ _ (c.in-Ok.ensures.1 (Tick c.args.word)) (given-accepted (Tick c.args.word) c.in-Ok.index (state_of c.args.self.now) c.in-Ok.ensures.0)) p.1 (_, p.2)
