use Rattle.std.proofs.Common.{◌<◌, ℕ, Option, Some, None, length, position, refl, sym, ap, ◌∙◌, arith}
use Rattle.ak_node.specs.NodeContracts.{NodeModel}
use Rattle.ak_world.specs.World.{acts, is_process}
use Rattle.ak_world.specs.WorldContracts.{state_of, states}
use Rattle.ak_world.proofs.WorldLemmas.{found-node, act-answer, state-at, position-within, length-states}
use Rattle.ak_world.proofs.SeekLemmas.{one_process}
use Rattle.ak_world.proofs.world.Scene.actor.Goals as goal

pub node_near-requires : goal.node_near-requires
node_near-requires c = one_process (state_of c.args.self.now) _ (ap states (sym c.deref.ensures.value)) c.requires.once c.args.who.now

pub returns-in_default : goal.returns-in_default
returns-in_default c =
    let found = found-node c.args.who.now c.args.self.now.nodes.items c.node_near.result None
    (c.node_near.ensures ∙ ap (position (λ (n : NodeModel). is_process c.args.who.now n.state)) c.deref.ensures.value) c.in_default.is in
    λ e. ap (λ (o : Option ℕ). acts e o (state_of c.args.self.now)) found

pub returns-then-stopped : goal.returns-then-stopped
returns-then-stopped c =
    let nodes = c.args.self.now.nodes.items in
    let w = state_of c.args.self.now in
    let at = c.node_near.ensures ∙ ap (position (λ (n : NodeModel). is_process c.args.who.now n.state)) c.deref.ensures.value in
    let found = found-node c.args.who.now nodes c.node_near.result (Some c.in-Some.index) at c.in-Some.is in
    let within = position-within (λ (n : NodeModel). is_process c.args.who.now n.state) nodes c.in-Some.index (sym at ∙ c.in-Some.is) in
    λ e.
    ap (λ (o : Option ℕ). acts e o w) found
    ∙ act-answer e c.in-Some.index c.index.result.now.state w _ _ (state-at nodes c.in-Some.index c.index.result.now within c.index.ensures) (sym c.stopped.ensures ∙ c.if-stopped.true) refl

pub returns-then-is_full : goal.returns-then-is_full
returns-then-is_full c =
    let nodes = c.args.self.now.nodes.items in
    let w = state_of c.args.self.now in
    let at = c.node_near.ensures ∙ ap (position (λ (n : NodeModel). is_process c.args.who.now n.state)) c.deref.ensures.value in
    let found = found-node c.args.who.now nodes c.node_near.result (Some c.in-Some.index) at c.in-Some.is in
    let within = position-within (λ (n : NodeModel). is_process c.args.who.now n.state) nodes c.in-Some.index (sym at ∙ c.in-Some.is) in
    λ e.
    ap (λ (o : Option ℕ). acts e o w) found
    ∙ act-answer e c.in-Some.index c.index.result.now.state w _ _ (state-at nodes c.in-Some.index c.index.result.now within c.index.ensures)
    (sym c.stopped.ensures ∙ c.if-stopped.false) (sym c.is_full.ensures ∙ c.if-is_full.true)

pub returns : goal.returns
returns c =
    let nodes = c.args.self.now.nodes.items in
    let w = state_of c.args.self.now in
    let at = c.node_near.ensures ∙ ap (position (λ (n : NodeModel). is_process c.args.who.now n.state)) c.deref.ensures.value in
    let found = found-node c.args.who.now nodes c.node_near.result (Some c.in-Some.index) at c.in-Some.is in
    let within : c.in-Some.index < length nodes = position-within (λ (n : NodeModel). is_process c.args.who.now n.state) nodes c.in-Some.index (sym at ∙ c.in-Some.is) in (
      (let same = length-states nodes in omega (arith, same, within)),
      λ e.
          ap (λ (o : Option ℕ). acts e o w) found
          ∙ act-answer e c.in-Some.index c.index.result.now.state w _ _ (state-at nodes c.in-Some.index c.index.result.now within c.index.ensures)
          (sym c.stopped.ensures ∙ c.if-stopped.false) (sym c.is_full.ensures ∙ c.if-is_full.false),
    )
