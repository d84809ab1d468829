use Rattle.std.proofs.Common.{◌≡◌, List, Some, IsTrue, refl, sym, subst, ap, ◌∙◌, arith, set}
use Rattle.std.proofs.Math.ListN.{length-set}
use Rattle.std.proofs.lemmas.Result.{err_from_is_err_and}
use Rattle.std.specs.Cmp.{second_so}
use Rattle.ak_wire.specs.declared.envelope.Envelope.{Envelope}
use Rattle.ak_node.specs.declared.node.NodeEvent.TheVariants.{Packet}
use Rattle.ak_node.specs.declared.node.State.{State}
use Rattle.ak_node.specs.Node.{is_for, me_of}
use Rattle.ak_world.specs.World.{is_reached, numbered}
use Rattle.ak_world.specs.WorldContracts.{state_of, states}
use Rattle.ak_world.proofs.StoredLemmas.{kept_arrived}
use Rattle.ak_world.proofs.WhatHappened.{position_passes}
use Rattle.ak_world.proofs.WorldLemmas.{found-receiver, same-answer, ran-out, dead-delivery, delivery, delivery-accepted, receiver-within, length-states, state-at, state-set, set-states, kept-scenes}
use Rattle.ak_world.proofs.AlikeRuns.{apart_given, apart_too}
use Rattle.ak_world.proofs.SeekLemmas.{one_receiver}
use Rattle.ak_world.proofs.world.Scene.deliver.Goals as goal

pub receiver_near-requires : goal.receiver_near-requires
receiver_near-requires c = one_receiver (state_of c.args.self.now) _ (ap states (sym c.deref.ensures.value)) c.requires.ready.alone c.envelope-2.result.now

pub receive_own-requires-clause-steps : goal.receive_own-requires-clause-steps
receive_own-requires-clause-steps c =
    let e = c.in-Some.packet.now in
    let nodes = c.args.self.now.nodes.items in
    let reached = found-receiver e _ nodes _ _ _ c.receiver_near.ensures (c.envelope-2.ensures.same ∙ c.in_ok-packet.ensures) c.deref.ensures.value c.in-Some-receiver_near.is in
    let within = receiver-within e nodes c.in-Some-receiver_near.index reached in
    c.requires.ready.few_steps c.in-Some-receiver_near.index c.index_mut.result.now.state (state-at nodes c.in-Some-receiver_near.index c.index_mut.result.now within c.index_mut.ensures.value)

pub receive_own-requires-clause-comes : goal.receive_own-requires-clause-comes
receive_own-requires-clause-comes c = c.envelope-3.ensures.valid

pub receive_own-requires-clause-own : goal.receive_own-requires-clause-own
receive_own-requires-clause-own c =
    let e = c.in-Some.packet.now in
    let nodes = c.args.self.now.nodes.items in
    let m = c.index_mut.result.now in
    let reached = found-receiver e _ nodes _ _ _ c.receiver_near.ensures (c.envelope-2.ensures.same ∙ c.in_ok-packet.ensures) c.deref.ensures.value c.in-Some-receiver_near.is in
    let within = receiver-within e nodes c.in-Some-receiver_near.index reached in
    let passes = position_passes (is_reached e) (states nodes) c.in-Some-receiver_near.index m.state reached (state-at nodes c.in-Some-receiver_near.index m within c.index_mut.ensures.value) in
    subst (λ (f : Envelope). IsTrue (is_for (me_of m.state) f)) (sym (c.envelope-3.ensures.same ∙ c.in_ok-packet.ensures)) (second_so m.state.runs (is_for (me_of m.state) e) passes)

pub keep-requires-clause-index : goal.keep-requires-clause-index
keep-requires-clause-index c =
    let e = c.in-Some.packet.now in
    let nodes = c.args.self.now.nodes.items in
    let reached = found-receiver e _ nodes _ _ _ c.receiver_near.ensures (c.envelope-2.ensures.same ∙ c.in_ok-packet.ensures) c.deref.ensures.value c.in-Some-receiver_near.is in
    let within = receiver-within e nodes c.in-Some-receiver_near.index reached in
    let long = length-set nodes c.in-Some-receiver_near.index c.receive_own.new.self in
    omega (arith, long, within)

pub keep-requires-clause-number : goal.keep-requires-clause-number
keep-requires-clause-number c =
    let e = c.in-Some.packet.now in
    let nodes = c.args.self.now.nodes.items in
    let reached = found-receiver e _ nodes _ _ _ c.receiver_near.ensures (c.envelope-2.ensures.same ∙ c.in_ok-packet.ensures) c.deref.ensures.value c.in-Some-receiver_near.is in
    let within = receiver-within e nodes c.in-Some-receiver_near.index reached in
    omega (arith, within, length-states nodes, c.requires.ready.few_nodes)

pub returns-in_err-actions-clause-scenes : goal.returns-in_err-actions-clause-scenes
returns-in_err-actions-clause-scenes c =
    let packet : numbered c.args.self.now.packets c.args.number ≡ Some c.in-Some.packet.now = sym c.in-Some.ensures in
    let p = err_from_is_err_and c.from_residual-in_err-actions.result c.from_residual-in_err-actions.ensures.1 in
    ran-out (state_of c.args.self.now) _ _ _ p.0 (delivery-accepted (state_of c.args.self.now) c.args.number c.in-Some.packet.now packet (sym c.is_full-is_full.ensures ∙ c.if-is_full.false)) p.1 (_, p.2)

pub returns-in_default-receiver_near-clause-scenes : goal.returns-in_default-receiver_near-clause-scenes
returns-in_default-receiver_near-clause-scenes c =
    let e = c.in-Some.packet.now in
    let packet : numbered c.args.self.now.packets c.args.number ≡ Some e = sym c.in-Some.ensures in
    let nobody = found-receiver e _ c.args.self.now.nodes.items _ _ _ c.receiver_near.ensures (c.envelope-2.ensures.same ∙ c.in_ok-packet.ensures) c.deref.ensures.value c.in_default-receiver_near.is in
    dead-delivery (state_of c.args.self.now) c.args.number e _ packet (sym c.is_full-is_full.ensures ∙ c.if-is_full.false) nobody refl c.next_packet.ensures c.next_packet.type_inv c.empty.ensures

pub returns-clause-scenes : goal.returns-clause-scenes
returns-clause-scenes c =
    let e = c.in-Some.packet.now in
    let nodes = c.args.self.now.nodes.items in
    let reached = found-receiver e _ nodes _ _ _ c.receiver_near.ensures (c.envelope-2.ensures.same ∙ c.in_ok-packet.ensures) c.deref.ensures.value c.in-Some-receiver_near.is in
    let within = receiver-within e nodes c.in-Some-receiver_near.index reached in
    let w = state_of c.args.self.now in
    let index = c.in-Some-receiver_near.index in
    let m = c.receive_own.new.self in
    let packet : numbered c.args.self.now.packets c.args.number ≡ Some e = sym c.in-Some.ensures in
    same-answer _ _ _ _ _ (delivery w c.args.number e c.envelope-3.result.now index packet (sym c.is_full-is_full.ensures ∙ c.if-is_full.false) reached (c.envelope-3.ensures.same ∙ c.in_ok-packet.ensures))
    (kept-scenes w (record w { nodes = states (set nodes index m) }) _ index (Packet c.envelope-3.result.now) c.index_mut.result.now.state m.state c.in_ok-actions.actions _
    (state-at nodes index c.index_mut.result.now within c.index_mut.ensures.value)
    c.in_ok-actions.ensures.ok.state_after c.in_ok-actions.ensures.ok.actions_done
    (ap (λ (xs : List State). record w { nodes = xs }) (set-states nodes index m))
    (c.keep.ensures.kept m.state (state-set nodes index m within))
    c.keep.ensures.refused)

pub keep-requires-clause-apart : goal.keep-requires-clause-apart
keep-requires-clause-apart c =
    let e = c.in-Some.packet.now in
    let nodes = c.args.self.now.nodes.items in
    let reached = found-receiver e _ nodes _ _ _ c.receiver_near.ensures (c.envelope-2.ensures.same ∙ c.in_ok-packet.ensures) c.deref.ensures.value c.in-Some-receiver_near.is in
    let within = receiver-within e nodes c.in-Some-receiver_near.index reached in
    let w = state_of c.args.self.now in
    let index = c.in-Some-receiver_near.index in
    let packet : numbered c.args.self.now.packets c.args.number ≡ Some e = sym c.in-Some.ensures in
    apart_given w index (Packet c.envelope-3.result.now) c.index_mut.result.now.state c.in_ok-actions.actions
    (state-at nodes index c.index_mut.result.now within c.index_mut.ensures.value)
    c.in_ok-actions.ensures.ok.actions_done
    (apart_too _ _ (delivery w c.args.number e c.envelope-3.result.now index packet (sym c.is_full-is_full.ensures ∙ c.if-is_full.false) reached (c.envelope-3.ensures.same ∙ c.in_ok-packet.ensures)) c.requires.apart)

pub returns-in_err-packet-clause-scenes : goal.returns-in_err-packet-clause-scenes
returns-in_err-packet-clause-scenes c =
    let packet : numbered c.args.self.now.packets c.args.number ≡ Some c.in-Some.packet.now = sym c.in-Some.ensures in
    let p = err_from_is_err_and c.from_residual.result c.from_residual.ensures.1 in
    ran-out (state_of c.args.self.now) _ _ _ p.0 (delivery-accepted (state_of c.args.self.now) c.args.number c.in-Some.packet.now packet (sym c.is_full-is_full.ensures ∙ c.if-is_full.false)) p.1 (_, p.2)

pub returns-clause-arrived : goal.returns-clause-arrived
returns-clause-arrived c =
    let e = c.in-Some.packet.now in
    let nodes = c.args.self.now.nodes.items in
    let reached = found-receiver e _ nodes _ _ _ c.receiver_near.ensures (c.envelope-2.ensures.same ∙ c.in_ok-packet.ensures) c.deref.ensures.value c.in-Some-receiver_near.is in
    let within = receiver-within e nodes c.in-Some-receiver_near.index reached in
    let m = c.receive_own.new.self in
    kept_arrived _ _ _ _ _ _ c.args.number e c.in_ok-packet.packet (sym c.in-Some.ensures) c.in_ok-packet.ensures
    (c.keep.ensures.kept m.state (state-set nodes c.in-Some-receiver_near.index m within)) c.keep.ensures.arrived
