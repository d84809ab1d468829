use Rattle.std.proofs.Common.{sym, ◌∙◌}
use Rattle.ak_turns.proofs.DeadPackets.{prints_dead, prints_alive}
use Rattle.ak_turns.proofs.process.receive.Goals as goal

pub returns-then-tell_dead-clause-text : goal.returns-then-tell_dead-clause-text
returns-then-tell_dead-clause-text c =
    prints_dead c.args.node.now.state c.receive.new.self.state c.args.envelope.now c.in_ok-actions.actions c.args.out.now.items
    c.in_ok-actions.ensures.ok (sym c.tell_dead.ensures ∙ c.if-tell_dead.true)

pub returns-clause-text : goal.returns-clause-text
returns-clause-text c =
    prints_alive c.args.node.now.state c.receive.new.self.state c.args.envelope.now c.in_ok-actions.actions c.me.result.now c.args.out.now.items c.print_packet.new.out.items
    c.in_ok-actions.ensures.ok (sym c.tell_dead.ensures ∙ c.if-tell_dead.false) c.me.ensures c.in_ok-print_packet.ensures
