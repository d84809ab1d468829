use Rattle.std.proofs.Common.{sym, subst, ◌∙◌}
use Rattle.ak_gossip.specs.Gossip.{GossipState}
use Rattle.ak_sight.specs.Counted.{IsAsReceived}
use Rattle.ak_sight.proofs.CountLemmas.{received_so}
use Rattle.ak_membership.proofs.ReceivedLaws.{received_no_news, received_news}
use Rattle.ak_membership.proofs.state.MembershipState.receive.Goals as goal
use Rattle.ak_membership.proofs.state.MembershipState.receive.Goals.{then-is_news, else-is_news}

pub keep_tally_received-requires-clause-received : goal.keep_tally_received-requires-clause-received
keep_tally_received-requires-clause-received c =
    subst (λ (g : GossipState). IsAsReceived c.in-Ok-receive.received g c.receive.new.self) (sym c.in-Ok.ensures)
    (received_so c.args.self.now.me c.args.self.now.gossip c.args.incoming.now c.receive.new.self c.in-Ok-receive.received c.in-Ok-receive.ensures)

pub returns-in-Ok-receive-clause-received : goal.returns-in-Ok-receive-clause-received
returns-in-Ok-receive-clause-received c =
    let heard = c.args.incoming.now in
    let known = c.args.self.now in
    let received = c.in-Ok-receive.received in
    elim c.if-is_news.branch [
      | then-is_news w ↦
          let moved = received_news heard known c.receive.new.self received c.in-Ok.before w.moves-self.result c.in-Ok.ensures w.moves-self.ensures c.in-Ok-receive.ensures in
          (moved.0, moved.1, w.self-is ∙ moved.2)
      | else-is_news w ↦
          let still = received_no_news heard known c.receive.new.self received (sym c.is_news.ensures ∙ w.if-is_news.false) c.in-Ok-receive.ensures in
          (still.0, still.1, w.self-is ∙ still.2)
    ]
