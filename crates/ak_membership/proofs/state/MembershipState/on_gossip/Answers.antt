use Rattle.ak_membership.proofs.RuleLemmas.{passed_over, is_received}
use Rattle.std.proofs.Common.{Ok, refl, ap, ◌∙◌}
use Rattle.ak_address.specs.Uniques.{has}
use Rattle.ak_membership.specs.declared.state.MembershipState.{MembershipState}
use Rattle.ak_membership.specs.Membership.{hears, knowing}
use Rattle.ak_membership.proofs.state.MembershipState.on_gossip.Goals as goal

pub returns-then-not-is_known_in-clause-answers : goal.returns-then-not-is_known_in-clause-answers
returns-then-not-is_known_in-clause-answers c = (_, passed_over c.args.incoming.now c.args.self.now (c.if-not-is_known_in.ensures), record { state_after = refl; change_told = c.unchanged.ensures })

pub returns-in-Ok-clause-answers : goal.returns-in-Ok-clause-answers
returns-in-Ok-clause-answers c =
    let r = c.in-Ok.ensures.received in
    let after = knowing r.0 c.args.self.now in (
      _,
      is_received c.args.incoming.now c.args.self.now (Ok (c.in-Ok.received, r.0)) c.if-not-is_known_in.ensures r.1,
      record {
        state_after = r.2;
        change_told = c.hears.ensures ∙ ap (λ (m : MembershipState). (hears (has c.args.incoming.now.seen m.me) c.in-Ok.received m).1) r.2;
      },
    )
