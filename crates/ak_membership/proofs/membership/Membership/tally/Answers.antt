use Rattle.std.proofs.Common.{ap, ◌∙◌}
use Rattle.ak_address.specs.Distinct.{distinct}
use Rattle.ak_member.specs.Age.{role_addresses}
use Rattle.std.specs.FinMap as finmap
use Rattle.ak_converge.specs.Tally.{TallyModel}
use Rattle.ak_sight.specs.Counted.{KeptTallyModel}
use Rattle.ak_converge.proofs.TallyLaws.{tally_addresses}
use Rattle.ak_membership.specs.declared.state.MembershipState.{MembershipState}
use Rattle.ak_membership.proofs.membership.Membership.tally.Goals as goal

pub returns-clause-addresses : goal.returns-clause-addresses
returns-clause-addresses c =
    let g = c.self.inside.state.gossip in
    let role = c.self.inside.state.settings.role in
    ap (λ (t : TallyModel). finmap.len t.uses) c.numbers.ensures
    ∙ tally_addresses c.self.inside.tally.numbers role g.view g.seen (ap (λ (t : KeptTallyModel). t.numbers) c.self.invariant.2)
    ∙ ap (λ (m : MembershipState). distinct (role_addresses m.settings.role m.gossip.view.standings)) c.self.view_is
