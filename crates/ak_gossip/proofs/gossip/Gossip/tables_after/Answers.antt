use Rattle.std.proofs.Common.{sym, ap, ◌∙◌, subst, refl, ◌+◌}
use Rattle.ak_clock.specs.Version.{count, bumped}
use Rattle.ak_member.specs.View.{after_effects, after_observed, observed}
use Rattle.ak_gossip.specs.Gossip.{GossipState, MayUpdate}
use Rattle.ak_gossip.proofs.InvariantLemmas.{updated_parts_kept}
use Rattle.ak_gossip.proofs.gossip.Gossip.tables_after.Goals as goal

pub returns-clause-lawful : goal.returns-clause-lawful
returns-clause-lawful c =
    let own : GossipState = c.self.inside.known in
    updated_parts_kept c.args.author.now c.args.effects.now own c.self.invariant (subst (MayUpdate c.args.author.now c.args.effects.now) (sym c.self.view_is) c.requires)
    _ _ _ _
    (c.in_ok-version.ensures.version ∙ ap (λ v. bumped v c.args.author.now) c.version.ensures)
    (c.in_ok-members.ensures.ok ∙ ap (after_effects c.args.effects.now) (c.in_ok-copy.ensures.ok ∙ c.members.ensures))
    (c.in_ok-rows.ensures
    ∙ ap (λ number. after_observed c.args.author.now number (observed c.args.effects.now) c.rows.result.now) (c.in_ok-version.ensures.number ∙ ap (λ v. count v c.args.author.now + 1) c.version.ensures)
    ∙ ap (after_observed c.args.author.now (count own.version c.args.author.now + 1) (observed c.args.effects.now)) c.rows.ensures)
    refl
