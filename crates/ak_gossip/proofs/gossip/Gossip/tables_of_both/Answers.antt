use Rattle.std.proofs.Common.{◌∙◌, refl}
use Rattle.ak_address.specs.Uniques.{no_one}
use Rattle.ak_clock.specs.Version.{merged}
use Rattle.ak_member.specs.Standing.{merged_standings}
use Rattle.ak_member.specs.View.{merged_rows}
use Rattle.ak_gossip.specs.Gossip.{GossipState}
use Rattle.ak_gossip.proofs.InvariantLemmas.{few_as, both_kept, parts_kept}
use Rattle.ak_gossip.proofs.gossip.Gossip.tables_of_both.Goals as goal

pub returns-clause-lawful : goal.returns-clause-lawful
returns-clause-lawful c =
    let own : GossipState = c.self.inside.known in
    let incoming : GossipState = c.incoming.inside.known in
    parts_kept c.in_ok-version.version _ c.in_ok-members.members _ c.in_ok-rows.rows _ no_one _
    (c.in_ok-version.ensures ∙ (λ i. merged (c.version.ensures i) (c.version-2.ensures i)))
    (c.in_ok-members.ensures ∙ (λ i. merged_standings (c.members.ensures i) (c.members-2.ensures i)))
    (c.in_ok-rows.ensures ∙ (λ i. merged_rows (c.rows.ensures i) (c.rows-2.ensures i)))
    refl
    (both_kept own incoming c.self.invariant c.incoming.invariant (few_as own c.args.self.now incoming c.args.incoming.now c.self.view_is c.incoming.view_is c.requires))
