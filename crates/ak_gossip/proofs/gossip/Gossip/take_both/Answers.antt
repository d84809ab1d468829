use Rattle.std.proofs.Common.{sym, ap, ◌∙◌, subst, if◌then◌else◌}
use Rattle.ak_address.specs.Uniques.{UniqueSet, no_one, with_one}
use Rattle.ak_member.specs.Standing.{is_member}
use Rattle.ak_gossip.specs.Gossip.{IsGossip}
use Rattle.ak_gossip.specs.Ownership.{said_by}
use Rattle.ak_gossip.proofs.InvariantLemmas.{noted_kept}
use Rattle.ak_gossip.proofs.gossip.Gossip.take_both.Goals as goal

pub invariant_of-drop : goal.invariant_of-drop
invariant_of-drop c =
    let tables = c.in_ok-tables.tables in
    let me = c.args.me.now in
    subst IsGossip (sym (c.in_ok-known.ensures ∙ ap (said_by tables) (c.in_ok-add_member.ensures ∙ ap (λ (s : UniqueSet). if is_member tables.members me then with_one s me else s) c.empty-seen.ensures)))
    (noted_kept me (said_by tables no_one) c.in_ok-tables.ensures.lawful)
