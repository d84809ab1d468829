-- What accepting a gossip leaves of what is known.
use Rattle.std.proofs.Common.{◌≡◌, Bool, false, ◌||◌, Ok, Err, sym, ap, ◌∙◌}
use Rattle.ak_address.proofs.BoolLemmas.{or_false}
use Rattle.ak_gossip.specs.declared.gossip.Received.{Received}
use Rattle.ak_gossip.specs.declared.gossip.GossipFault.{GossipFault}
use Rattle.ak_gossip.specs.declared.gossip.GossipFault.TheVariants as faults
use Rattle.ak_gossip.specs.Gossip.{GossipState}
use Rattle.ak_gossip.specs.GossipContracts as gossip
use Rattle.ak_sight.specs.Sight.{has_moved, is_news}
use Rattle.ak_sight.proofs.SightLaws.{stays_still, no_news}
use Rattle.ak_membership.specs.declared.state.MembershipState.{MembershipState}
use Rattle.ak_membership.specs.MembershipContracts.{Receives}
use Rattle.ak_membership.specs.Membership.{knowing}

-- what a membership knows whose view stays, or is this one
pub still_knowing : (m : MembershipState) (g : GossipState) → g.view ≡ m.gossip.view → record m { gossip = g } ≡ knowing g m
still_knowing m g same = λ i. record m { gossip = g; moved = moved_is i }
  where
    moved_is : m.moved ≡ (m.moved || has_moved m.gossip.view g.view)
    moved_is = sym (ap (λ b. m.moved || b) (stays_still m.gossip.view g.view same) ∙ or_false m.moved)

-- ---- what accepting a gossip answered and left
module _ (incoming : GossipState) (m : MembershipState) (after : GossipState) where
  as_it_was : after ≡ m.gossip → record m { gossip = after } ≡ m
  as_it_was same = ap (λ (g : GossipState). record m { gossip = g }) same

  pub received_not : (fault : GossipFault) → gossip.Receives m.me m.gossip incoming (Err fault) after → Receives incoming m (Err fault) (record m { gossip = after })
  received_not (faults.ForeignCount own theirs) is = (is.0, as_it_was is.1)
  received_not (faults.TooManyUniques union) is = (is.0, as_it_was is.1)
  received_not (faults.NoMemory _) is = as_it_was is

  -- what came moves nothing
  pub received_no_news : (received : Received) → is_news received ≡ false → gossip.Receives m.me m.gossip incoming (Ok received) after → Receives incoming m (Ok received) (record m { gossip = after })
  received_no_news received none is = (after, is, still_knowing m after (no_news m.me m.gossip incoming (received, after) is none))

  -- what moves is asked
  pub received_news : (received : Received) (before : GossipState) (moved : Bool) → before ≡ m.gossip → moved ≡ (m.moved || has_moved before.view after.view) → gossip.Receives m.me m.gossip incoming (Ok received) after
      → Receives incoming m (Ok received) (record m { gossip = after; moved = moved })
  received_news received before moved same asked is =
      (after, is, λ i. record m { gossip = after; moved = (asked ∙ ap (λ (g : GossipState). m.moved || has_moved g.view after.view) same) i })
