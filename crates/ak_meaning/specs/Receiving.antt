-- What it means that a gossip was accepted (Akka's Cluster Specification, "Gossip" and "Gossip Convergence").
use Rattle.std.specs.Prelude.{◌≡◌, ◌≢◌, ◌↔◌, max, IsTrue}
use Rattle.ak_address.specs.Unique.{UniqueModel}
use Rattle.ak_address.specs.Uniques.{has}
use Rattle.ak_clock.specs.Version.{count, Covers}
use Rattle.ak_gossip.specs.declared.gossip.Received.{Received}
use Rattle.ak_gossip.specs.declared.gossip.Received.TheVariants.{Older}
use Rattle.ak_gossip.specs.Gossip.{GossipState}
use Rattle.ak_member.specs.Standing.{is_member}

-- The version counts of each author as many entries as either knew. What came is older exactly where the own version covers it and
-- is not covered by it; then nothing changes. Else the receiver is among those that have seen what is known then, where it is a
-- member of it.
pub record AreMerged (me : UniqueModel) (own incoming : GossipState) (result : Received) (known : GossipState) : Type 0 where
  pub version : (author : UniqueModel) → count known.version author ≡ max (count own.version author) (count incoming.version author)
  pub is_older : (result ≡ Older) ↔ (Covers own.version incoming.version × (¬ Covers incoming.version own.version))
  pub older : result ≡ Older → known ≡ own
  pub seen : result ≢ Older → IsTrue (is_member known.view.standings me) → IsTrue (has known.seen me)
