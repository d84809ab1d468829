-- Whom a node of a run watches, and what it makes of a gossip (Akka's Cluster Specification, "Failure Detector" and "Gossip").
use Rattle.std.specs.Prelude.{◌≡◌, false, IsTrue}
use Rattle.std.specs.FinMap as map
use Rattle.ak_address.specs.Unique.{UniqueModel}
use Rattle.ak_address.specs.Uniques.{has}
use Rattle.ak_detector.specs.Detector.{silent, watch_ring}
use Rattle.ak_member.specs.Standing.{is_member}
use Rattle.ak_node.specs.declared.node.State.{State}
use Rattle.ak_node.specs.Node.{known, me_of}

-- The node watches its ring; whoever else it watches is a member, and silent.
pub record WatchesRing (n : State) : Type 0 where
  pub ring : (who : UniqueModel) → IsTrue (has (watch_ring (me_of n) (known n).view.standings) who) → IsTrue (map.contains_key n.membership.detector who)
  pub others : (who : UniqueModel) → IsTrue (map.contains_key n.membership.detector who) → has (watch_ring (me_of n) (known n).view.standings) who ≡ false
      → IsTrue (has (silent n.membership.settings.deadline n.membership.detector) who) × IsTrue (is_member (known n).view.standings who)
