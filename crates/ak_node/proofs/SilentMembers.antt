-- Whom a node finds silent is a member of its view, between two steps.
use Rattle.std.proofs.Common.{IsTrue, sym, ◌∙◌}
use Rattle.ak_address.specs.Unique.{UniqueModel}
use Rattle.ak_address.specs.Uniques.{has}
use Rattle.ak_detector.specs.Detector.{ticked}
use Rattle.ak_detector.proofs.DetectorLaws.{silent_watched, ticked_same}
use Rattle.ak_membership.specs.Knowledge.{HasMember}
use Rattle.ak_membership.specs.Tick.{silent}
use Rattle.ak_node.specs.declared.node.State.{State}
use Rattle.ak_node.specs.NodeContracts.{IsNode}

pub silent_member : (n : State) → IsNode n → (who : UniqueModel) → IsTrue (has (silent n.membership) who) → HasMember n.membership who
silent_member n node who is =
    let deadline = n.membership.settings.deadline in
    node.watching who (sym (ticked_same deadline n.membership.detector who) ∙ silent_watched deadline (ticked deadline n.membership.detector) who is)
