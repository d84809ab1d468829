use Rattle.ak_detector.proofs.DetectorLaws.{ring_members, ring_without, ring_few, ring_all}
use Rattle.ak_detector.proofs.laws.rings_are_of_others.Goals as goal

pub returns : goal.returns
returns c = record { members = ring_members; without = ring_without; few = ring_few; all = ring_all }
