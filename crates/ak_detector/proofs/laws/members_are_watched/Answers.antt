use Rattle.ak_detector.proofs.DetectorLaws.{watched_member, not_itself, ring_watched, silent_stay, kept_counter}
use Rattle.ak_detector.proofs.laws.members_are_watched.Goals as goal

pub returns : goal.returns
returns c = record { member = watched_member; itself = not_itself; ring = ring_watched; stay = silent_stay; kept = kept_counter }
