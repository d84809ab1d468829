use Rattle.ak_settled.proofs.SettledLaws.{joining, member, tombstone, unknown}
use Rattle.ak_settled.proofs.laws.known_ones_are_needed_or_finished.Goals as goal

pub returns : goal.returns
returns c = record { joining = joining; member = member; tombstone = tombstone; unknown = unknown }
