use Rattle.ak_schedule.proofs.Canonical.{canonical, IsSpelled-ranges}
use Rattle.ak_schedule.proofs.laws.printed_events_are_read.Goals as goal

pub returns : goal.returns
returns c = record { ranges = IsSpelled-ranges; canonical = canonical }
