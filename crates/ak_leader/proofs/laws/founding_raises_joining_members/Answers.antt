use Rattle.ak_leader.proofs.LedLaws.{founds_at, founds_each}
use Rattle.ak_leader.proofs.laws.founding_raises_joining_members.Goals as goal

pub returns : goal.returns
returns c = record { caused = founds_at; all = founds_each }
