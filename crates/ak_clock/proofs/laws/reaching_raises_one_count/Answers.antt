use Rattle.ak_clock.proofs.VersionLaws.{count-reaching_there, count-reaching_others}
use Rattle.ak_clock.proofs.laws.reaching_raises_one_count.Goals as goal

pub returns : goal.returns
returns c = record { there = count-reaching_there; others = count-reaching_others }
