use Rattle.ak_clock.proofs.VersionLaws.{count-bumped_author, count-bumped_others}
use Rattle.ak_clock.proofs.laws.bump_raises_one_count.Goals as goal

pub returns : goal.returns
returns c = record { author = count-bumped_author; others = count-bumped_others }
