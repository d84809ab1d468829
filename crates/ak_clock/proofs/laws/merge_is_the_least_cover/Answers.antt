use Rattle.ak_clock.proofs.VersionLaws.{count-merged, merged_covers_first, merged_covers_second, merged_is_covered}
use Rattle.ak_clock.proofs.laws.merge_is_the_least_cover.Goals as goal

pub returns : goal.returns
returns c = record { counts = count-merged; covers = λ v w. (merged_covers_first v w, merged_covers_second v w); least = merged_is_covered }
