use Rattle.ak_meaning.proofs.MovedRun.{has_left, is_first_home, is_kept, is_over_half, is_second_home}
use Rattle.ak_meaning.proofs.laws.a_shard_can_move.Goals as goal

pub returns : goal.returns
returns c = record { quorum = is_over_half; kept = is_kept; first = is_first_home; second = is_second_home; left = has_left }
