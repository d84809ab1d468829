use Rattle.ak_line.proofs.AtNumbers.{one_active_at, one_home_at, one_place_at, in_table_at}
use Rattle.ak_line.proofs.laws.one_is_active_and_shards_have_one_home.Goals as goal

pub returns : goal.returns
returns c = record { active = one_active_at; home = one_home_at; place = one_place_at; table = in_table_at }
