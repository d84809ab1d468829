use Rattle.ak_meaning.proofs.InstanceRuns.{comes_up, is_removed, is_settled_then, notes_grow, removal_said, rise_said}
use Rattle.ak_meaning.proofs.laws.a_run_shows_a_member_from_up_to_removed.Goals as goal

pub returns : goal.returns
returns c = record { up = comes_up; rose = rise_said; settled = is_settled_then; removed = is_removed; told = removal_said; noted = notes_grow }
