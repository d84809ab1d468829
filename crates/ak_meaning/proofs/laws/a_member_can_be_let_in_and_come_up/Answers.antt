use Rattle.ak_meaning.proofs.LetInRun.{comes_up, is_kept, is_let_in, is_settled_then, is_unsettled_first, leader_is, leader_runs, letting_said, rise_said}
use Rattle.ak_meaning.proofs.laws.a_member_can_be_let_in_and_come_up.Goals as goal

pub returns : goal.returns
returns c = record { kept = is_kept; node = leader_is; runs = leader_runs; unsettled = is_unsettled_first; weakly = is_let_in; let_in = letting_said; settled = is_settled_then; up = comes_up; rose = rise_said }
