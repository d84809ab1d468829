use Rattle.ak_meaning.proofs.WeakRuns.{let_in_waited}
use Rattle.ak_meaning.proofs.laws.a_member_is_let_in_after_a_wait.Goals as goal

pub returns : goal.returns
returns c = let_in_waited
