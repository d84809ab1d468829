use Rattle.ak_leader.proofs.WeakLaws.{weak_from, weak_each}
use Rattle.ak_leader.proofs.laws.weak_effects_let_in_who_is_reached.Goals as goal

pub returns : goal.returns
returns c = record { caused = weak_from; all = weak_each }
