use Rattle.ak_world.proofs.FoldRuns.{run_sound}
use Rattle.ak_world.proofs.laws.nodes_count_their_own_updates.Goals as goal

pub returns : goal.returns
returns c = record {
  numbered = λ settings events. (run_sound settings events).is_numbered;
  counted = λ settings events index n at. ((run_sound settings events).each index n at).own;
  apart = λ settings events. (run_sound settings events).apart;
}
