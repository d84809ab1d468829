use Rattle.ak_world.proofs.NotedHere.{noted_here, noted_now}
use Rattle.ak_world.proofs.Processes.{processes}
use Rattle.ak_world.proofs.laws.settled_views_are_noted_where_they_settle.Goals as goal

pub returns : goal.returns
returns c = record {
  noted = λ settings events index n noted at is. noted_here settings events index n noted at is;
  latest = λ settings events index n at runs settled. (noted_now settings events index n at runs settled, ((processes settings events).sane index n at).membership.settled_before);
}
