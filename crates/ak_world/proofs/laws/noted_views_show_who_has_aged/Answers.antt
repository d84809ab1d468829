use Rattle.ak_world.proofs.NotedLine.{candidate_aged, itself_kept, aged_reached}
use Rattle.ak_world.proofs.laws.noted_views_show_who_has_aged.Goals as goal

pub returns : goal.returns
returns c = record { candidate = candidate_aged; itself = itself_kept; reached = aged_reached }
