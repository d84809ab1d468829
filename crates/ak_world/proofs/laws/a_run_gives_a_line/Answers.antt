use Rattle.ak_world.proofs.AsLine.{run_is_line, line_grows, aged_started}
use Rattle.ak_world.proofs.laws.a_run_gives_a_line.Goals as goal

pub returns : goal.returns
returns c = record { line = run_is_line; grows = line_grows; started = aged_started }
