use Rattle.std.proofs.Common.{refl}
use Rattle.ak_schedule.proofs.LineParts.{ended_line, last_of_lines}
use Rattle.ak_schedule.proofs.laws.lines_end_at_line_feeds.Goals as goal

pub returns : goal.returns
returns c = record { none = refl; ended = ended_line; last = last_of_lines }
