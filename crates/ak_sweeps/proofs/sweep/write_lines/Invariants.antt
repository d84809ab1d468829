use Rattle.std.proofs.Common.{◌≡◌, take}
use Rattle.ak_sweeps.proofs.WriteLoop.{Along}
use Rattle.ak_sweeps.proofs.sweep.write_lines.Given as goal

-- no write failed, since one that fails is answered at once; and the texts of the lines up to here are written or stand in what is
-- printed, since it is written in pieces
abbrev pub invariant-lines : goal.invariant-lines
invariant-lines g l =
    (g.W.Sink.faults l.output ≡ g.W.Sink.faults l.initial.output)
    × Along (g.W.Sink.written l.initial.output) (g.W.Sink.written l.output) (take l.line-index l.lines) l.out.items
