use Rattle.std.proofs.Common.{◌≡◌, ◌-◌, true}
use Rattle.std.specs.Prelude.{IfSome}
use Rattle.std.specs.Io.KnownBytes.{IsAtEnd}
use Rattle.ak_outside.specs.Lines.{to_come}
use Rattle.ak_driver.specs.ReplayContracts.{IsReady, progress_of}
use Rattle.ak_driver.proofs.Streamed.{Follows}
use Rattle.ak_driver.proofs.replay.replay_with_notes.Given as goal

-- no count of faults has risen, since a fault ends the replay; and what is to come is what the reader holds and the source has left,
-- since the reader reads past the line that it gives
abbrev pub invariant-lines : goal.invariant-lines
invariant-lines g l =
    IsReady l.replay.stage l.replay.steps
    × (g.S.Source.faults l.input ≡ g.S.Source.faults l.initial.input)
    × (g.W.Sink.faults l.output ≡ g.W.Sink.faults l.initial.output)
    × (l.reader.ended ≡ true → IfSome (g.S.Source.remaining l.initial.input) (λ all. IsAtEnd (g.S.Source.remaining l.input)))
    × Follows (g.S.Source.remaining l.initial.input) (to_come l.reader (g.S.Source.remaining l.input)) l.reader.ended (g.W.Sink.written l.initial.output) (g.W.Sink.written l.output) (progress_of l.replay) l.out.items

-- a replay refuses the line after the last that may be, so its number goes no further
abbrev pub decreases-lines : goal.decreases-lines
decreases-lines g l = 200002 - l.replay.line
