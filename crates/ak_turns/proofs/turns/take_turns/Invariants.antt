use Rattle.std.proofs.Common.{◌≡◌, ◌+◌, ◌-◌, ◌*◌, ◌≤◌, ◌<◌}
use Rattle.std.specs.Vec.{vec_len}
use Rattle.ak_turns.specs.Outside.{sink, wire}
use Rattle.ak_turns.specs.Turns.{most_bytes, most_idle}
use Rattle.ak_turns.specs.TurnsContracts.{IsCounted, progress_of}
use Rattle.ak_turns.proofs.RunLemmas.{Along}
use Rattle.ak_turns.proofs.turns.take_turns.Given as goal

-- no count of faults has risen, since a fault ends the run; and a turn takes two steps at most, so that no count comes to the end of
-- its type
abbrev pub invariant-turns : goal.invariant-turns
invariant-turns g l =
    Along l.config l.ticks
    (sink (g.W.Sink.written l.fn.output) (g.W.Sink.faults l.fn.output))
    (wire (g.L.Link.bound l.fn.link) (g.L.Link.sends l.fn.link) (g.L.Link.losses l.fn.link) (g.L.Link.coming l.fn.link))
    (g.C.Clock.readings l.fn.clock)
    (progress_of l.process) l.timer
    (sink (g.W.Sink.written l.output) (g.W.Sink.faults l.output))
    (wire (g.L.Link.bound l.link) (g.L.Link.sends l.link) (g.L.Link.losses l.link) (g.L.Link.coming l.link))
    (g.C.Clock.readings l.clock)
    × IsCounted (progress_of l.process)
    × (l.process.steps ≤ 2 + 2 * (l.timer.ticks * 10000001 + l.timer.idle))
    × (l.timer.ticks ≤ l.ticks)
    × (l.timer.idle < most_idle)
    × (vec_len l.buffer ≡ most_bytes)
    × (g.L.Link.faults l.link ≡ g.L.Link.faults l.fn.link)
    × (g.W.Sink.faults l.output ≡ g.W.Sink.faults l.fn.output)

-- a turn ticks, or is one more of the 10,000,000 in a row that may make no tick
abbrev pub decreases-turns : goal.decreases-turns
decreases-turns g l = (l.ticks - l.timer.ticks) * 10000001 + (10000000 - l.timer.idle)
