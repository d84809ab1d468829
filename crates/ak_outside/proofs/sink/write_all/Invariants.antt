use Rattle.std.proofs.Common.{length, ◌-◌, ◌≡◌, ◌≤◌, take}
use Rattle.std.specs.Io.KnownBytes.{Appends}
use Rattle.ak_outside.proofs.sink.write_all.Given as goal

abbrev pub invariant-pieces : goal.invariant-pieces
invariant-pieces g l =
    (l.done ≤ length l.bytes)
    × (g.W.Sink.faults l.sink ≡ g.W.Sink.faults l.initial.sink)
    × Appends (g.W.Sink.written l.initial.sink) (g.W.Sink.written l.sink) (take l.done l.bytes)

abbrev pub decreases-pieces : goal.decreases-pieces
decreases-pieces g l = length l.bytes - l.done
