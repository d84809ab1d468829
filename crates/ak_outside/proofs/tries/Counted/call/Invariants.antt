use Rattle.std.proofs.Common.{◌≡◌, List, length}
use Rattle.std.specs.List.{FoldsTo}
use Rattle.std.specs.declared.io.Error.{Error}
use Rattle.ak_outside.specs.Tries.{InterruptedCall}
use Rattle.ak_outside.proofs.tries.Counted.call.Given as goal

-- as many calls as the loop has made were interrupted, and none has failed
abbrev pub invariant-tries : goal.invariant-tries
invariant-tries g l =
    (errors : List Error) × (length errors ≡ l.counter) × FoldsTo (InterruptedCall (g.C.Attempt.gives l.with)) l.initial.self.caller errors l.self.caller
    × (l.self.fault_count ≡ l.initial.self.fault_count)
