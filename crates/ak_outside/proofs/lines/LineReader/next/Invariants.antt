use Rattle.std.proofs.Common.{◌≡◌, ◌-◌, length, true, Some, IfSome, if◌then◌else◌}
use Rattle.ak_outside.specs.Lines.{to_come, EndedBy}
use Rattle.ak_outside.proofs.lines.LineReader.next.Given as goal

abbrev pub invariant-reads : goal.invariant-reads
invariant-reads g l =
    (g.S.Source.faults l.input ≡ g.S.Source.faults l.initial.input)
    × IfSome (to_come l.initial.self (g.S.Source.remaining l.initial.input)) (λ bytes. to_come l.self (g.S.Source.remaining l.input) ≡ Some bytes)
    × (l.initial.self.ended ≡ true → l.self.ended ≡ true)
    × (l.self.ended ≡ true → EndedBy l.initial.self.ended (g.S.Source.remaining l.initial.input) (g.S.Source.remaining l.input))

abbrev pub decreases-reads : goal.decreases-reads
decreases-reads g l = if l.self.ended then 0 else 4099 - length l.self.held
