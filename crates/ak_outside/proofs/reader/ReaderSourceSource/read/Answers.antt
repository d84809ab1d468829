use Rattle.std.proofs.Common.{rules, None, Some, length}
use Rattle.ak_outside.proofs.Copied.{copied_first, ends_exactly}
use Rattle.ak_outside.proofs.Interruptions.{Settles-reads}
use Rattle.ak_outside.proofs.reader.ReaderSourceSource.read.Goals as goal

pub returns-in-Some-clause-bytes : goal.returns-in-Some-clause-bytes
returns-in-Some-clause-bytes g c =
    copied_first (g.T.Read.remaining c.args.self.now.calls.caller.reader) _ c.in-Some.count c.call.new.self.caller.buffer c.args.buffer.now c.copy_from_slice.new.self
    (Settles-reads (λ s. g.T.Read.remaining s.reader) (λ s. s.buffer) (length c.args.buffer.now) c.args.self.now.calls.caller (Some c.in-Some.count) c.call.new.self.caller c.in-Some.ensures.settled)
    c.copy_from_slice.ensures.after

pub returns-in-Some-clause-end : goal.returns-in-Some-clause-end
returns-in-Some-clause-end g c =
    λ some.
    ends_exactly (g.T.Read.remaining c.args.self.now.calls.caller.reader) _ c.in-Some.count c.call.new.self.caller.buffer c.args.buffer.now
    (Settles-reads (λ s. g.T.Read.remaining s.reader) (λ s. s.buffer) (length c.args.buffer.now) c.args.self.now.calls.caller (Some c.in-Some.count) c.call.new.self.caller c.in-Some.ensures.settled)
    (search rules) (search rules)

pub returns-in-None-clause-bytes : goal.returns-in-None-clause-bytes
returns-in-None-clause-bytes g c =
    Settles-reads (λ s. g.T.Read.remaining s.reader) (λ s. s.buffer) _ c.args.self.now.calls.caller None c.call.new.self.caller c.in-None.ensures.settled
