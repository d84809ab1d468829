use Rattle.std.proofs.Common.{None, Some}
use Rattle.ak_outside.proofs.Interruptions.{Settles-writes}
use Rattle.ak_outside.proofs.writer.WriterSinkSink.write.Goals as goal

pub returns-in-Some-clause-bytes : goal.returns-in-Some-clause-bytes
returns-in-Some-clause-bytes g c =
    (Settles-writes g.T.Write.contents c.args.bytes.now c.args.self.now.calls.caller (Some c.in-Some.count) c.call.new.self.caller c.in-Some.ensures.settled).2

pub returns-in-None-clause-bytes : goal.returns-in-None-clause-bytes
returns-in-None-clause-bytes g c =
    Settles-writes g.T.Write.contents c.args.bytes.now c.args.self.now.calls.caller None c.call.new.self.caller c.in-None.ensures.settled
