use Rattle.std.proofs.Common.{arith}
use Rattle.ak_field.specs.Spelling.{format, header, process}
use Rattle.ak_wire.specs.Datagram.{kind_number, receiver, body}
use Rattle.ak_wire.proofs.Lengths.{four_lengths}
use Rattle.ak_wire.proofs.measuring.datagram_len.Goals as goal

pub returns : goal.returns
returns c =
    let e = c.args.envelope.now in
    omega (arith, four_lengths (header (format, kind_number e.message)) (process e.from) (process (receiver e)) (body e.message), c.unique_len.ensures.is, c.process_len.ensures.length e.uid, c.body_len.ensures.is)
