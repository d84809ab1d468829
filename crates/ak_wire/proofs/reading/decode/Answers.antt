use Rattle.std.proofs.Common.{arith}
use Rattle.ak_wire.proofs.DatagramFields.{spelled_of, only_of}
use Rattle.ak_wire.proofs.reading.decode.Goals as goal

pub returns : goal.returns
returns c = record {
  read = c.read.ensures.read;
  spelled = spelled_of c.read.result c.args.bytes.now (λ i. omega (arith, c.type_inv.bytes i)) c.read.ensures.read;
  only = only_of c.read.result c.args.bytes.now c.read.ensures.read;
  memory = c.read.ensures.memory;
}
