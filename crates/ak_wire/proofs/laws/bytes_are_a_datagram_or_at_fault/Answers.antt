use Rattle.ak_wire.proofs.Decided.{decided, header_first}
use Rattle.ak_wire.proofs.laws.bytes_are_a_datagram_or_at_fault.Goals as goal

pub returns : goal.returns
returns c = record { decided = decided; header = header_first }
