use Rattle.ak_wire.proofs.DatagramFields.{datagrams_free}
use Rattle.ak_wire.proofs.Decided.{one_spelling}
use Rattle.ak_wire.proofs.laws.no_datagram_begins_another.Goals as goal

pub returns : goal.returns
returns c = record { one = one_spelling; free = datagrams_free }
