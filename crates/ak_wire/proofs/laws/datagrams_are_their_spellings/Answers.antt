use Rattle.ak_wire.proofs.DatagramFields.{read_again, read_was, spells_written, spelled_valid}
use Rattle.std.proofs.Common.{refl}
use Rattle.ak_wire.specs.Datagram.{datagram}
use Rattle.ak_wire.proofs.laws.datagrams_are_their_spellings.Goals as goal

pub returns : goal.returns
returns c = record { again = read_again; was = read_was; written = λ bytes e spells. spells_written (datagram e) e refl (spelled_valid bytes e spells) }
