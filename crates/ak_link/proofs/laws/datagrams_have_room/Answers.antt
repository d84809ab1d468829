use Rattle.ak_link.proofs.Longest.{datagram_len}
use Rattle.ak_link.proofs.laws.datagrams_have_room.Goals as goal

pub returns : goal.returns
returns c = datagram_len
