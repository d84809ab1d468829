use Rattle.ak_packet.specs.AlikeLaws.{alike_decides}
use Rattle.ak_packet.proofs.laws.alike_packets_say_the_same.Goals as goal

pub returns : goal.returns
returns c = alike_decides
