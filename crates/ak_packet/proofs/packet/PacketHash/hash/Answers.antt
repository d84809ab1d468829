use Rattle.std.proofs.Common.{ap, ◌∙◌, fold}
use Rattle.ak_packet.specs.Hashed.{hashed}
use Rattle.ak_packet.proofs.PacketLemmas.{fed_alike}
use Rattle.ak_packet.proofs.packet.PacketHash.hash.Goals as goal

pub returns : goal.returns
returns g c =
    fed_alike g.H.Hasher.write c.args.state.now c.hash_envelope.new.state c.args.self.now
    (c.hash_envelope.ensures ∙ ap (λ e. fold g.H.Hasher.write c.args.state.now (hashed e)) (c.get.ensures ∙ c.self.view_is))
