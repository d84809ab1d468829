use Rattle.std.proofs.Common.{sym, ap, ◌∙◌}
use Rattle.ak_packet.specs.Alike.{bare}
use Rattle.ak_packet.specs.AlikeLaws.{tells_alike}
use Rattle.ak_packet.proofs.packet.PacketPartialEq.eq.Goals as goal

pub returns : goal.returns
returns c =
    let own = ap bare (c.get.ensures ∙ c.self.view_is) in
    let others = ap bare (c.get-2.ensures ∙ c.other.view_is) in
    tells_alike c.args.self.now c.args.other.now c.is_alike.result
    (λ yes. sym own ∙ c.is_alike.ensures.0 yes ∙ others, λ same. c.is_alike.ensures.1 (own ∙ same ∙ sym others))
