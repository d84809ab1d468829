use Rattle.std.proofs.Common.{sym, ◌∙◌, subst}
use Rattle.ak_gossip.specs.Parts.{AreParts}
use Rattle.ak_wire.proofs.GossipFields.{read_parts, gossip_read}
use Rattle.ak_wire.proofs.bodies.gossip.Goals as goal

pub from_parts-requires : goal.from_parts-requires
from_parts-requires c = subst AreParts (sym c.as_slice.ensures) (read_parts c.args.fields.now c.parts.new.self c.in_ok-parts.parts c.invariant.ensures c.in_ok-parts.ensures.read)

pub returns : goal.returns
returns c =
    gossip_read c.args.fields.now c.parts.new.self c.in_ok-parts.parts c.in_ok-from_parts.field-0
    (read_parts c.args.fields.now c.parts.new.self c.in_ok-parts.parts c.invariant.ensures c.in_ok-parts.ensures.read)
    c.in_ok-parts.ensures.read
    (λ h is parts. c.in_ok-from_parts.ensures.back h is (parts ∙ sym c.as_slice.ensures))
