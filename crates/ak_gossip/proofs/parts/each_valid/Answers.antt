use Rattle.std.proofs.Common.{sym, ap, ◌∙◌, refl, arith, length, Some}
use Rattle.std.proofs.lemmas.Option.{slice_get_within, slice_get-get_or}
use Rattle.ak_gossip.specs.Parts.{IsPart}
use Rattle.ak_gossip.proofs.PartsOrder.{all_so_far}
use Rattle.ak_gossip.proofs.parts.each_valid.Goals as goal

pub parts-preserved : goal.parts-preserved
parts-preserved c =
    all_so_far c.args.parts.now (IsPart (length c.args.parts.now)) c.parts.part-index c.part-item.result c.parts.invariant
    (slice_get-get_or c.args.parts.now c.parts.part-index c.part-item.result c.parts-test.true ∙ ap Some (sym c.part-item.is))
    (c.part_valid.ensures.0 c.if-not-part_valid.false)

pub returns : goal.returns
returns c = (λ _ i part is. c.parts.invariant i part (omega (arith, slice_get_within c.args.parts.now i part is)) is, λ _. refl)
