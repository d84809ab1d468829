use Rattle.std.proofs.Common.{sym, ap, ◌∙◌, Some}
use Rattle.std.proofs.lemmas.Option.{slice_get-get_or}
use Rattle.ak_gossip.proofs.parts.version_of.Goals as goal

pub reach-requires : goal.reach-requires
reach-requires c =
    (c.requires.each c.parts.part-index c.part-item.result
    (slice_get-get_or c.args.parts.now c.parts.part-index c.part-item.result c.parts-test.true ∙ ap Some (sym c.part-item.is))).count
