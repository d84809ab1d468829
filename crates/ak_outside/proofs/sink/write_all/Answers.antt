use Rattle.std.proofs.Common.{◌∙◌, arith}
use Rattle.std.proofs.lemmas.List.{length-take, length-drop}
use Rattle.ak_outside.proofs.Prefixes.{Appends-pieces}
use Rattle.ak_outside.proofs.sink.write_all.Goals as goal

pub pieces-preserved : goal.pieces-preserved
pieces-preserved g c = (
  grind (arith, length-take, length-drop),
  c.in-Took.ensures.cause ∙ c.pieces.invariant.1,
  Appends-pieces _ _ _ c.pieces.done c.in-Took.more c.args.bytes.now c.pieces.invariant.2 c.in-Took.ensures.bytes,
)
