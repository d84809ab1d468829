use Rattle.std.proofs.Common.{sym, ap, arith}
use Rattle.std.specs.FinMap as map
use Rattle.std.specs.Result.{result_ok}
use Rattle.std.proofs.lemmas.Option.{slice_get_within}
use Rattle.ak_gossip.proofs.PartsLemmas.{length-keys}
use Rattle.ak_gossip.proofs.PartsPlaces.{there}
use Rattle.ak_gossip.proofs.parts.push_index.Goals as goal

pub overflow_cast-index : goal.overflow_cast-index
overflow_cast-index c =
    let everybody = c.args.everybody.now in
    let within = slice_get_within (map.keys everybody) c.in-Ok.index c.args.who.now (there everybody c.args.who.now c.in-Ok.index (ap result_ok (sym c.in-Ok.ensures))) in
    omega (arith, within, length-keys everybody, c.requires)
