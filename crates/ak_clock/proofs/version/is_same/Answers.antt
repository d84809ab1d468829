use Rattle.std.proofs.Common.{sym, ◌∙◌}
use Rattle.std.specs.FinMap as map
use Rattle.ak_clock.proofs.version.is_same.Goals as goal

pub returns : goal.returns
returns c = λ same. map.same_entries_map c.args.counts.now c.args.others.now (sym c.pairs.ensures ∙ c.are_same.ensures same ∙ c.pairs-2.ensures)
