use Rattle.std.proofs.Common.{sym, ap, ◌∙◌}
use Rattle.std.specs.FinMap as map
use Rattle.ak_converge.proofs.UsesLaws.{uses_len}
use Rattle.ak_converge.proofs.uses.Uses.len.Goals as goal

pub returns-clause-value : goal.returns-clause-value
returns-clause-value c = c.len.ensures.len ∙ sym (uses_len c.self.inside.counts.entries c.len.ensures.unique) ∙ ap map.len c.self.view_is
