use Rattle.std.proofs.Common.{◌∙◌}
use Rattle.ak_address.proofs.TableLaws.{pairs_counted}
use Rattle.ak_address.proofs.table.Table.len.Goals as goal

pub returns : goal.returns
returns g c = c.len.ensures ∙ c.self.inside.entries.ok.0 ∙ pairs_counted _ c.self.invariant _ c.self.view_is
