use Rattle.std.proofs.Common.{sym, ◌∙◌}
use Rattle.ak_address.proofs.TableLaws.{pairs_of}
use Rattle.ak_address.proofs.table.Table.pairs.Goals as goal

pub returns : goal.returns
returns g c = c.deref.ensures.value ∙ sym (pairs_of _ c.self.invariant _ c.self.view_is)
