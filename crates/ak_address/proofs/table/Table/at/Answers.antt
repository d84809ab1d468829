use Rattle.std.proofs.Common.{sym, ap, ◌∙◌, slice_get}
use Rattle.ak_address.proofs.TableLaws.{pairs_of}
use Rattle.ak_address.proofs.table.Table.at.Goals as goal

pub returns : goal.returns
returns g c = c.pair_at.ensures ∙ ap (λ es. slice_get es c.args.index) (c.deref.ensures.value ∙ sym (pairs_of _ c.self.invariant _ c.self.view_is))
