use Rattle.std.proofs.Common.{sym, ap, ◌∙◌}
use Rattle.ak_address.specs.Pairs.{index}
use Rattle.ak_address.specs.Unique.{unique_cmp}
use Rattle.ak_address.proofs.TableLaws.{pairs_of}
use Rattle.ak_address.proofs.table.Table.place.Goals as goal

pub returns : goal.returns
returns g c = c.index_of.ensures ∙ ap (index unique_cmp c.args.who.now) (c.deref.ensures.value ∙ sym (pairs_of _ c.self.invariant _ c.self.view_is))
