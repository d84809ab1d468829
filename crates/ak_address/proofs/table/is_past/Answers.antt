use Rattle.std.proofs.Common.{ℕ, ◌-◌, ◌<◌, length, sym, ◌∙◌, arith}
use Rattle.std.proofs.lemmas.Option.{slice_get-get_or}
use Rattle.ak_address.specs.Unique.{unique_cmp}
use Rattle.ak_address.proofs.OrderLemmas.{unique_total}
use Rattle.ak_address.proofs.TableLaws.{is_true}
use Rattle.ak_address.proofs.Pairs.{is_greater, index_past}
use Rattle.ak_address.proofs.table.is_past.Goals as goal

pub returns : goal.returns
returns g c past =
    let es = c.args.entries.now in
    let last : ℕ = length es - 1 in
    let within : last < length es = omega (arith, c.if-many-eq0.false) in
    let at = slice_get-get_or es last c.index-entries-many.result within in
    let greater = sym c.compare.ensures ∙ is_greater _ _ c.is_gt.ensures past in
    index_past unique_cmp c.args.who.now unique_total es (is_true _ c.requires) last _ at (omega (arith, within)) greater
