use Rattle.std.proofs.Common.{◌≡◌, None, List, [], ℕ, ap, sym, subst, ◌∙◌}
use Rattle.ak_address.specs.Unique.{UniqueModel}
use Rattle.ak_address.proofs.TableLaws.{entries-empty}
use Rattle.std.specs.FinMap as map
use Rattle.std.proofs.lemmas.Result.{err_from_is_err_and}
use Rattle.ak_field.specs.Reading.{items_at}
use Rattle.ak_field.specs.Lists.{counted_at}
use Rattle.ak_field.proofs.Items.{Reached, starts, goes_on, ends, is_done}
use Rattle.ak_field.proofs.Versions.{counts_done, counts_fail}
use Rattle.ak_field.proofs.fields.Fields.some_counts.Goals as goal

pub returns-in_err-add_count : goal.returns-in_err-add_count
returns-in_err-add_count c =
    let total = items_at counted_at None c.args.many c.args.self.now in
    let fault = c.in_err-add_count.field-0.0 in
    let p = err_from_is_err_and c.from_residual.result c.from_residual.ensures.1 in
    rw (p.1, p.2) (counts_fail fault c.args.many c.args.self.now (ends counted_at fault (map.entries c.counts.version) c.args.many c.counts.counter c.counts.self total c.counts-test.true c.in_err-add_count.ensures c.counts.invariant))

pub counts-preserved : goal.counts-preserved
counts-preserved c =
    let added = c.in_ok-add_count.ensures in
    goes_on counted_at (map.entries c.counts.version) (map.entries c.add_count.new.version) c.args.many c.counts.counter c.counts.self c.add_count.new.self (items_at counted_at None c.args.many c.args.self.now) c.counts-test.true added.0 added.1 added.2 c.counts.invariant

pub returns : goal.returns
returns c =
    counts_done c.counts.version c.args.many c.args.self.now c.counts.self (is_done counted_at (map.entries c.counts.version) c.args.many c.counts.counter c.counts.self (items_at counted_at None c.args.many c.args.self.now) c.counts-test.false c.counts.invariant)

pub counts-init : goal.counts-init
counts-init c =
    let total = items_at counted_at None c.args.many c.args.self.now in
    let empty : map.entries c.empty-version.result ≡ [] = ap map.entries c.empty-version.ensures ∙ entries-empty in
    subst (λ (es : List (UniqueModel × ℕ)). Reached counted_at es c.args.many 0 c.args.self.now total) (sym empty) (starts counted_at c.args.many c.args.self.now)
