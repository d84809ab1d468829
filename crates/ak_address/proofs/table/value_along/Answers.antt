use Rattle.std.proofs.Common.{cond, Some, drop, ◌+◌, sym, ap, ◌∙◌, arith}
use Rattle.std.proofs.lemmas.List.{at_drop_all}
use Rattle.std.specs.FinMap as map
use Rattle.ak_address.specs.Unique.{unique_cmp}
use Rattle.ak_address.proofs.Pairs.{find_from}
use Rattle.ak_address.proofs.table.value_along.Goals as goal

pub entries-preserved : goal.entries-preserved
entries-preserved g c =
    c.entries.invariant
    ∙ find_from unique_cmp c.args.who.now c.args.entries.now c.entries.entry-index c.entry-item.result c.is.result (omega arith) c.entry-item.is c.is.ensures.value
    ∙ ap (λ b. cond b (Some c.entry-item.result.1) (map.find unique_cmp c.args.who.now (drop (c.entries.entry-index + 1) c.args.entries.now))) c.if-is.false

pub returns-then-is : goal.returns-then-is
returns-then-is g c =
    sym (c.entries.invariant
    ∙ find_from unique_cmp c.args.who.now c.args.entries.now c.entries.entry-index c.entry-item.result c.is.result (omega arith) c.entry-item.is c.is.ensures.value
    ∙ ap (λ b. cond b (Some c.entry-item.result.1) (map.find unique_cmp c.args.who.now (drop (c.entries.entry-index + 1) c.args.entries.now))) c.if-is.true)

pub returns : goal.returns
returns g c = sym (c.entries.invariant ∙ at_drop_all (map.find unique_cmp c.args.who.now) c.args.entries.now c.entries.entry-index (omega arith))
