use Rattle.std.proofs.Common.{true≢false, sym, ap, ◌∙◌}
use Rattle.std.specs.FinMap as map
use Rattle.ak_address.specs.Unique.{unique_cmp}
use Rattle.ak_address.proofs.TableLaws.{no_pairs}
use Rattle.ak_address.proofs.table.Table.with_capacity.Goals as goal

pub returns-clause-ok : goal.returns-clause-ok
returns-clause-ok g c = ap (λ es. map.from_sorted {R = unique_cmp} es) c.in_ok-entries.ensures.items ∙ no_pairs

pub returns-in_err-entries-clause-memory : goal.returns-in_err-entries-clause-memory
returns-in_err-entries-clause-memory g c none = absurd (true≢false (sym ((c.in_err-entries.ensures {u = tt}).succeeds none)))
