use Rattle.std.proofs.Common.{Some, sym, ap, ◌∙◌}
use Rattle.std.proofs.lemmas.Option.{slice_get-get_or}
use Rattle.ak_address.proofs.Failing.{on_err}
use Rattle.ak_history.specs.History.{is_covered}
use Rattle.ak_history.proofs.WalkLemmas.{any_reversed}
use Rattle.ak_history.proofs.history.shown_by.Goals as goal

-- where it fails, an entry is covered
pub returns-in_err-shown-clause-memory : goal.returns-in_err-shown-clause-memory
returns-in_err-shown-clause-memory c =
    let at = slice_get-get_or c.args.entries.now c.entries.entry-index c.entry-item.result c.entries-test.true ∙ ap (λ e. Some e) (sym c.entry-item.is) in
    on_err _ (any_reversed (is_covered c.args.version.now) c.args.entries.now c.entries.entry-index c.entry-item.result at (c.in_err-shown.ensures {u = tt}).memory)
