use Rattle.std.proofs.Common.{◌≡◌, ℕ, ◌+◌, ◌-◌, ◌<◌, length, reverse, take, sym, ap, ◌∙◌, arith}
use Rattle.std.proofs.lemmas.List.{length-reverse}
use Rattle.ak_history.specs.History.{entries_of}
use Rattle.ak_history.proofs.HistoryLemmas.{number-newest, entries-without, entries-most}
use Rattle.ak_history.proofs.history.last_number.Goals as goal

pub returns-then-is-clause-last : goal.returns-then-is-clause-last
returns-then-is-clause-last c =
    let entries = c.args.entries.now in
    let at : ℕ = length entries - 1 - c.entries.back in
    let within : at < length entries = omega (arith, c.entries-test.true) in
    let so_far : at + 1 ≡ length entries - c.entries.back = omega (arith, c.entries-test.true) in
    number-newest entries at c.index-entries-many.result within c.index-entries-many.is c.requires
    ∙ (λ i. entries_of (sym (c.is.ensures.meaning.0 c.if-is.true) i) (reverse (take (so_far i) entries)))
    ∙ c.entries.invariant

pub returns-then-is-clause-bounded : goal.returns-then-is-clause-bounded
returns-then-is-clause-bounded c =
    let entries = c.args.entries.now in
    let most = entries-most (reverse entries) c.args.author.now in
    omega (arith, most, length-reverse entries, returns-then-is-clause-last c)

pub entries-preserved : goal.entries-preserved
entries-preserved c =
    let entries = c.args.entries.now in
    let at : ℕ = length entries - 1 - c.entries.back in
    let within : at < length entries = omega (arith, c.entries-test.true) in
    let before : length entries - (c.entries.back + 1) ≡ at = omega (arith, c.entries-test.true) in
    let so_far : at + 1 ≡ length entries - c.entries.back = omega (arith, c.entries-test.true) in
    ap (λ n. entries_of c.args.author.now (reverse (take n entries))) before
    ∙ entries-without entries at c.index-entries-many.result within c.index-entries-many.is c.args.author.now (sym c.is.ensures.value ∙ c.if-is.false)
    ∙ ap (λ n. entries_of c.args.author.now (reverse (take n entries))) so_far
    ∙ c.entries.invariant
