use Rattle.std.proofs.Common.{◌+◌, sym, ◌∙◌, arith}
use Rattle.std.specs.FinMap as map
use Rattle.ak_address.proofs.Failing.{on_err}
use Rattle.ak_address.proofs.TableLemmas.{place_in_range}
use Rattle.ak_clock.proofs.VersionLaws.{count_no_place}
use Rattle.ak_clock.proofs.version.bump_in.Goals as goal

pub set_at-requires : goal.set_at-requires
set_at-requires c = place_in_range c.args.counts.now c.args.author.now c.in-Ok.place c.in-Ok.ensures

pub returns-in_ok-insert_at-in-Err-clause-ok : goal.returns-in_ok-insert_at-in-Err-clause-ok
returns-in_ok-insert_at-in-Err-clause-ok c =
    let none = count_no_place c.args.counts.now c.args.author.now c.in-Err.place c.in-Err.ensures in
    (omega (arith, none), c.in_ok-insert_at-in-Err.ensures.ok ∙ (λ i. map.insert c.args.counts.now (c.in_ok-who-in-Err.ensures i) (sym none i + 1)))

pub returns-in_err-who-in-Err-clause-memory : goal.returns-in_err-who-in-Err-clause-memory
returns-in_err-who-in-Err-clause-memory c = on_err _ (count_no_place c.args.counts.now c.args.author.now c.in-Err.place c.in-Err.ensures)

pub returns-in_err-insert_at-in-Err-clause-memory : goal.returns-in_err-insert_at-in-Err-clause-memory
returns-in_err-insert_at-in-Err-clause-memory c = on_err _ (count_no_place c.args.counts.now c.args.author.now c.in-Err.place c.in-Err.ensures)
