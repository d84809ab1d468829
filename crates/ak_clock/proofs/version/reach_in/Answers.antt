use Rattle.std.proofs.Common.{◌≡◌, OnOk, sym, subst, arith}
use Rattle.std.specs.FinMap as map
use Rattle.ak_address.proofs.Failing.{on_err}
use Rattle.ak_address.proofs.TableLemmas.{place_in_range}
use Rattle.ak_clock.proofs.VersionLaws.{count_no_place, reaching-rises}
use Rattle.ak_clock.proofs.version.reach_in.Goals as goal

pub set_at-requires : goal.set_at-requires
set_at-requires c = place_in_range c.args.counts.now c.args.who.now c.in-Ok.place c.in-Ok.ensures

pub returns-in_err-who-in-Err-clause-reached : goal.returns-in_err-who-in-Err-clause-reached
returns-in_err-who-in-Err-clause-reached c reached = absurd (omega (arith, reached, c.if-least-eq0.false, count_no_place c.args.counts.now c.args.who.now c.in-Err.place c.in-Err.ensures))

pub returns-in_ok-who-in-Err-clause-reached : goal.returns-in_ok-who-in-Err-clause-reached
returns-in_ok-who-in-Err-clause-reached c reached = absurd (omega (arith, reached, c.if-least-eq0.false, count_no_place c.args.counts.now c.args.who.now c.in-Err.place c.in-Err.ensures))

pub returns-in_ok-who-in-Err-clause-ok : goal.returns-in_ok-who-in-Err-clause-ok
returns-in_ok-who-in-Err-clause-ok c =
    let none = count_no_place c.args.counts.now c.args.who.now c.in-Err.place c.in-Err.ensures in
    let rises = reaching-rises c.args.counts.now c.args.who.now c.args.least (omega (arith, none, c.if-least-eq0.false)) in
    subst (λ t. OnOk c.insert_at.result (c.insert_at.new.self ≡ t)) (sym rises) (subst (λ w. OnOk c.insert_at.result (c.insert_at.new.self ≡ map.insert c.args.counts.now w c.args.least)) c.in_ok-who-in-Err.ensures c.insert_at.ensures.ok)

-- whoever has no place has no count
pub returns-in_err-who-in-Err-clause-memory : goal.returns-in_err-who-in-Err-clause-memory
returns-in_err-who-in-Err-clause-memory c = on_err _ (count_no_place c.args.counts.now c.args.who.now c.in-Err.place c.in-Err.ensures)

pub returns-in_ok-who-in-Err-clause-memory : goal.returns-in_ok-who-in-Err-clause-memory
returns-in_ok-who-in-Err-clause-memory c = on_err _ (count_no_place c.args.counts.now c.args.who.now c.in-Err.place c.in-Err.ensures)
