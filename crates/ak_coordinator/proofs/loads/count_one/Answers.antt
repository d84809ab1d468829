use Rattle.std.proofs.Common.{◌+◌, sym, ◌∙◌}
use Rattle.std.specs.FinMap as map
use Rattle.ak_address.proofs.TableLemmas.{place_in_range}
use Rattle.ak_clock.proofs.VersionLaws.{count_no_place}
use Rattle.ak_coordinator.proofs.loads.count_one.Goals as goal

pub set_at-requires : goal.set_at-requires
set_at-requires c = place_in_range c.args.counts.now c.args.who.now c.in-Ok.place c.in-Ok.ensures

pub returns-in_ok-insert_at-in-Err : goal.returns-in_ok-insert_at-in-Err
returns-in_ok-insert_at-in-Err c =
    let none = count_no_place c.args.counts.now c.args.who.now c.in-Err.place c.in-Err.ensures in
    c.in_ok-insert_at-in-Err.ensures.ok ∙ (λ i. map.insert c.args.counts.now (c.in_ok-who-in-Err.ensures i) (sym none i + 1))
