use Rattle.std.proofs.Common.{sym, ◌∙◌}
use Rattle.ak_driver.proofs.FinishLemmas.{finishes, is_some-doubled}
use Rattle.ak_driver.proofs.replay.Replay.finish.Goals as goal

pub returns-in_ok-print_summary-in-Running : goal.returns-in_ok-print_summary-in-Running
returns-in_ok-print_summary-in-Running c =
    let told = (c.in_ok-print_summary-in-Running.ensures {u = tt}).ok in
    finishes c.args.self.now c.in-Running.world c.args.out.now.items c.print_summary.new.out.items told.0 _ _ c.in-Running.is c.requires told.1 told.2 c.first_double.ensures
    (c.is_some.ensures ∙ sym (is_some-doubled c.first_double.result))
