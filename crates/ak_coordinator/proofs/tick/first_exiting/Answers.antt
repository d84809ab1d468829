use Rattle.std.proofs.Common.{sym, ◌∙◌}
use Rattle.ak_coordinator.proofs.TickLemmas.{none_leaves}
use Rattle.ak_coordinator.proofs.tick.first_exiting.Goals as goal

pub returns-then-not-any_exiting-clause-first : goal.returns-then-not-any_exiting-clause-first
returns-then-not-any_exiting-clause-first c = none_leaves c.args.members.now 0 c.args.entries.now (sym c.any_exiting.ensures ∙ c.if-not-any_exiting.true)
