use Rattle.std.proofs.Common.{sym, ◌∙◌}
use Rattle.ak_singleton.proofs.RulesMeant.{opens_below}
use Rattle.ak_singleton.proofs.singleton.Singleton.on_tick.Goals as goal

pub open-requires : goal.open-requires
open-requires c = opens_below c.args.me.now c.args.settled.now.view c.args.status c.args.margin c.args.self.now (sym c.tick_rule.ensures ∙ c.in-Opens.is)
