use Rattle.ak_singleton.proofs.RulesMeant.{rules_exact}
use Rattle.ak_singleton.proofs.laws.tick_rules_are_exact.Goals as goal

pub returns : goal.returns
returns c rule me settled status margin s = rules_exact me settled status margin s rule
