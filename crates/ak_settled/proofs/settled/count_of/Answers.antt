use Rattle.std.proofs.Common.{sym, ap, ◌∙◌, unwrap_or, option_map}
use Rattle.ak_settled.specs.declared.ticks.Ticks.{Ticks}
use Rattle.ak_settled.proofs.SettledLemmas.{counted}
use Rattle.ak_settled.proofs.settled.count_of.Goals as goal

pub returns-in-Some : goal.returns-in-Some
returns-in-Some c = sym (counted c.args.counters.now c.args.who.now ∙ ap (λ o. unwrap_or (option_map (λ (t : Ticks). t.count) o) 0) (sym c.in-Some.ensures))

pub returns-in-None : goal.returns-in-None
returns-in-None c = sym (counted c.args.counters.now c.args.who.now ∙ ap (λ o. unwrap_or (option_map (λ (t : Ticks). t.count) o) 0) (sym c.in-None.ensures))
