use Rattle.std.proofs.Common.{unwrap_or, option_map, sym, ap, ◌∙◌}
use Rattle.ak_address.proofs.TableLemmas.{get_at_place}
use Rattle.ak_coordinator.proofs.loads.count_at.Goals as goal

pub returns-in-Some : goal.returns-in-Some
returns-in-Some c who is = sym (ap (λ o. unwrap_or o 0) (get_at_place c.args.counts.now who c.args.place is ∙ ap (option_map (λ e. e.1)) (sym c.in-Some.ensures)))

pub returns-in-None : goal.returns-in-None
returns-in-None c who is = sym (ap (λ o. unwrap_or o 0) (get_at_place c.args.counts.now who c.args.place is ∙ ap (option_map (λ e. e.1)) (sym c.in-None.ensures)))
