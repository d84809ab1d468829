use Rattle.std.proofs.Common.{unwrap_or, option_map, sym, ap, ◌∙◌}
use Rattle.ak_address.proofs.TableLemmas.{get_at_place}
use Rattle.ak_clock.proofs.version.count_at.Goals as goal

pub returns-in_default : goal.returns-in_default
returns-in_default c who is = sym (ap (λ o. unwrap_or o 0) (get_at_place c.args.counts.now who c.args.place is ∙ ap (option_map (λ e. e.1)) (sym c.in_default.ensures)))

pub returns : goal.returns
returns c who is = sym (ap (λ o. unwrap_or o 0) (get_at_place c.args.counts.now who c.args.place is ∙ ap (option_map (λ e. e.1)) (sym c.in-Some.ensures)))
