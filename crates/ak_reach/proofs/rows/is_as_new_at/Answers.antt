use Rattle.std.proofs.Common.{Some, option_map, sym, ap, ◌∙◌}
use Rattle.ak_address.proofs.TableLemmas.{get_at_place}
use Rattle.ak_reach.specs.Reach.{is_as_new}
use Rattle.ak_reach.proofs.rows.is_as_new_at.Goals as goal

pub returns-in_default : goal.returns-in_default
returns-in_default c who is = sym (ap (λ o. is_as_new o c.args.number) (get_at_place c.args.rows.now who c.args.place is ∙ ap (option_map (λ e. e.1)) (sym c.in_default.ensures)))

pub returns : goal.returns
returns c who is =
    ap (λ row. is_as_new (Some row) c.args.number) c.row.view_is
    ∙ sym (ap (λ o. is_as_new o c.args.number) (get_at_place c.args.rows.now who c.args.place is ∙ ap (option_map (λ e. e.1)) (sym c.in-Some.ensures)))
