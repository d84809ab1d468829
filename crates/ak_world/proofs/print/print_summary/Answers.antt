use Rattle.std.proofs.Common.{ap, ◌∙◌, length}
use Rattle.std.proofs.lemmas.Result.{on_ok_weaker}
use Rattle.ak_world.proofs.StepLemmas.{summary_printed, summary_of}
use Rattle.ak_world.proofs.print.print_summary.Goals as goal

pub returns-clause-ok : goal.returns-clause-ok
returns-clause-ok c =
    on_ok_weaker _
    (summary_of c.args.world.now.settings c.args.world.now.events c.args.steps c.args.world.now.state _ _ _ _ _ c.margin.ensures c.first_double.ensures
    (c.deref.ensures.value ∙ summary_printed c.args.steps c.margin.result _ c.args.world.now.state _ _ _ _ _ _ _ _
    c.packets.ensures (c.len.ensures ∙ ap length c.history.ensures) c.new-text.ensures.items
    c.in_ok-print_count.ensures c.in_ok-print_count-2.ensures c.in_ok-print_count-3.ensures c.in_ok-print_margin.ensures c.in_ok-print_double.ensures))
    c.print_bytes.ensures.ok
