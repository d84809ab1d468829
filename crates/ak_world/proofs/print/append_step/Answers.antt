use Rattle.std.proofs.lemmas.Result.{on_ok_weaker}
use Rattle.ak_world.proofs.StepLemmas.{step_printed}
use Rattle.ak_world.proofs.print.append_step.Goals as goal

pub returns : goal.returns
returns c =
    on_ok_weaker _
    (step_printed c.args.step.now.arrived c.args.step.now.first_packet c.args.step_number c.args.event.now
    (record { world = c.args.world.now.state; node = c.args.step.now.node; actions = c.args.step.now.actions })
    _ _ _ _ _ _
    c.acting-node.ensures
    c.as_ref.ensures.value
    c.in_ok-print_head.ensures c.in_ok-print_delivery.ensures)
    c.print_done.ensures
