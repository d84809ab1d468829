use Rattle.std.proofs.Common.{[], ◌∷◌, ap}
use Rattle.std.proofs.lemmas.Result.{on_ok_weaker}
use Rattle.ak_world.specs.StepText.{margin_text}
use Rattle.ak_world.proofs.StepLemmas.{margin_done}
use Rattle.ak_world.proofs.print.print_margin.Goals as goal

pub returns-in_ok-print_name-in-Broken-2 : goal.returns-in_ok-print_name-in-Broken-2
returns-in_ok-print_name-in-Broken-2 c =
    on_ok_weaker _
    (margin_done _ _ _ _ _ _ (10 ∷ []) (margin_text c.args.margin c.args.world.now.state.nodes) _ _ _ _ _ _ _ _
    c.in_ok-print_bytes-in-Broken.ensures.ok c.in_ok-print_number-in-Broken.ensures.ok c.in_ok-print_bytes-in-Broken-2.ensures.ok
    c.in_ok-print_name-in-Broken.ensures c.in_ok-print_bytes-in-Broken-3.ensures.ok c.in_ok-print_name-in-Broken-2.ensures
    (ap (λ m. margin_text m c.args.world.now.state.nodes) c.in-Broken.is))
    c.print_bytes-in-Broken-4.ensures.ok
