use Rattle.std.proofs.Common.{sym, ap, ◌∙◌}
use Rattle.ak_world.specs.MarginMark as mark
use Rattle.ak_world.specs.WorldContracts.{states}
use Rattle.ak_world.proofs.WorldLemmas.{position-states}
use Rattle.ak_world.proofs.margin.running_end.Goals as goal

pub returns-in-MarginEnd : goal.returns-in-MarginEnd
returns-in-MarginEnd c =
    c.running_of.ensures
    ∙ sym (position-states (mark.runs_as c.in-MarginEnd.who) c.args.nodes.now)
    ∙ ap (mark.running_end (states c.args.nodes.now)) (sym c.in-MarginEnd.is)
