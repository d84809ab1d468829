use Rattle.std.proofs.Common.{false, ◌∙◌}
use Rattle.ak_settled.specs.Ticks.{settled_of}
use Rattle.ak_settled.proofs.SettledLemmas.{nothing_noted}
use Rattle.ak_settled.proofs.settled.Settled.none.Goals as goal

pub returns : goal.returns
returns c = (λ i. settled_of false (c.empty-version.ensures i) (c.empty-members.ensures i) (c.empty-counters.ensures i)) ∙ nothing_noted
