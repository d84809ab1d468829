use Rattle.std.proofs.Common.{ap, ◌∙◌}
use Rattle.ak_settled.specs.Settled.{candidate}
use Rattle.ak_settled.proofs.SettledLemmas.{parts_candidate}
use Rattle.ak_settled.proofs.settled.Settled.candidate.Goals as goal

pub returns : goal.returns
returns c = c.oldest.ensures.value ∙ parts_candidate _ _ _ c.self.inside.exists c.self.invariant ∙ ap (λ s. candidate s.view) c.self.view_is
