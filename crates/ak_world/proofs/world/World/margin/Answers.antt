use Rattle.std.proofs.Common.{subst}
use Rattle.ak_world.specs.Margin.{IsMargin}
use Rattle.ak_world.specs.WorldContracts.{WorldModel}
use Rattle.ak_world.proofs.world.World.margin.Goals as goal

pub returns : goal.returns
returns c = subst (λ (w : WorldModel). IsMargin w.settings w.events c.self.inside.marks.margin) c.self.view_is c.self.invariant.is_margin
