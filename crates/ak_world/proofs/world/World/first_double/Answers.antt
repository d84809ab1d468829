use Rattle.std.proofs.Common.{Option, sym, subst}
use Rattle.std.specs.Option.{option_map}
use Rattle.ak_world.specs.Double.{IsFirstDouble}
use Rattle.ak_world.specs.declared.double.Double.{Double}
use Rattle.ak_world.specs.WorldContracts.{WorldModel, doubled_of}
use Rattle.ak_world.proofs.world.World.first_double.Goals as goal

pub returns : goal.returns
returns c =
    subst (λ (o : Option Double). IsFirstDouble c.args.self.now.settings c.args.self.now.events (option_map doubled_of o)) (sym c.as_ref.ensures.value)
    (subst (λ (w : WorldModel). IsFirstDouble w.settings w.events (option_map doubled_of c.self.inside.marks.double)) c.self.view_is c.self.invariant.is_double)
