use Rattle.std.proofs.Common.{ap, ◌∙◌}
use Rattle.ak_world.specs.Stored.{different}
use Rattle.ak_world.proofs.StoredLemmas.{stored_different}
use Rattle.ak_world.proofs.packets.Packets.stored.Goals as goal

pub returns : goal.returns
returns c = c.len.ensures.len ∙ stored_different c.self.inside.stored.keys c.self.inside.places.items c.len.ensures.unique c.self.invariant ∙ ap different c.self.view_is
