use Rattle.std.proofs.Common.{rules, length, sym, ap, ◌∙◌}
use Rattle.ak_world.proofs.StoredLemmas.{length-at_places}
use Rattle.ak_world.proofs.packets.Packets.len.Goals as goal

pub returns-clause-value : goal.returns-clause-value
returns-clause-value c = c.len.ensures ∙ search rules ∙ sym (length-at_places c.self.inside.stored.keys c.self.inside.places.items c.self.invariant.placed) ∙ ap length c.self.view_is
