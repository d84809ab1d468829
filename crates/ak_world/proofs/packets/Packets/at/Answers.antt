use Rattle.std.proofs.Common.{ℕ, List, sym, ap, ◌∙◌}
use Rattle.ak_wire.specs.declared.envelope.Envelope.{Envelope}
use Rattle.ak_world.specs.World.{numbered}
use Rattle.ak_world.specs.Stored.{place_at}
use Rattle.ak_world.proofs.StoredLemmas.{numbered_there, numbered_none}
use Rattle.ak_world.proofs.packets.Packets.at.Goals as goal

pub returns-in-Some : goal.returns-in-Some
returns-in-Some c =
    let places = c.self.inside.places.items in
    c.get_index.ensures.key
    ∙ numbered_there c.self.inside.stored.keys places c.args.number c.self.invariant.placed c.in-Some.place (sym (ap (λ (ps : List ℕ). place_at ps c.args.number) c.deref.ensures.value) ∙ sym c.in-Some.ensures)
    ∙ ap (λ (es : List Envelope). numbered es c.args.number) c.self.view_is

pub returns-in-None : goal.returns-in-None
returns-in-None c =
    let places = c.self.inside.places.items in
    numbered_none c.self.inside.stored.keys places c.args.number c.self.invariant.placed (sym (ap (λ (ps : List ℕ). place_at ps c.args.number) c.deref.ensures.value) ∙ sym c.in-None.ensures)
    ∙ ap (λ (es : List Envelope). numbered es c.args.number) c.self.view_is
