use Rattle.std.proofs.Common.{List, [], ◌∷◌, ◌++◌, sym, subst, ap, ◌∙◌}
use Rattle.ak_wire.specs.declared.envelope.Envelope.{Envelope}
use Rattle.ak_wire.specs.Datagram.{IsValid}
use Rattle.ak_world.specs.Stored.{at_places, AreStored, AreToldApart}
use Rattle.ak_world.proofs.StoredLemmas.{pushed, pushed_again}
use Rattle.ak_world.proofs.packets.Packets.push.Goals as goal

pub invariant_of-self-in-Some : goal.invariant_of-self-in-Some
invariant_of-self-in-Some c =
    let stored = c.self.inside.stored.keys in
    let e = c.in_ok-packet.packet in
    let are : AreStored stored c.reserve.new.self.items = subst (AreStored stored) (sym c.in_ok-reserve.ensures.items) c.self.invariant in
    let told : AreToldApart (at_places stored c.reserve.new.self.items ++ e ∷ []) =
    subst AreToldApart (sym (λ i. (ap (at_places stored) c.in_ok-reserve.ensures.items ∙ c.self.view_is) i ++ c.in_ok-packet.ensures i ∷ [])) c.requires.apart in
    let done = pushed_again stored c.reserve.new.self.items e are (subst IsValid (sym c.in_ok-packet.ensures) c.requires.valid) told c.in-Some.place c.in-Some.ensures in
    subst (AreStored stored) (sym c.push_reserved.ensures.items) done.are

pub returns-in-Some-clause-ok : goal.returns-in-Some-clause-ok
returns-in-Some-clause-ok c =
    let stored = c.self.inside.stored.keys in
    let e = c.in_ok-packet.packet in
    let are : AreStored stored c.reserve.new.self.items = subst (AreStored stored) (sym c.in_ok-reserve.ensures.items) c.self.invariant in
    let told : AreToldApart (at_places stored c.reserve.new.self.items ++ e ∷ []) =
    subst AreToldApart (sym (λ i. (ap (at_places stored) c.in_ok-reserve.ensures.items ∙ c.self.view_is) i ++ c.in_ok-packet.ensures i ∷ [])) c.requires.apart in
    let done = pushed_again stored c.reserve.new.self.items e are (subst IsValid (sym c.in_ok-packet.ensures) c.requires.valid) told c.in-Some.place c.in-Some.ensures in
    ap (at_places stored) c.push_reserved.ensures.items
    ∙ done.packets
    ∙ ap (λ (es : List Envelope). es ++ e ∷ []) (ap (at_places stored) c.in_ok-reserve.ensures.items ∙ c.self.view_is)
    ∙ ap (λ (d : Envelope). c.args.self.now ++ d ∷ []) c.in_ok-packet.ensures

pub invariant_of-self-2 : goal.invariant_of-self-2
invariant_of-self-2 c =
    let stored = c.self.inside.stored.keys in
    let e = c.in_ok-packet.packet in
    let are : AreStored stored c.reserve.new.self.items = subst (AreStored stored) (sym c.in_ok-reserve.ensures.items) c.self.invariant in
    let told : AreToldApart (at_places stored c.reserve.new.self.items ++ e ∷ []) =
    subst AreToldApart (sym (λ i. (ap (at_places stored) c.in_ok-reserve.ensures.items ∙ c.self.view_is) i ++ c.in_ok-packet.ensures i ∷ [])) c.requires.apart in
    let there = c.in_ok-place.ensures.stored in
    let done = pushed stored c.reserve.new.self.items e are (subst IsValid (sym c.in_ok-packet.ensures) c.requires.valid) told c.insert_full.new.self.keys c.in_ok-place.place there.0 c.in_ok-place.ensures.keys c.in_ok-place.ensures.within there.1 there.2 in
    subst (AreStored c.insert_full.new.self.keys) (sym c.push_reserved-2.ensures.items) done.are

pub returns-clause-ok : goal.returns-clause-ok
returns-clause-ok c =
    let stored = c.self.inside.stored.keys in
    let e = c.in_ok-packet.packet in
    let are : AreStored stored c.reserve.new.self.items = subst (AreStored stored) (sym c.in_ok-reserve.ensures.items) c.self.invariant in
    let told : AreToldApart (at_places stored c.reserve.new.self.items ++ e ∷ []) =
    subst AreToldApart (sym (λ i. (ap (at_places stored) c.in_ok-reserve.ensures.items ∙ c.self.view_is) i ++ c.in_ok-packet.ensures i ∷ [])) c.requires.apart in
    let there = c.in_ok-place.ensures.stored in
    let done = pushed stored c.reserve.new.self.items e are (subst IsValid (sym c.in_ok-packet.ensures) c.requires.valid) told c.insert_full.new.self.keys c.in_ok-place.place there.0 c.in_ok-place.ensures.keys c.in_ok-place.ensures.within there.1 there.2 in
    ap (at_places c.insert_full.new.self.keys) c.push_reserved-2.ensures.items
    ∙ done.packets
    ∙ ap (λ (es : List Envelope). es ++ e ∷ []) (ap (at_places stored) c.in_ok-reserve.ensures.items ∙ c.self.view_is)
    ∙ ap (λ (d : Envelope). c.args.self.now ++ d ∷ []) c.in_ok-packet.ensures
