use Rattle.ak_schedule.specs.Line.{words}
use Rattle.ak_schedule.specs.Kind.{kind_name}
use Rattle.ak_schedule.specs.Kind as kind
use Rattle.ak_schedule.specs.Schedule.{SpellsWords}
use Rattle.ak_address.specs.Spelling.{SpellsUnique}
use Rattle.std.proofs.Common.{◌∷◌, ap, codes, refl, sym, subst, Err}
use Rattle.ak_schedule.specs.declared.event.Event.{Event}
use Rattle.ak_schedule.specs.declared.event.Event.TheVariants.{Offer}
use Rattle.ak_schedule.specs.declared.fault.LineFault.{LineFault}
use Rattle.ak_schedule.specs.Reading.{Reads}
use Rattle.ak_schedule.proofs.EventWords.{refused, offer_at, in_range}
use Rattle.ak_schedule.proofs.read.read_offer.Goals as goal

pub returns-in-Err : goal.returns-in-Err
returns-in-Err c =
    let ws = words c.args.rest.now in
    refused (SpellsUnique c.in-Some.who.now) (SpellsWords (kind_name kind.Offer ∷ ws)) c.in-Err.fault c.in-Err.ensures
    (offer_at ws c.in-Some.who.now c.in-Some.entity.now c.in-Some.payload.now c.in-Some.ensures)
    (λ u spelt. (Offer u c.in-Some.entity.now c.in-Some-parse_number.payload, (c.in-Some.who.now, c.in-Some.payload.now, ap (λ l. codes "offer" ∷ l) c.in-Some.ensures, spelt, c.if-not-is_entity.ensures.0 refl, (in_range c.in-Some-parse_number.ensures.found))))

pub returns-in-Err-from_bytes : goal.returns-in-Err-from_bytes
returns-in-Err-from_bytes c =
    let some : (e : Event) × SpellsWords (kind_name kind.Offer ∷ words c.args.rest.now) e = (Offer c.in-Ok.who c.in-Some.entity.now c.in-Some-parse_number.payload, (c.in-Some.who.now, c.in-Some.payload.now, ap (λ l. codes "offer" ∷ l) c.in-Some.ensures, c.in-Ok.ensures, c.if-not-is_entity.ensures.0 refl, (in_range c.in-Some-parse_number.ensures.found))) in
    subst (λ (fault : LineFault). Reads (SpellsWords (kind_name kind.Offer ∷ words c.args.rest.now)) (Err fault)) (sym c.into.ensures) some
