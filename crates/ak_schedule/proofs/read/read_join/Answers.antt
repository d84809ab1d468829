use Rattle.ak_schedule.specs.Line.{words}
use Rattle.ak_schedule.specs.Kind.{kind_name}
use Rattle.ak_schedule.specs.Kind as kind
use Rattle.ak_schedule.specs.Schedule.{SpellsWords}
use Rattle.ak_address.specs.Spelling.{SpellsUnique, SpellsAddress}
use Rattle.std.proofs.Common.{◌∷◌, ap, codes, refl}
use Rattle.ak_schedule.specs.declared.event.Event.TheVariants.{Join}
use Rattle.ak_schedule.proofs.EventWords.{refused, join_at}
use Rattle.ak_schedule.proofs.read.read_join.Goals as goal

pub returns-in-Err : goal.returns-in-Err
returns-in-Err c =
    let ws = words c.args.rest.now in
    refused (SpellsUnique c.in-Some.who.now) (SpellsWords (kind_name kind.Join ∷ ws)) c.in-Err.fault c.in-Err.ensures
    (λ e whole. let parts = join_at ws c.in-Some.who.now c.in-Some.target.now c.in-Some.ensures e whole in (parts.0, parts.2))
    (λ u spelt. let other = c.if-not-is_address.ensures.0 refl in (Join u other.0, (c.in-Some.who.now, c.in-Some.target.now, ap (λ l. codes "join" ∷ l) c.in-Some.ensures, spelt, other.1)))

pub returns-in-Err-address_of : goal.returns-in-Err-address_of
returns-in-Err-address_of c =
    let ws = words c.args.rest.now in
    refused (SpellsAddress c.in-Some.target.now) (SpellsWords (kind_name kind.Join ∷ ws)) c.in-Err-address_of.fault c.in-Err-address_of.ensures
    (λ e whole. let parts = join_at ws c.in-Some.who.now c.in-Some.target.now c.in-Some.ensures e whole in (parts.1, parts.3))
    (λ t spelt. (Join c.in-Ok.who t, (c.in-Some.who.now, c.in-Some.target.now, ap (λ l. codes "join" ∷ l) c.in-Some.ensures, c.in-Ok.ensures, spelt)))
