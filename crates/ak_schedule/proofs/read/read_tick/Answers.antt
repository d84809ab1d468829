use Rattle.ak_schedule.specs.Line.{words}
use Rattle.ak_schedule.specs.Kind.{kind_name}
use Rattle.ak_schedule.specs.Kind as kind
use Rattle.ak_schedule.specs.Schedule.{SpellsWords}
use Rattle.ak_address.specs.Spelling.{SpellsUnique}
use Rattle.std.proofs.Common.{◌∷◌, ap, codes}
use Rattle.ak_schedule.specs.declared.event.Event.TheVariants.{Tick}
use Rattle.ak_schedule.proofs.EventWords.{refused, tick_at, in_range}
use Rattle.ak_schedule.proofs.read.read_tick.Goals as goal

pub returns-in-Err : goal.returns-in-Err
returns-in-Err c =
    let ws = words c.args.rest.now in
    refused (SpellsUnique c.in-Some.who.now) (SpellsWords (kind_name kind.Tick ∷ ws)) c.in-Err.fault c.in-Err.ensures
    (tick_at ws c.in-Some.who.now c.in-Some.word.now c.in-Some.ensures)
    (λ u spelt. (Tick u c.in-Some-parse_number.word, (c.in-Some.who.now, c.in-Some.word.now, ap (λ l. codes "tick" ∷ l) c.in-Some.ensures, spelt, (in_range c.in-Some-parse_number.ensures.found))))
