use Rattle.ak_schedule.specs.Line.{words}
use Rattle.ak_schedule.specs.Kind.{kind_name}
use Rattle.ak_schedule.specs.Kind as kind
use Rattle.ak_schedule.specs.Reading.{SpellsOne}
use Rattle.ak_schedule.specs.Schedule.{SpellsWords}
use Rattle.std.proofs.Common.{◌∷◌, ap, codes}
use Rattle.ak_schedule.specs.declared.event.Event.TheVariants.{Start}
use Rattle.ak_schedule.proofs.EventWords.{refused, start_only}
use Rattle.ak_schedule.proofs.read.read_start.Goals as goal

pub returns-in-Err : goal.returns-in-Err
returns-in-Err c =
    let ws = words c.args.rest.now in
    refused (SpellsOne ws) (SpellsWords (kind_name kind.Start ∷ ws)) c.in-Err.fault c.in-Err.ensures (start_only ws)
    (λ u s. (Start u, (s.0, ap (λ l. codes "start" ∷ l) s.1, s.2)))
