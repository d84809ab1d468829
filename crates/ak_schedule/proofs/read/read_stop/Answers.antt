use Rattle.ak_schedule.specs.Line.{words}
use Rattle.ak_schedule.specs.Kind.{kind_name}
use Rattle.ak_schedule.specs.Kind as kind
use Rattle.ak_schedule.specs.Reading.{SpellsOne}
use Rattle.ak_schedule.specs.Schedule.{SpellsWords}
use Rattle.std.proofs.Common.{◌∷◌, ap, codes}
use Rattle.ak_schedule.specs.declared.event.Event.TheVariants.{Stop}
use Rattle.ak_schedule.proofs.EventWords.{refused, stop_only}
use Rattle.ak_schedule.proofs.read.read_stop.Goals as goal

pub returns-in-Err : goal.returns-in-Err
returns-in-Err c =
    let ws = words c.args.rest.now in
    refused (SpellsOne ws) (SpellsWords (kind_name kind.Stop ∷ ws)) c.in-Err.fault c.in-Err.ensures (stop_only ws)
    (λ u s. (Stop u, (s.0, ap (λ l. codes "stop" ∷ l) s.1, s.2)))
