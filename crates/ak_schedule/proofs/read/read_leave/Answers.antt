use Rattle.ak_schedule.specs.Line.{words}
use Rattle.ak_schedule.specs.Kind.{kind_name}
use Rattle.ak_schedule.specs.Kind as kind
use Rattle.ak_schedule.specs.Reading.{SpellsTwo}
use Rattle.ak_schedule.specs.Schedule.{SpellsWords}
use Rattle.std.proofs.Common.{◌∷◌, ap, codes}
use Rattle.ak_schedule.specs.declared.event.Event.TheVariants.{Leave}
use Rattle.ak_schedule.proofs.EventWords.{refused, leave_only}
use Rattle.ak_schedule.proofs.read.read_leave.Goals as goal

pub returns-in-Err : goal.returns-in-Err
returns-in-Err c =
    let ws = words c.args.rest.now in
    refused (SpellsTwo ws) (SpellsWords (kind_name kind.Leave ∷ ws)) c.in-Err.fault c.in-Err.ensures (leave_only ws)
    (λ pair s. (Leave pair.0 pair.1, (s.0, s.1, ap (λ l. codes "leave" ∷ l) s.2, s.3, s.4)))
