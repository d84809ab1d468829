use Rattle.ak_schedule.proofs.PassedOver.{no_event, no_header, no_extra, no_named_event}
use Rattle.ak_schedule.proofs.laws.passed_over_lines_spell_nothing.Goals as goal

pub returns : goal.returns
returns c = record { events = no_event; headers = no_header; extras = no_extra; apart = no_named_event }
