use Rattle.ak_schedule.proofs.OneWay.{one_event, one_settings, one_draft, one_extra}
use Rattle.ak_schedule.proofs.laws.lines_are_read_one_way.Goals as goal

pub returns : goal.returns
returns c = record { events = one_event; settings = one_settings; drafts = one_draft; extras = one_extra }
