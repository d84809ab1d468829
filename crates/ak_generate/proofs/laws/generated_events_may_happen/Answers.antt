use Rattle.ak_generate.proofs.CensusKept.{every_event_may_happen}
use Rattle.ak_generate.proofs.CensusLemmas.{word_below}
use Rattle.ak_generate.proofs.SeenLemmas.{sees_nothing, sees_what_follows}
use Rattle.ak_generate.proofs.laws.generated_events_may_happen.Goals as goal

pub returns : goal.returns
returns c = record { may = every_event_may_happen; begins = sees_nothing; goes_on = sees_what_follows; words = word_below }
