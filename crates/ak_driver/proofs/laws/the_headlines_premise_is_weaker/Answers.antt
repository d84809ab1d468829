use Rattle.ak_driver.proofs.RoleRuns.{listed_suffice, replays_have_role}
use Rattle.ak_driver.proofs.laws.the_headlines_premise_is_weaker.Goals as goal

pub returns : goal.returns
returns c = record { role = replays_have_role; listed = listed_suffice }
