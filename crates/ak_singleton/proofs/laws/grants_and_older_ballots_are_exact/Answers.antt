use Rattle.ak_singleton.proofs.RulesMeant.{first_grant_is, outdone_is}
use Rattle.ak_singleton.proofs.laws.grants_and_older_ballots_are_exact.Goals as goal

pub returns : goal.returns
returns c = record { grants = first_grant_is; older = outdone_is }
