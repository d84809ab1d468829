use Rattle.std.proofs.Common.{option_copied}
use Rattle.ak_leader.proofs.LeaderLaws.{leader_is}
use Rattle.ak_leader.proofs.leads.leader.Goals as goal

pub returns-clause-meaning : goal.returns-clause-meaning
returns-clause-meaning c = leader_is (record { standings = c.args.members.now; rows = c.args.rows.now }) (option_copied c.first_leader.result) c.first_leader.ensures
