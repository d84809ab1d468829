use Rattle.ak_converge.proofs.ConvergenceLaws.{converged_answer}
use Rattle.ak_converge.proofs.converge.converged.Goals as goal

pub returns-clause-meaning : goal.returns-clause-meaning
returns-clause-meaning c = converged_answer (record { standings = c.args.members.now; rows = c.args.rows.now }) c.args.seen.now c.all_agree.result c.all_agree.ensures
