use Rattle.ak_link.proofs.FoundNames.{goes_to_found, answers_found}
use Rattle.ak_link.proofs.udp.send_to.Goals as goal

pub returns-in-Ok : goal.returns-in-Ok
returns-in-Ok c = answers_found c.args.found.now c.args.to.now.host c.whole.result (goes_to_found c.args.found.now c.args.opened.now.v4 c.args.to.now c.in-Some.at c.in-Some.ensures)
