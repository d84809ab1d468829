-- the same clauses
use Rattle.ak_driver.proofs.run.Goals as goal

pub returns-clause-replay : goal.returns-clause-replay
returns-clause-replay g c = c.run_with_notes.ensures.replay

pub returns-clause-promise : goal.returns-clause-promise
returns-clause-promise g c = c.run_with_notes.ensures.promise

pub returns-clause-end : goal.returns-clause-end
returns-clause-end g c = c.run_with_notes.ensures.end

pub returns-clause-headline : goal.returns-clause-headline
returns-clause-headline g c = c.run_with_notes.ensures.headline

pub returns-clause-complete : goal.returns-clause-complete
returns-clause-complete g c = c.run_with_notes.ensures.complete

pub returns-clause-sweep : goal.returns-clause-sweep
returns-clause-sweep g c = c.run_with_notes.ensures.sweep

pub returns-clause-node : goal.returns-clause-node
returns-clause-node g c = c.run_with_notes.ensures.node

pub returns-clause-control : goal.returns-clause-control
returns-clause-control g c = c.run_with_notes.ensures.control

pub returns-clause-usage : goal.returns-clause-usage
returns-clause-usage g c = c.run_with_notes.ensures.usage

pub returns-clause-unread : goal.returns-clause-unread
returns-clause-unread g c = c.run_with_notes.ensures.unread

pub returns-clause-folder : goal.returns-clause-folder
returns-clause-folder g c = c.run_with_notes.ensures.folder

pub returns-clause-link : goal.returns-clause-link
returns-clause-link g c = c.run_with_notes.ensures.link

pub returns-clause-clock : goal.returns-clause-clock
returns-clause-clock g c = c.run_with_notes.ensures.clock
