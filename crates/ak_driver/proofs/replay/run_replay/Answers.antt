-- the same clauses
use Rattle.ak_driver.proofs.replay.run_replay.Goals as goal

pub returns-clause-cause : goal.returns-clause-cause
returns-clause-cause g c = c.replay_with_notes.ensures.cause

pub returns-clause-promise : goal.returns-clause-promise
returns-clause-promise g c = c.replay_with_notes.ensures.promise

pub returns-clause-end : goal.returns-clause-end
returns-clause-end g c = c.replay_with_notes.ensures.end

pub returns-clause-headline : goal.returns-clause-headline
returns-clause-headline g c = c.replay_with_notes.ensures.headline

pub returns-clause-complete : goal.returns-clause-complete
returns-clause-complete g c = c.replay_with_notes.ensures.complete
