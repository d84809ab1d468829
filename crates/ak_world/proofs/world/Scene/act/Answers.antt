use Rattle.ak_world.proofs.AlikeRuns.{apart_too}
use Rattle.ak_world.proofs.world.Scene.act.Goals as goal

pub give-requires-clause-apart : goal.give-requires-clause-apart
give-requires-clause-apart c = apart_too _ _ (c.in-Ok.ensures.1 c.args.event.now) c.requires.apart

pub give-requires-clause-offered : goal.give-requires-clause-offered
give-requires-clause-offered c = λ n at. c.requires.offered n.membership.settings
