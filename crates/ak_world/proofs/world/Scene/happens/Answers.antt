use Rattle.std.proofs.Common.{ap}
use Rattle.ak_schedule.specs.declared.event.Event.{Event}
use Rattle.ak_world.specs.World.{happens}
use Rattle.ak_world.specs.WorldContracts.{state_of}
use Rattle.ak_world.proofs.AlikeRuns.{apart_too}
use Rattle.ak_world.proofs.world.Scene.happens.Goals as goal

pub tick-requires-clause-apart : goal.tick-requires-clause-apart
tick-requires-clause-apart c = apart_too _ _ (ap (λ (e : Event). happens c.args.self.now.settings e (state_of c.args.self.now)) c.in-Tick.is) c.requires.apart

pub offer-requires-clause-apart : goal.offer-requires-clause-apart
offer-requires-clause-apart c = apart_too _ _ (ap (λ (e : Event). happens c.args.self.now.settings e (state_of c.args.self.now)) c.in-Offer.is) c.requires.apart
