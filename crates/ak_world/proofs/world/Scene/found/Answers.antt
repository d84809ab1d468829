use Rattle.std.proofs.Common.{Bool, true, Err, ap, if◌then◌else◌}
use Rattle.ak_node.specs.declared.node.NodeEvent.TheVariants.{Found}
use Rattle.ak_world.specs.declared.world.Reason.TheVariants.{SecondFound}
use Rattle.ak_world.specs.World.{acts, node_of}
use Rattle.ak_world.specs.WorldContracts.{state_of}
use Rattle.ak_world.proofs.AlikeRuns.{apart_found, apart_too}
use Rattle.ak_world.proofs.world.Scene.found.Goals as goal

pub act-requires-clause-apart : goal.act-requires-clause-apart
act-requires-clause-apart c =
    let w = state_of c.args.self.now in
    let who = node_of c.args.who.now w in
    apart_found Found who w (apart_too _ _ (ap (λ (b : Bool). if b then Err SecondFound else acts Found who (record w { founded = true })) c.if-self.false) c.requires.apart)
