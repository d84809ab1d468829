use Rattle.ak_node.specs.declared.node.NodeEvent.TheVariants.{Down}
use Rattle.ak_world.specs.WorldContracts.{state_of}
use Rattle.std.proofs.lemmas.Result.{err_from_is_err_and}
use Rattle.ak_world.proofs.WorldLemmas.{accepted-too, given-accepted, ran-out}
use Rattle.std.proofs.Common.{ap, sym, slice_get, ◌∙◌}
use Rattle.ak_address.specs.Unique.{UniqueModel}
use Rattle.ak_world.specs.World.{gives}
use Rattle.ak_world.proofs.AlikeRuns.{apart_too}
use Rattle.ak_world.proofs.world.Scene.down.Goals as goal

pub returns-in_err-member-clause-scenes : goal.returns-in_err-member-clause-scenes
returns-in_err-member-clause-scenes c =
    let p = err_from_is_err_and c.from_residual.result c.from_residual.ensures.1 in
    ran-out (state_of c.args.self.now) _ _ _ p.0
    (accepted-too _ _ (c.in-Ok.ensures.1 (Down c.args.member.now)) (given-accepted (Down c.args.member.now) c.in-Ok.index (state_of c.args.self.now) c.in-Ok.ensures.0)) p.1 (_, p.2)

pub give-requires-clause-apart : goal.give-requires-clause-apart
give-requires-clause-apart c =
    let w = state_of c.args.self.now in
    apart_too _ _
    (c.in-Ok.ensures.1 (Down c.args.member.now) ∙ ap (λ (u : UniqueModel). gives (Down u) c.in-Ok.index (slice_get w.nodes c.in-Ok.index) w) (sym c.in_ok-member.ensures))
    c.requires.apart
