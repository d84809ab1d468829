use Rattle.std.proofs.Common.{sym, ◌∙◌}
use Rattle.ak_node.specs.declared.node.NodeEvent.TheVariants.{Join}
use Rattle.ak_world.specs.WorldContracts.{state_of}
use Rattle.std.proofs.lemmas.Result.{err_from_is_err_and}
use Rattle.ak_world.proofs.WorldLemmas.{join-answer, accepted-too, given-accepted, ran-out}
use Rattle.std.proofs.Common.{ap, slice_get}
use Rattle.ak_address.specs.Unique.{AddressModel}
use Rattle.ak_world.specs.World.{gives}
use Rattle.ak_world.proofs.AlikeRuns.{apart_too}
use Rattle.ak_world.proofs.world.Scene.join.Goals as goal

pub returns-in_err-target-clause-scenes : goal.returns-in_err-target-clause-scenes
returns-in_err-target-clause-scenes c =
    let w = state_of c.args.self.now in
    let listed = sym c.is_listed.ensures.value ∙ c.if-not-is_listed.false in
    let p = err_from_is_err_and c.from_residual.result c.from_residual.ensures.1 in
    ran-out (state_of c.args.self.now) _ _ _ p.0
    (accepted-too _ _ (join-answer c.args.self.now.settings c.args.who.now c.args.target.now w _ listed ∙ c.in-Ok.ensures.1 (Join c.args.target.now))
    (given-accepted (Join c.args.target.now) c.in-Ok.index w c.in-Ok.ensures.0)) p.1 (_, p.2)

pub give-requires-clause-apart : goal.give-requires-clause-apart
give-requires-clause-apart c =
    let w = state_of c.args.self.now in
    let listed = sym c.is_listed.ensures.value ∙ c.if-not-is_listed.false in
    apart_too _ _
    (join-answer c.args.self.now.settings c.args.who.now c.args.target.now w _ listed
    ∙ c.in-Ok.ensures.1 (Join c.args.target.now)
    ∙ ap (λ (a : AddressModel). gives (Join a) c.in-Ok.index (slice_get w.nodes c.in-Ok.index) w) (sym c.in_ok-target.ensures))
    c.requires.apart
