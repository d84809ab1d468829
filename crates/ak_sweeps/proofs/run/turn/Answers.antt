use Rattle.std.proofs.Common.{◌≤◌, sym, ap, ◌∙◌, subst}
use Rattle.ak_generate.specs.declared.sight.Sight.{Sight}
use Rattle.ak_world.specs.WorldContracts.{WorldModel}
use Rattle.ak_sweeps.specs.GeneratedRun.{sight_of}
use Rattle.ak_sweeps.specs.RunContracts.{Went}
use Rattle.ak_sweeps.proofs.RunLoop.{few_nodes, went, stayed, seen_next, seen_still}
use Rattle.ak_sweeps.proofs.run.turn.Goals as goal

pub follow-requires : goal.follow-requires
follow-requires c = subst (λ (s : Sight). s.starts ≤ 64) (sym c.requires.seen) (few_nodes c.args.world.now c.requires.played)

pub returns-in-Ok-clause-turn : goal.returns-in-Ok-clause-turn
returns-in-Ok-clause-turn c =
    subst (λ (w : WorldModel). Went c.args.generator.now c.args.world.now c.next.new.self w) (sym c.take_back.ensures)
    (went c.args.generator.now c.next.new.self c.args.world.now c.apply.new.self c.args.sight.now c.in-Some.event c.in-Ok.step c.requires.played c.requires.seen
    (sym c.in-Some.is ∙ c.in_ok-event.ensures.event) c.in_ok-event.ensures.moved c.in-Ok.ensures.applied)

pub returns-in-Ok-clause-seen : goal.returns-in-Ok-clause-seen
returns-in-Ok-clause-seen c =
    seen_next c.args.world.now c.apply.new.self c.args.sight.now c.follow.new.sight c.in-Some.event c.in-Ok.step c.requires.played c.requires.seen c.in-Ok.ensures.applied c.in_ok-follow-in-Ok.ensures
    ∙ ap (λ (w : WorldModel). sight_of w.state) (sym c.take_back.ensures)

pub returns-in-Err-Invalid-clause-turn : goal.returns-in-Err-Invalid-clause-turn
returns-in-Err-Invalid-clause-turn c =
    let refused = rw c.in-Err-Invalid.field-0-is at c.in-Err-Invalid.ensures.applied in
    stayed c.args.generator.now c.args.world.now c.apply.new.self c.args.sight.now c.in-Some.event c.in-Err-Invalid.field-0-0 c.requires.played c.requires.seen
    (sym c.in-Some.is ∙ c.in_ok-event.ensures.event) refused

pub returns-in-Err-Invalid-clause-seen : goal.returns-in-Err-Invalid-clause-seen
returns-in-Err-Invalid-clause-seen c =
    let refused = rw c.in-Err-Invalid.field-0-is at c.in-Err-Invalid.ensures.applied in
    seen_still c.args.world.now c.apply.new.self c.args.sight.now c.in-Some.event c.in-Err-Invalid.field-0-0 c.requires.seen refused
