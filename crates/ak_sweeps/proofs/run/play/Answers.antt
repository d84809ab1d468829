use Rattle.std.proofs.Common.{◌≡◌, ◌+◌, ◌-◌, ℕ, Bool, refl, sym, ap, ◌∙◌, subst, arith}
use Rattle.ak_world.specs.WorldContracts.{WorldModel}
use Rattle.ak_sweeps.specs.GeneratedRun.{sight_of}
use Rattle.ak_sweeps.specs.RunContracts.{TurnAnswers, Went, Stayed}
use Rattle.ak_sweeps.proofs.RunLoop.{Along, along_start, along_turn, along_stay, along_end}
use Rattle.ak_sweeps.proofs.run.play.Goals as goal

pub turn-requires-clause-played : goal.turn-requires-clause-played
turn-requires-clause-played c = c.events.invariant.1.played

pub turn-requires-clause-few : goal.turn-requires-clause-few
turn-requires-clause-few c =
    let same = c.events.invariant.1.steps in
    let within = c.events-test.true in
    let few = c.requires in omega arith

pub events-init : goal.events-init
events-init c = (
  c.first_sight-sight.ensures ∙ ap (λ (w : WorldModel). sight_of w.state) (sym c.in_ok-world.ensures),
  subst (λ (n : ℕ). Along c.args.seed c.args.events 0 n c.new-generator.result c.in_ok-world.world) (let e : c.args.events ≡ c.args.events - 0 = omega arith in e)
      (along_start c.args.seed c.args.events c.new-generator.result c.in_ok-world.world c.new-generator.ensures c.in_ok-world.ensures),
)

pub returns-then-not-branch : goal.returns-then-not-branch
returns-then-not-branch c =
    let stayed : Stayed c.events.generator c.events.world c.turn.new.world =
    subst (λ (b : Bool). TurnAnswers b c.events.generator c.events.world c.turn.new.generator c.turn.new.world) c.if-not-branch.true c.in_ok-turn.ensures.turn in
    let within = c.events-test.true in
    along_stay c.args.seed c.args.events c.events.steps (c.args.events - c.events.steps) (c.args.events - (c.events.steps + 1)) c.events.generator c.events.world c.events.invariant.1 (omega arith)
    (record { world = c.turn.new.world; steps = c.events.steps }) stayed refl

pub events-preserved : goal.events-preserved
events-preserved c =
    let went : Went c.events.generator c.events.world c.turn.new.generator c.turn.new.world =
    subst (λ (b : Bool). TurnAnswers b c.events.generator c.events.world c.turn.new.generator c.turn.new.world) c.if-not-branch.false c.in_ok-turn.ensures.turn in
    let within = c.events-test.true in (
      c.in_ok-turn.ensures.seen,
      along_turn c.args.seed c.args.events c.events.steps (c.args.events - c.events.steps) (c.args.events - (c.events.steps + 1)) c.events.generator c.events.world c.events.invariant.1 (omega arith)
          (c.events.steps + 1) c.turn.new.generator c.turn.new.world refl went,
    )

pub returns : goal.returns
returns c =
    let past = c.events-test.false in
    let within = c.events.auto.steps-end in
    along_end c.args.seed c.args.events c.events.steps (c.args.events - c.events.steps) c.events.generator c.events.world (record { world = c.events.world; steps = c.args.events }) c.events.invariant.1 (omega arith) refl (omega arith)
