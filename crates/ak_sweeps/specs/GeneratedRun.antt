-- The generated run of a seed: a world of the fixed settings is given, one after another, the events that a generator gives by what
-- it sees of that world (this project's choice).
use Rattle.std.specs.Prelude.{◌≡◌, ◌⊎◌, ◌↔◌, ℕ, zero, suc, true, false, List, [], ◌∷◌, length, map, Option, None, Some, Ok, Err}
use Rattle.std.specs.List.{filter}
use Rattle.ak_address.specs.Uniques.{UniqueSet, set_of}
use Rattle.ak_schedule.specs.declared.event.Event.{Event}
use Rattle.ak_node.specs.declared.node.State.{State}
use Rattle.ak_node.specs.Node.{me_of}
use Rattle.ak_generate.specs.declared.sight.Sight.{Sight}
use Rattle.ak_generate.specs.Fixed.{fixed}
use Rattle.ak_generate.specs.Words.{words_of}
use Rattle.ak_generate.specs.Generated.{next_event}
use Rattle.ak_generate.specs.Generator.{GeneratorModel, seeded, after_next}
use Rattle.ak_sweep.specs.declared.line.Line.{Line}
use Rattle.ak_world.specs.declared.world.Reason.TheVariants.{TooManyPackets}
use Rattle.ak_world.specs.declared.margin.Margin.TheVariants.{Kept}
use Rattle.ak_world.specs.World.{WorldState, Done, empty_world, happens, run}
use Rattle.ak_world.specs.Margin.{IsMargin}
use Rattle.ak_world.specs.Double.{IsFirstDouble}

-- the processes that run
abbrev pub running : List State → UniqueSet
running nodes = set_of (map me_of (filter (λ (n : State). n.runs) nodes))

-- what a generator sees of a world
abbrev pub sight_of : WorldState → Sight
sight_of w = record { running = running w.nodes; starts = length w.nodes; packets = length w.packets }

-- the event that comes next in a world, if one does
abbrev pub next : GeneratorModel → WorldState → Option Event
next g w = next_event g.opened (sight_of w) (words_of g.words)

-- nothing comes next, or an event that is refused because as many packets were sent as may be
abbrev pub IsOver : GeneratorModel → WorldState → Type 0
IsOver g w = (next g w ≡ None) ⊎ ((event : Event) × (next g w ≡ Some event) × (happens fixed event w ≡ Err TooManyPackets))

-- from a world on these events come, at most so many
abbrev pub GoesOn : ℕ → GeneratorModel → WorldState → List Event → Type 0
GoesOn zero g w events = events ≡ []
GoesOn (suc most) g w events =
    (IsOver g w × (events ≡ []))
    ⊎ ((event : Event) × (done : Done) × (next g w ≡ Some event) × (happens fixed event w ≡ Ok done)
    × (rest : List Event) × GoesOn most (after_next g (sight_of w)) done.world rest × (events ≡ event ∷ rest))

-- the events of the run of a seed, which is over after so many, or before
abbrev pub IsRun : ℕ → ℕ → List Event → Type 0
IsRun seed most events = GoesOn most (seeded seed) empty_world events

-- the line tells of these events of a seed
pub record Tells (seed : ℕ) (events : List Event) (line : Line) : Type 0 where
  pub seed_is : line.seed ≡ seed
  pub steps : line.steps ≡ length events
  pub packets : line.packets ≡ length (run fixed events).packets
  pub history : line.history ≡ length (run fixed events).history
  pub kept : (line.kept ≡ true) ↔ IsMargin fixed events Kept
  pub double : (line.double ≡ false) ↔ IsFirstDouble fixed events None

-- the line of a seed tells of its run
abbrev pub IsLineOf : ℕ → ℕ → Line → Type 0
IsLineOf seed most line = (events : List Event) × IsRun seed most events × Tells seed events line

-- where the margin was kept no entity was active on two nodes
abbrev pub KeepsApart : Line → Type 0
KeepsApart line = line.kept ≡ true → line.double ≡ false
