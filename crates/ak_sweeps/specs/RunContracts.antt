-- Words of the contracts of the calls of a generated run and of its text.
use Rattle.std.specs.Prelude.{◌≡◌, ◌⊎◌, ℕ, ◌+◌, ◌==◌, ◌≤◌, Bool, true, false, not, if◌then◌else◌, slice_get, List, [], ◌∷◌, ◌++◌, length, take, Option, None, Some, Ok, Err}
use Rattle.ak_address.specs.Uniques.{with_one, without_one}
use Rattle.ak_node.specs.declared.node.State.{State}
use Rattle.ak_node.specs.Node.{me_of}
use Rattle.ak_generate.specs.declared.sight.Sight.{Sight}
use Rattle.ak_outside.specs.declared.status.Status.{Status}
use Rattle.ak_schedule.specs.declared.event.Event.{Event}
use Rattle.ak_generate.specs.Fixed.{fixed}
use Rattle.ak_generate.specs.Generator.{GeneratorModel, after_next}
use Rattle.ak_sweep.specs.declared.line.Line.{Line}
use Rattle.ak_world.specs.declared.margin.Margin.{Margin}
use Rattle.ak_world.specs.declared.margin.Margin.TheVariants.{Kept, Broken}
use Rattle.ak_world.specs.declared.world.Reason.{Reason}
use Rattle.ak_world.specs.World.{WorldState, Done, happens, run}
use Rattle.ak_world.specs.WorldContracts.{WorldModel}
use Rattle.ak_sweeps.specs.declared.run.Played.{Played}
use Rattle.ak_sweeps.specs.GeneratedRun.{sight_of, next, IsRun}
use Rattle.ak_sweeps.specs.SweepPromise.{Ends, RunsOut}

-- the world of a generated run, after the events that it has accepted
pub record IsPlayed (w : WorldModel) : Type 0 where
  pub settings : w.settings ≡ fixed
  pub state : w.state ≡ run fixed w.events
  pub alive : w.spent ≡ false

-- what is seen once the node of a number acted: one that has stopped runs no more, and one that comes after those that were started
-- was started
abbrev pub seen_with : ℕ → Option State → Sight → Sight
seen_with number None s = s
seen_with number (Some n) s =
    if not n.runs then record s { running = without_one s.running (me_of n) }
    else (if number == s.starts then record s { running = with_one s.running (me_of n); starts = s.starts + 1 } else s)

-- what is seen of a world after a step
abbrev pub followed : Option ℕ → WorldState → Sight → Sight
followed None w s = record s { packets = length w.packets }
followed (Some number) w s = seen_with number (slice_get w.nodes number) (record s { packets = length w.packets })

-- the event that comes next happened
pub record Went (g : GeneratorModel) (w : WorldModel) (h : GeneratorModel) (v : WorldModel) : Type 0 where
  pub event : Event
  pub done : Done
  pub comes : next g w.state ≡ Some event
  pub happened : happens fixed event w.state ≡ Ok done
  pub generator : h ≡ after_next g (sight_of w.state)
  pub world : v ≡ record { settings = fixed; state = done.world; events = w.events ++ event ∷ []; spent = false }

-- no event comes next, or it was refused; the world is as it was
pub record Stayed (g : GeneratorModel) (w v : WorldModel) : Type 0 where
  pub why : (next g w.state ≡ None) ⊎ ((event : Event) × (reason : Reason) × (next g w.state ≡ Some event) × (happens fixed event w.state ≡ Err reason))
  pub world : v ≡ w

abbrev pub TurnAnswers : Bool → GeneratorModel → WorldModel → GeneratorModel → WorldModel → Type 0
TurnAnswers true g w h v = Went g w h v
TurnAnswers false g w h v = Stayed g w v

-- this world has the run of a seed, of so many steps
pub record IsAfter (seed most : ℕ) (p : Played) : Type 0 where
  pub played : IsPlayed p.world
  pub is_run : IsRun seed most p.world.events
  pub steps : p.steps ≡ length p.world.events

abbrev pub is_kept : Margin → Bool
is_kept Kept = true
is_kept (Broken step node member) = false

-- lines and totals were written; or some first lines, and the line on memory; or the sink failed on the way
abbrev pub WritesLines : List Line → Status → ℕ → ℕ → Option (List ℕ) → Option (List ℕ) → Type 0
WritesLines lines answer w0 w1 old new = Ends lines answer w0 w1 old new ⊎ ((done : ℕ) × (done ≤ length lines) × RunsOut (take done lines) answer w0 w1 old new)
