-- A world with what no node keeps: which versions each process held at the ends of its steps, and which version the author
-- of each entry had just before it made the entry. No contract speaks of it: it is what the laws on held versions are proved with.
use Rattle.std.specs.Prelude.{◌+◌, List, [], ◌∷◌, map, slice_get, Option, Some, None, option_and_then, Result, Ok, Err, IsTrue, Contains}
use Rattle.ak_address.specs.Unique.{UniqueModel}
use Rattle.ak_clock.specs.Version.{Counts, Covers}
use Rattle.ak_settings.specs.Settings.{SettingsModel}
use Rattle.ak_schedule.specs.declared.event.Event.{Event}
use Rattle.ak_history.specs.declared.entry.Entry.{Entry}
use Rattle.ak_history.specs.History.{entries_of, is_covered}
use Rattle.ak_wire.specs.declared.action.Action.{Action}
use Rattle.ak_member.specs.declared.effect.Effect.{Effect}
use Rattle.ak_wire.specs.Wire.{effects_of}
use Rattle.ak_node.specs.declared.node.State.{State}
use Rattle.ak_node.specs.Node.{known, me_of}
use Rattle.ak_world.specs.declared.world.Reason.{Reason}
use Rattle.ak_world.specs.World.{WorldState, Done, empty_world, happens}

pub record Remembered : Type 0 where
  pub world : WorldState
  -- a process and the version that it held, the newest first
  pub held : List (UniqueModel × Counts)
  -- each entry of the history with the version of its author before it, the newest first
  pub based : List (Entry × Counts)

-- the entries alone
abbrev pub entries_in : List (Entry × Counts) → List Entry
entries_in based = map (λ pair. pair.0) based

-- an update adds an entry, made from this version
abbrev pub with_base : UniqueModel → Counts → Option (List Effect) → List (Entry × Counts) → List (Entry × Counts)
with_base author base None based = based
with_base author base (Some effects) based = (record { author = author; number = entries_of author (entries_in based) + 1; effects = effects }, base) ∷ based

-- the entries that actions add
abbrev pub recorded_from : UniqueModel → Counts → List Action → List (Entry × Counts) → List (Entry × Counts)
recorded_from author base [] based = based
recorded_from author base (a ∷ actions) based = recorded_from author base actions (with_base author base (effects_of a) based)

-- after an event the acting node holds what it knows then
abbrev pub holding : Option State → List (UniqueModel × Counts) → List (UniqueModel × Counts)
holding (Some n) held = (me_of n, (known n).version) ∷ held
holding None held = held

-- the acting node made its entries from what it knew before
abbrev pub basing : Option State → List Action → List (Entry × Counts) → List (Entry × Counts)
basing (Some n) actions based = recorded_from (me_of n) (known n).version actions based
basing None actions based = based

-- what one event did is remembered; the same `happens` says what it did
abbrev pub remembers : Done → Remembered → Remembered
remembers done r =
    record {
      world = done.world;
      held = holding (option_and_then (slice_get done.world.nodes) done.node) r.held;
      based = basing (option_and_then (slice_get r.world.nodes) done.node) done.actions r.based;
    }

-- a refused event changes nothing
abbrev pub remembers_answer : Remembered → Result Done Reason → Remembered
remembers_answer r (Ok done) = remembers done r
remembers_answer r (Err why) = r

-- what is remembered after a list of events, in their order
abbrev pub remembered_from : SettingsModel → Remembered → List Event → Remembered
remembered_from settings r [] = r
remembered_from settings r (e ∷ events) = remembered_from settings (remembers_answer r (happens settings e r.world)) events

abbrev pub nothing_remembered : Remembered
nothing_remembered = record { world = empty_world; held = []; based = [] }

abbrev pub remembered : SettingsModel → List Event → Remembered
remembered settings events = remembered_from settings nothing_remembered events

-- where a version covers an entry, it covers the version from which the author made it
abbrev pub IsClosed : List (Entry × Counts) → Counts → Type 0
IsClosed based v = (e : Entry) (base : Counts) → Contains based (e, base) → IsTrue (is_covered v e) → Covers v base
