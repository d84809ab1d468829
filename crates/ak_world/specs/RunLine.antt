-- The line of a run: its settled versions, and what they say of who has aged and who was removed (this project's choice). It is
-- all that promises, singletons and shards know of gossip.
use Rattle.std.specs.Prelude.{◌⊎◌, ℕ, List}
use Rattle.std.specs.FinMap as map
use Rattle.ak_address.specs.Unique.{UniqueModel}
use Rattle.ak_clock.specs.Version.{Counts, Covers, merged}
use Rattle.ak_member.specs.declared.status.Status.{Status}
use Rattle.ak_history.specs.declared.entry.Entry.{Entry}
use Rattle.ak_history.specs.Shown.{Rose, IsRemoved}
use Rattle.ak_line.specs.Line.{Line}
use Rattle.ak_schedule.specs.declared.event.Event.{Event}
use Rattle.ak_settings.specs.Settings.{SettingsModel}
use Rattle.ak_world.specs.World.{run}
use Rattle.ak_world.specs.SettledLine.{WasSettled}

-- by a version a process has aged: a covered entry raised it, or removed it
abbrev pub IsAged : List Entry → Counts → UniqueModel → Type 0
IsAged history version who = ((status : Status) × (number : ℕ) × Rose history version who status number) ⊎ IsRemoved history version who

-- a version is below each that covers it
abbrev pub line_of : SettingsModel → List Event → ℕ → Line Counts
line_of settings events quorum = record {
  nothing = map.empty;
  below = λ v w. Covers w v;
  merged = merged;
  on = WasSettled settings events quorum;
  aged = IsAged (run settings events).history;
  removed = IsRemoved (run settings events).history;
}
