-- Who knew what when, in the words of a run: what processes held after its first events, and from what an entry was made
-- (Akka's Cluster Specification, "Gossip Convergence": the seen set of a gossip tells who has seen its version).
use Rattle.std.specs.Prelude.{◌≡◌, ℕ, ◌+◌, take, List, slice_get, Some, Contains}
use Rattle.ak_address.specs.Unique.{UniqueModel}
use Rattle.ak_clock.specs.Version.{Counts}
use Rattle.ak_settings.specs.Settings.{SettingsModel}
use Rattle.ak_schedule.specs.declared.event.Event.{Event}
use Rattle.ak_history.specs.declared.entry.Entry.{Entry}
use Rattle.ak_node.specs.declared.node.State.{State}
use Rattle.ak_node.specs.Node.{known, me_of}
use Rattle.ak_world.specs.World.{WorldState, run}

-- a node of the world is this process and has exactly this version
pub record Holds (w : WorldState) (who : UniqueModel) (version : Counts) : Type 0 where
  pub index : ℕ
  pub node : State
  pub at : slice_get w.nodes index ≡ Some node
  pub is_who : me_of node ≡ who
  pub version_is : (known node).version ≡ version

-- a process held exactly this version after some of the first events: from the end of one of its steps on
pub record Held (settings : SettingsModel) (events : List Event) (who : UniqueModel) (version : Counts) : Type 0 where
  pub time : ℕ
  pub holds : Holds (run settings (take time events)) who version

-- an entry is in a history, and was not in an earlier one
pub record Enters (before after : List Entry) (entry : Entry) : Type 0 where
  pub new : Contains before entry → ⊥
  pub there : Contains after entry

-- one of the events made an entry, and its author held exactly this version just before
pub record Made (settings : SettingsModel) (events : List Event) (entry : Entry) (base : Counts) : Type 0 where
  pub time : ℕ
  pub enters : Enters (run settings (take time events)).history (run settings (take (time + 1) events)).history entry
  pub author : Holds (run settings (take time events)) entry.author base
