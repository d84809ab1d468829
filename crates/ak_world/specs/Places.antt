-- At which nodes an entity is active, by what nodes told (Akka's "Cluster Sharding").
use Rattle.std.specs.Prelude.{◌≡◌, ℕ, List, length}
use Rattle.ak_settings.specs.Settings.{SettingsModel}
use Rattle.ak_schedule.specs.declared.event.Event.{Event}
use Rattle.ak_world.specs.Double.{WasActive}

-- after these events the entity is active at the node, by what nodes told
abbrev pub IsActiveAt : SettingsModel → List Event → ℕ → List ℕ → Type 0
IsActiveAt settings events node entity = WasActive settings events (length events) 0 node entity

-- after these events each entity is active at one node at most
abbrev pub AreAtOneNode : SettingsModel → List Event → Type 0
AreAtOneNode settings events = (i j : ℕ) (entity : List ℕ) → IsActiveAt settings events i entity → IsActiveAt settings events j entity → i ≡ j
