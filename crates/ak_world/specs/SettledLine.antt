-- One line: of any two versions that were settled in a run, one covers the other (this project's choice: Akka's Cluster
-- Specification, "Gossip Convergence", calls a version converged where the members agree; that enough of them count makes two
-- settled views meet at an address).
use Rattle.std.specs.Prelude.{◌≡◌, ◌⊎◌, ℕ, ◌*◌, ◌<◌, List, length, take, slice_get, Some, IsTrue}
use Rattle.ak_clock.specs.Version.{Counts, Covers}
use Rattle.ak_converge.specs.Convergence.{is_settled}
use Rattle.ak_schedule.specs.declared.event.Event.{Event}
use Rattle.ak_settings.specs.declared.settings.Strategy.TheVariants.{StaticQuorum}
use Rattle.ak_settings.specs.Settings.{SettingsModel}
use Rattle.ak_node.specs.declared.node.State.{State}
use Rattle.ak_node.specs.Node.{known}
use Rattle.ak_world.specs.World.{run}

-- after some of the first events a running node had exactly this version, and its view was settled for the quorum
pub record WasSettled (settings : SettingsModel) (events : List Event) (quorum : ℕ) (version : Counts) : Type 0 where
  pub time : ℕ
  pub index : ℕ
  pub node : State
  pub at : slice_get (run settings (take time events)).nodes index ≡ Some node
  pub runs : IsTrue node.runs
  pub settled : IsTrue (is_settled quorum settings.role (known node).view (known node).seen)
  pub version_is : (known node).version ≡ version

-- the strategy is a static quorum, of more than half of the addresses that have the role
abbrev pub IsOverHalf : SettingsModel → ℕ → Type 0
IsOverHalf settings quorum = (settings.strategy ≡ StaticQuorum quorum) × (length settings.role < 2 * quorum)

-- of any two versions that were settled one covers the other
abbrev pub AreInLine : SettingsModel → List Event → ℕ → Type 0
AreInLine settings events quorum = (one other : Counts) → WasSettled settings events quorum one → WasSettled settings events quorum other → Covers one other ⊎ Covers other one
