-- How a world keeps in mind whether its removal margin was kept: at a step it looks whether a process runs whose margin ends.
use Rattle.std.specs.Prelude.{ℕ, Bool, true, false, ◌&&◌, List, [], ◌∷◌, Option, Some, None}
use Rattle.std.specs.List.{position}
use Rattle.ak_address.specs.Unique.{UniqueModel}
use Rattle.ak_wire.specs.declared.action.Action.{Action}
use Rattle.ak_wire.specs.declared.action.Action.TheVariants.{Send, Update, View, Settled, Active, Ended, Host, Gone, Entity, Deliver, Forward, Buffer, Drop, MarginEnd, Refused, Dead, Stopped}
use Rattle.ak_node.specs.declared.node.State.{State}
use Rattle.ak_world.specs.declared.margin.Margin.{Margin}
use Rattle.ak_world.specs.declared.margin.Margin.TheVariants.{Kept, Broken}
use Rattle.ak_world.specs.World.{Done, is_process}

-- a node is this process, and runs
abbrev pub runs_as : UniqueModel → State → Bool
runs_as u n = n.runs && is_process u n

-- the number of the process whose margin an action ends, where it runs
abbrev pub running_end : List State → Action → Option ℕ
running_end nodes (Send e) = None
running_end nodes (Update number effects) = None
running_end nodes View = None
running_end nodes Settled = None
running_end nodes (Active term) = None
running_end nodes (Ended term) = None
running_end nodes (Host shard number) = None
running_end nodes (Gone shard) = None
running_end nodes (Entity entity) = None
running_end nodes (Deliver entity payload) = None
running_end nodes (Forward entity payload) = None
running_end nodes (Buffer entity payload) = None
running_end nodes (Drop entity payload) = None
running_end nodes (MarginEnd who) = position (runs_as who) nodes
running_end nodes (Refused why) = None
running_end nodes Dead = None
running_end nodes Stopped = None

abbrev pub or_else : Option ℕ → Option ℕ → Option ℕ
or_else None other = other
or_else (Some number) other = Some number

-- the first such process
abbrev pub first_end : List State → List Action → Option ℕ
first_end nodes [] = None
first_end nodes (a ∷ actions) = or_else (running_end nodes a) (first_end nodes actions)

-- a broken margin stays so; a kept one is broken where a node acts and there is such a process
abbrev pub broken_by : ℕ → Option ℕ → Option ℕ → Margin
broken_by step (Some node) (Some member) = Broken step node member
broken_by step (Some node) None = Kept
broken_by step None member = Kept

abbrev pub marked : Margin → ℕ → Done → Margin
marked Kept step done = broken_by step done.node (first_end done.world.nodes done.actions)
marked (Broken earlier node member) step done = Broken earlier node member

-- the actions that may break a margin or make a double: where a step has none, both stay as they were
abbrev pub may_mark : Action → Bool
may_mark (Entity entity) = true
may_mark (MarginEnd who) = true
may_mark _ = false
