-- How a world keeps in mind its first double: at a step that starts an entity it looks whether another node that runs keeps it active.
use Rattle.std.specs.Prelude.{◌≡◌, ◌≢◌, ℕ, ◌<◌, Bool, true, false, ◌&&◌, List, Option, None, Some, is_some, IsTrue, slice_get}
use Rattle.std.specs.FinMap as finmap
use Rattle.std.specs.Ordering.{is_lt}
use Rattle.ak_address.specs.Unique.{unique_cmp}
use Rattle.ak_node.specs.Node.{me_of}
use Rattle.ak_wire.specs.declared.action.Action.{Action}
use Rattle.ak_wire.specs.declared.action.Action.TheVariants as action
use Rattle.ak_sharding.specs.Alive.{IsActive}
use Rattle.ak_node.specs.declared.node.State.{State}
use Rattle.ak_world.specs.Double.{ComesNotAfter, Doubled}

-- the node of this number runs, and keeps the entity active
pub record Keeps (nodes : List State) (entity : List ℕ) (number : ℕ) : Type 0 where
  pub node : State
  pub at : slice_get nodes number ≡ Some node
  pub runs : IsTrue node.runs
  pub active : IsActive node.sharding entity

-- the same, as a test of a node
abbrev pub keeps : List ℕ → State → Bool
keeps entity n = n.runs && is_some (finmap.get n.sharding.entities entity)

-- one node comes before another, in the order of processes
abbrev pub comes_before : Option State → Option State → Bool
comes_before (Some n) (Some m) = is_lt (unique_cmp (me_of n) (me_of m))
comes_before (Some n) None = false
comes_before None m = false

-- the node of this number comes before the one that was found so far, or none was
abbrev pub comes_first : List State → ℕ → Option ℕ → Bool
comes_first nodes number None = true
comes_first nodes number (Some found) = comes_before (slice_get nodes number) (slice_get nodes found)

-- of the nodes but one the first, in the order of processes, that keeps the entity active; or none does
pub record IsKeeper (nodes : List State) (entity : List ℕ) (but number : ℕ) : Type 0 where
  pub keeps : Keeps nodes entity number
  pub apart : number ≢ but
  pub least : (other : ℕ) → Keeps nodes entity other → other ≢ but → ComesNotAfter nodes number other

abbrev pub FirstKeeper : List State → List ℕ → ℕ → Option ℕ → Type 0
FirstKeeper nodes entity but None = (other : ℕ) → Keeps nodes entity other → other ≢ but → ⊥
FirstKeeper nodes entity but (Some number) = IsKeeper nodes entity but number

-- of the entities that these actions start, none is kept active by a node but this one
abbrev pub StartsNone : List State → ℕ → List Action → Type 0
StartsNone nodes acting actions = (place : ℕ) (entity : List ℕ) → slice_get actions place ≡ Some (action.Entity entity) → FirstKeeper nodes entity acting None

-- the first of these actions that starts an entity which another node keeps active, and that node
pub record StartsFirst (nodes : List State) (acting : ℕ) (actions : List Action) (entity : List ℕ) (active : ℕ) : Type 0 where
  pub place : ℕ
  pub at : slice_get actions place ≡ Some (action.Entity entity)
  pub keeper : IsKeeper nodes entity acting active
  pub first : (earlier : ℕ) (other : List ℕ) → earlier < place → slice_get actions earlier ≡ Some (action.Entity other) → FirstKeeper nodes other acting None

-- what one action of a node makes of doubles
abbrev pub MadeBy : ℕ → List State → ℕ → Action → Option Doubled → Type 0
MadeBy step nodes acting a None = (entity : List ℕ) → a ≡ action.Entity entity → FirstKeeper nodes entity acting None
MadeBy step nodes acting a (Some d) = (a ≡ action.Entity d.entity) × IsKeeper nodes d.entity acting d.active × (d.started ≡ acting) × (d.step ≡ step)

-- what the actions of a node make of doubles at a step, where none was before
abbrev pub DoublesAt : ℕ → List State → ℕ → List Action → Option Doubled → Type 0
DoublesAt step nodes acting actions None = StartsNone nodes acting actions
DoublesAt step nodes acting actions (Some d) = StartsFirst nodes acting actions d.entity d.active × (d.started ≡ acting) × (d.step ≡ step)

-- what a step makes of the first double: one that was stays, and where no node acts there is none
abbrev pub NextDouble : Option Doubled → ℕ → List State → Option ℕ → List Action → Option Doubled → Type 0
NextDouble (Some d) step nodes acting actions next = next ≡ Some d
NextDouble None step nodes None actions next = next ≡ None
NextDouble None step nodes (Some acting) actions next = DoublesAt step nodes acting actions next
