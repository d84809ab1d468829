-- What generated events ask of a world: that none of them is refused for an address, a process, a packet or an entity (this
-- project's choice).
use Rattle.std.specs.Prelude.{◌≡◌, ◌≢◌, ◌⊎◌, ℕ, ◌+◌, ◌<◌, ◌≤◌, min, Bool, true, false, IsTrue, List, [], ◌∷◌, length, Contains, Some}
use Rattle.ak_address.specs.Unique.{UniqueModel}
use Rattle.ak_address.specs.Uniques.{UniqueSet, no_one, has}
use Rattle.ak_schedule.specs.declared.event.Event.{Event}
use Rattle.ak_schedule.specs.declared.event.Event.TheVariants.{Start, Found, Join, Tick, Deliver, Leave, Down, Offer, Stop}
use Rattle.ak_generate.specs.declared.sight.Sight.{Sight}
use Rattle.ak_settings.specs.Settings.{is_entity_in}
use Rattle.ak_generate.specs.Fixed.{addresses, fixed}
use Rattle.ak_generate.specs.Words.{Words}
use Rattle.ak_generate.specs.Generated.{next_event}
use Rattle.ak_generate.specs.Generator.{GeneratorModel}

-- as much of a world as decides it
pub record Census : Type 0 where
  -- the processes that were started, the last one first
  pub started : List UniqueModel
  pub running : UniqueSet
  -- a process founded the cluster
  pub founded : Bool
  pub packets : ℕ

-- what a generator sees of it
abbrev pub sight_of : Census → Sight
sight_of c = record { running = c.running; starts = length c.started; packets = c.packets }

abbrev pub Runs : Census → UniqueModel → Type 0
Runs c who = IsTrue (has c.running who)

-- ---- which events may happen
-- the address is listed, the process was never started, nobody runs at its address, and fewer than 64 were started
pub record MayStart (c : Census) (who : UniqueModel) : Type 0 where
  pub listed : Contains addresses who.address
  pub unused : ¬ Contains c.started who
  pub alone : (other : UniqueModel) → Runs c other → other.address ≢ who.address
  pub few : length c.started < 64

-- who acts runs, one alone founds, one joins through a listed address, there is such a packet, and what is offered is for an entity
abbrev pub MayHappen : Census → Event → Type 0
MayHappen c (Start who) = MayStart c who
MayHappen c (Found who) = (c.founded ≡ false) × Runs c who
MayHappen c (Join who target) = Contains addresses target × Runs c who
MayHappen c (Tick who word) = Runs c who
MayHappen c (Deliver number) = (1 ≤ number) × (number ≤ c.packets)
MayHappen c (Leave who member) = Runs c who
MayHappen c (Down who member) = Runs c who
MayHappen c (Offer who entity payload) = Runs c who × IsTrue (is_entity_in fixed entity)
MayHappen c (Stop who) = Runs c who

-- ---- what an event makes of a world
-- the processes that were started by then
abbrev pub started_by : Event → List UniqueModel → List UniqueModel
started_by (Start who) started = who ∷ started
started_by (Found who) started = started
started_by (Join who target) started = started
started_by (Tick who word) started = started
started_by (Deliver number) started = started
started_by (Leave who member) started = started
started_by (Down who member) started = started
started_by (Offer who entity payload) started = started
started_by (Stop who) started = started

abbrev pub founded_by : Event → Bool → Bool
founded_by (Start who) founded = founded
founded_by (Found who) founded = true
founded_by (Join who target) founded = founded
founded_by (Tick who word) founded = founded
founded_by (Deliver number) founded = founded
founded_by (Leave who member) founded = founded
founded_by (Down who member) founded = founded
founded_by (Offer who entity payload) founded = founded
founded_by (Stop who) founded = founded

abbrev pub Starts : Event → UniqueModel → Type 0
Starts (Start who) one = one ≡ who
Starts (Found who) one = ⊥
Starts (Join who target) one = ⊥
Starts (Tick who word) one = ⊥
Starts (Deliver number) one = ⊥
Starts (Leave who member) one = ⊥
Starts (Down who member) one = ⊥
Starts (Offer who entity payload) one = ⊥
Starts (Stop who) one = ⊥

-- the process is given the event, so it may stop; a packet may be for anybody
abbrev pub IsGiven : Event → UniqueModel → Type 0
IsGiven (Start who) one = ⊥
IsGiven (Found who) one = one ≡ who
IsGiven (Join who target) one = one ≡ who
IsGiven (Tick who word) one = one ≡ who
IsGiven (Deliver number) one = Unit {0}
IsGiven (Leave who member) one = one ≡ who
IsGiven (Down who member) one = one ≡ who
IsGiven (Offer who entity payload) one = one ≡ who
IsGiven (Stop who) one = one ≡ who

-- Whoever starts runs, and nobody else begins to run; whoever is not given the event does not stop. Packets are free.
pub record Follows (c : Census) (event : Event) (d : Census) : Type 0 where
  pub started : d.started ≡ started_by event c.started
  pub founded : d.founded ≡ founded_by event c.founded
  pub begins : (one : UniqueModel) → Starts event one → Runs d one
  pub ran : (one : UniqueModel) → Runs d one → Runs c one ⊎ Starts event one
  pub stays : (one : UniqueModel) → Runs c one → Runs d one ⊎ IsGiven event one

abbrev pub nothing_yet : Census
nothing_yet = record { started = []; running = no_one; founded = false; packets = 0 }

-- a world after so many generated events and no others, whatever the words were
pub data IsGenerated : ℕ → Census → Type 0 where
  begun : IsGenerated 0 nothing_yet
  goes_on : (given : ℕ) (c d : Census) (w : Words) (event : Event) → IsGenerated given c → next_event given (sight_of c) w ≡ Some event → Follows c event d → IsGenerated (given + 1) d

-- a world after as many generated events as a generator has given, which is seen so
pub record IsSeen (c : Census) (g : GeneratorModel) (s : Sight) : Type 0 where
  pub given : ℕ
  pub generated : IsGenerated given c
  pub opened : g.opened ≡ min 10 given
  pub sight : s ≡ sight_of c
