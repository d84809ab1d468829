-- Which event comes next in a generated schedule, by what is seen of the world and by words (this project's choice).
use Rattle.std.specs.Prelude.{◌≡◌, ℕ, ◌≤◌, ◌+◌, ◌-◌, ◌%◌, min, Bool, true, false, not, ◌&&◌, ◌==◌, nat_lt, nat_le, List, [], ◌∷◌, slice_get, Option, None, Some, decimal, option_and_then, if◌then◌else◌}
use Rattle.std.specs.List.{list_any}
use Rattle.std.specs.Option.{option_map}
use Rattle.std.specs.Ordering.{is_eq}
use Rattle.ak_address.specs.Unique.{AddressModel, UniqueModel, address_cmp}
use Rattle.ak_address.specs.Uniques.{UniqueSet, how_many, in_order}
use Rattle.ak_schedule.specs.declared.event.Event.{Event}
use Rattle.ak_schedule.specs.declared.event.Event as event
use Rattle.ak_generate.specs.declared.choice.Choice.{Choice}
use Rattle.ak_generate.specs.declared.choice.Choice.TheVariants.{Tick, Deliver, Offer, Leave, Down, Stop, Start, Join}
use Rattle.ak_generate.specs.declared.sight.Sight.{Sight}
use Rattle.ak_generate.specs.Fixed.{address, process}
use Rattle.ak_generate.specs.Words.{Words, after_one}

-- ---- the first ten events
-- five processes start, the first one founds, and the others join through it
abbrev pub opening : List Event
opening =
    event.TheVariants.Start (process 1 1) ∷ event.TheVariants.Start (process 2 1) ∷ event.TheVariants.Start (process 3 1)
    ∷ event.TheVariants.Start (process 4 1) ∷ event.TheVariants.Start (process 5 1)
    ∷ event.TheVariants.Found (process 1 1)
    ∷ event.TheVariants.Join (process 2 1) (address 1) ∷ event.TheVariants.Join (process 3 1) (address 1)
    ∷ event.TheVariants.Join (process 4 1) (address 1) ∷ event.TheVariants.Join (process 5 1) (address 1) ∷ []

-- ---- what words choose
-- the running process that a word chooses
abbrev pub chosen : ℕ → UniqueSet → Option UniqueModel
chosen word running = slice_get (in_order running) (word % how_many running)

-- which event is chosen, by the rest of a word by 100
abbrev pub choice_of : ℕ → Choice
choice_of c =
    if nat_le c 34 then Tick
    else (if nat_le c 89 then Deliver
    else (if nat_le c 92 then Offer
    else (if c == 93 then Leave
    else (if c == 94 then Down
    else (if c == 95 then Stop
    else (if nat_le c 97 then Start
    else Join))))))

abbrev pub is_delivery : Choice → Bool
is_delivery Deliver = true
is_delivery _ = false

-- ---- events
-- a tick stands for an event that may not happen
abbrev pub idles : UniqueModel → Event
idles who = event.TheVariants.Tick who 0

-- one of the last 40 packets
abbrev pub delivers : Sight → ℕ → UniqueModel → Event
delivers s word who = if s.packets == 0 then idles who else event.TheVariants.Deliver (s.packets - word % min 40 s.packets)

-- an entity is named by `e` (101) and a number below 20
abbrev pub offers : ℕ → ℕ → UniqueModel → Event
offers word payload who = event.TheVariants.Offer who (101 ∷ decimal (word % 20)) payload

-- at least two processes go on
abbrev pub stops : Sight → UniqueModel → Event
stops s who = if nat_le 3 (how_many s.running) then event.TheVariants.Stop who else idles who

-- the process that starts next: a word chooses its address, and its uid is the number of its start
abbrev pub newcomer : Sight → ℕ → UniqueModel
newcomer s word = process (word % 5 + 1) (s.starts + 1)

abbrev pub is_at : AddressModel → Option UniqueModel → Bool
is_at at None = false
is_at at (Some who) = is_eq (address_cmp who.address at)

abbrev pub is_in_use : AddressModel → UniqueSet → Bool
is_in_use at running = list_any (λ who. is_at at (Some who)) (in_order running)

abbrev pub may_start : Sight → UniqueModel → Bool
may_start s who = nat_lt s.starts 64 && not (is_in_use who.address s.running)

abbrev pub starts : Sight → ℕ → UniqueModel → Event
starts s word who = if may_start s (newcomer s word) then event.TheVariants.Start (newcomer s word) else idles who

-- what was chosen happens at a running process; the words are those that it names, from left to right
abbrev pub happens : Choice → Sight → Words → UniqueModel → Option Event
happens Tick s w who = Some (event.TheVariants.Tick who (w 0))
happens Deliver s w who = Some (delivers s (w 0) who)
happens Offer s w who = Some (offers (w 0) (w 1) who)
happens Leave s w who = option_map (λ member. event.TheVariants.Leave who member) (chosen (w 0) s.running)
happens Down s w who = option_map (λ member. event.TheVariants.Down who member) (chosen (w 0) s.running)
happens Stop s w who = Some (stops s who)
happens Start s w who = Some (starts s (w 0) who)
happens Join s w who = option_map (λ (other : UniqueModel). event.TheVariants.Join who other.address) (chosen (w 0) s.running)

-- where no process runs one starts, until 64 were started
abbrev pub anew : Sight → ℕ → Option Event
anew s word = if nat_lt s.starts 64 then Some (event.TheVariants.Start (newcomer s word)) else None

-- an event after the first ten: the first word chooses which event, the second at which running process
abbrev pub later : Sight → Words → Option Event
later s w =
    if how_many s.running == 0 then anew s (w 0)
    else option_and_then (happens (choice_of (w 0 % 100)) s (after_one (after_one w))) (chosen (w 1) s.running)

-- the next event, after so many
abbrev pub next_event : ℕ → Sight → Words → Option Event
next_event given s w = if nat_lt given 10 then slice_get opening given else later s w

-- nothing comes next: the first ten events were given, no process runs, and 64 were started
pub record IsAtEnd (given : ℕ) (s : Sight) : Type 0 where
  pub opened : 10 ≤ given
  pub nobody : how_many s.running ≡ 0
  pub full : 64 ≤ s.starts

-- ---- how many words are drawn
-- as many as the event names, whether or not their values are used
abbrev pub words_named : Choice → ℕ
words_named Tick = 1
words_named Deliver = 1
words_named Offer = 2
words_named Leave = 1
words_named Down = 1
words_named Stop = 0
words_named Start = 1
words_named Join = 1

abbrev pub anew_words : Sight → ℕ
anew_words s = if nat_lt s.starts 64 then 1 else 0

abbrev pub later_words : Sight → Words → ℕ
later_words s w =
    if how_many s.running == 0 then anew_words s
    else 2 + words_named (choice_of (w 0 % 100))

abbrev pub next_words : ℕ → Sight → Words → ℕ
next_words given s w = if nat_lt given 10 then 0 else later_words s w
