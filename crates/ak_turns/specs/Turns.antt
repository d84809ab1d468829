-- The turns of a node on the network, and what comes to it by them (this project's choice).
use Rattle.std.specs.Prelude.{◌≡◌, ℕ, ◌<◌, ◌+◌, ◌⊎◌, Bool, true, false, List, [], ◌∷◌, length, take, Option, None, Some}
use Rattle.ak_address.specs.Unique.{AddressModel}
use Rattle.ak_config.specs.declared.config.Config.{Config}
use Rattle.ak_field.specs.Laws.{IsBytes}
use Rattle.ak_wire.specs.Datagram.{Spells}
use Rattle.ak_wire.specs.Laws.{FirstFault}
use Rattle.ak_wire.specs.Wire.{put}
use Rattle.ak_turns.specs.declared.happening.Happening.{Happening}
use Rattle.ak_turns.specs.declared.happening.Happening.TheVariants.{Found, Join, Tick, Packet, Bad}
use Rattle.ak_turns.specs.declared.timer.Timer.{Timer}
use Rattle.ak_turns.specs.Timer.{timer_at, tick_at, timer_after}

-- a turn: the packet that was heard, or none where it was quiet, and then what the clock read
pub record Turn : Type 0 where
  pub heard : Option (List ℕ)
  pub reading : ℕ

-- so many bytes of a packet are heard
abbrev pub most_bytes : ℕ
most_bytes = 65536

-- so many turns in a row may make no tick
abbrev pub most_idle : ℕ
most_idle = 10000000

-- ---- what comes by a turn
-- the bytes of a packet spell an envelope, or have this first fault
abbrev pub ComesAs : List ℕ → Happening → Type 0
ComesAs bytes Found = ⊥
ComesAs bytes (Join target) = ⊥
ComesAs bytes (Tick word) = ⊥
ComesAs bytes (Packet e) = Spells bytes e
ComesAs bytes (Bad fault) = FirstFault bytes fault

-- a packet comes at once, in the turn that heard it
abbrev pub ComesBy : Option (List ℕ) → Option Happening → Type 0
ComesBy None come = come ≡ None
ComesBy (Some bytes) come = (h : Happening) × ComesAs bytes h × (come ≡ Some h)

-- and then the tick that the reading makes, where it makes one
abbrev pub tick_by : Option ℕ → Option Happening
tick_by None = None
tick_by (Some word) = Some (Tick word)

-- ---- all turns, the last one first; so are all that came
abbrev pub founds : Bool → Option Happening
founds false = None
founds true = Some Found

abbrev pub joins : Option AddressModel → Option Happening
joins None = None
joins (Some target) = Some (Join target)

-- before the first turn a node founds, and then joins, where its configuration says so
abbrev pub begins : Config → List Happening
begins c = put (joins c.join) (put (founds c.found) [])

-- the time after turns
abbrev pub time_after : Timer → List Turn → Timer
time_after start [] = start
time_after start (t ∷ before) = timer_after t.reading (time_after start before)

-- the time of a node whose clock read so first
abbrev pub first_time : Config → ℕ → Timer
first_time c first = timer_at c.tick_ms c.seed first

-- what has come after the turns
abbrev pub Come : Config → ℕ → List Turn → List Happening → Type 0
Come c first [] all = all ≡ begins c
Come c first (t ∷ before) all =
    (earlier : List Happening) × (heard : Option Happening) × Come c first before earlier × ComesBy t.heard heard
    × (all ≡ put (tick_by (tick_at t.reading (time_after (first_time c first) before))) (put heard earlier))

-- ---- how many turns are taken
-- a node takes another turn while it has to tick, and not too many turns in a row made no tick
abbrev pub GoesOn : ℕ → Timer → Type 0
GoesOn ticks time = (time.ticks < ticks) × (time.idle < most_idle)

-- each turn was taken so
abbrev pub Taken : ℕ → Timer → List Turn → Type 0
Taken ticks start [] = Unit {0}
Taken ticks start (t ∷ before) = GoesOn ticks (time_after start before) × Taken ticks start before

-- ---- what the link and the clock gave
-- a receive gave this: the first bytes of the packet that comes next; or a quiet, or nothing, comes next
abbrev pub HearsOne : List (Option (List ℕ)) → List (Option (List ℕ)) → Option (List ℕ) → Type 0
HearsOne coming left None = (coming ≡ None ∷ left) ⊎ ((coming ≡ []) × (left ≡ []))
HearsOne coming left (Some heard) = (bytes : List ℕ) × (coming ≡ Some bytes ∷ left) × (heard ≡ take most_bytes bytes)

-- receives, the last one first, gave these, one after another
abbrev pub HearsAll : List (Option (List ℕ)) → List (Option (List ℕ)) → List (Option (List ℕ)) → Type 0
HearsAll coming left [] = left ≡ coming
HearsAll coming left (heard ∷ before) = (middle : List (Option (List ℕ))) × HearsAll coming middle before × HearsOne middle left heard

-- the turns' readings are the clock's, one after another, after the first one
abbrev pub ReadsAll : (ℕ → ℕ) → ℕ → List Turn → Type 0
ReadsAll readings first [] = first ≡ readings 0
ReadsAll readings first (t ∷ before) = (t.reading ≡ readings (length before + 1)) × ReadsAll readings first before

abbrev pub heard_by : List Turn → List (Option (List ℕ))
heard_by [] = []
heard_by (t ∷ before) = t.heard ∷ heard_by before

-- what was heard is bytes
abbrev pub IsHeard : Option (List ℕ) → Type 0
IsHeard None = Unit {0}
IsHeard (Some bytes) = IsBytes bytes

abbrev pub HearBytes : List Turn → Type 0
HearBytes [] = Unit {0}
HearBytes (t ∷ before) = IsHeard t.heard × HearBytes before
