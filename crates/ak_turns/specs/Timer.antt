-- When a node on the network ticks (this project's choice). Its clock counts milliseconds.
use Rattle.std.specs.Prelude.{ℕ, ◌+◌, ◌-◌, max, Bool, nat_le, Option, None, Some, if◌then◌else◌}
use Rattle.rand_core.specs.Pcg32Seed.{pcg32_seed}
use Rattle.rand_pcg.specs.Pcg.{pcg32, pcg32_of_seed}
use Rattle.ak_turns.specs.declared.timer.Timer.{Timer}

-- at the first reading no tick was made; the words are those of the kit's `Pcg32` of the seed
abbrev pub timer_at : ℕ → ℕ → ℕ → Timer
timer_at tick_ms seed reading =
    record { tick_ms = tick_ms; noted = reading; latest = reading; words = pcg32_of_seed (pcg32_seed 16 seed); ticks = 0; idle = 0 }

-- a reading below an earlier one counts as the earlier one
abbrev pub time_at : ℕ → Timer → ℕ
time_at reading t = max t.latest reading

-- the time lies at least so many milliseconds after the last tick, or the first reading
abbrev pub is_due : ℕ → Timer → Bool
is_due reading t = nat_le t.tick_ms (time_at reading t - t.noted)

-- the word of the next tick
abbrev pub next_word : Timer → ℕ
next_word t = (pcg32 t.words).0

-- the word of the tick that a reading makes, where it makes one
abbrev pub tick_at : ℕ → Timer → Option ℕ
tick_at reading t = if is_due reading t then Some (next_word t) else None

-- after a tick: the reading is noted, and the word is used
abbrev pub ticked : ℕ → Timer → Timer
ticked reading t = record { tick_ms = t.tick_ms; noted = time_at reading t; latest = time_at reading t; words = (pcg32 t.words).1; ticks = t.ticks + 1; idle = 0 }

-- after a reading that makes no tick
abbrev pub passed : ℕ → Timer → Timer
passed reading t = record { tick_ms = t.tick_ms; noted = t.noted; latest = time_at reading t; words = t.words; ticks = t.ticks; idle = t.idle + 1 }

-- after a reading
abbrev pub timer_after : ℕ → Timer → Timer
timer_after reading t = if is_due reading t then ticked reading t else passed reading t
