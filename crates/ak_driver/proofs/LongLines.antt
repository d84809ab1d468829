-- A line that is too long is refused, whatever it says.
use Rattle.std.proofs.Common.{inl, inr, ℕ, ◌<◌, ◌≤◌, List, length, arith}
use Rattle.ak_schedule.specs.Line.{most_bytes}
use Rattle.ak_driver.specs.declared.replay.Code.TheVariants.{Malformed, BadHeader, PastLimit}
use Rattle.ak_driver.specs.ReplayText.{Progress, IsRefused, most_lines, most_events, header_count}

pub long_header : (p : Progress) (line : List ℕ) → p.line ≤ most_lines → p.headers < header_count → most_bytes < length line → IsRefused p line BadHeader
long_header p line within heading long = inl (
  record { in_limit = within; not_passed = λ passed. omega (arith, passed.short, long); heading = heading },
  λ settings sets. omega (arith, sets.sets.short, long),
)

pub long_event : (p : Progress) (line : List ℕ) → p.line ≤ most_lines → header_count ≤ p.headers → length p.events < most_events → most_bytes < length line → IsRefused p line Malformed
long_event p line within running room long = (
  record { in_limit = within; not_passed = λ passed. omega (arith, passed.short, long); running = running; no_extra = λ none short. omega (arith, short, long) },
  room,
  λ event spells. omega (arith, spells.short, long),
)

pub long_last : (p : Progress) (line : List ℕ) → p.line ≤ most_lines → header_count ≤ p.headers → most_events ≤ length p.events → most_bytes < length line → IsRefused p line PastLimit
long_last p line within running full long = inr (record { in_limit = within; not_passed = λ passed. omega (arith, passed.short, long); running = running; no_extra = λ none short. omega (arith, short, long) }, full)
