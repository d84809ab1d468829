-- The exit status as a number. This project's choice.
use Rattle.std.specs.Prelude.{ℕ}
use Rattle.ak_outside.specs.declared.status.Status.{Status}
use Rattle.ak_outside.specs.declared.status.Status.TheVariants.{Done, Double, Usage, Configuration, Schedule, Read, Write, Memory, Link, Turns}

abbrev pub exit_code : Status → ℕ
exit_code Done = 0
exit_code Double = 1
exit_code Usage = 2
exit_code Configuration = 3
exit_code Schedule = 4
exit_code Read = 5
exit_code Write = 6
exit_code Memory = 7
exit_code Link = 8
exit_code Turns = 9
