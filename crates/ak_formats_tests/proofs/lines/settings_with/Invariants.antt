use Rattle.std.proofs.Common.{◌<◌}
use Rattle.ak_formats_tests.proofs.lines.settings_with.Given as goal

-- the ninth is not read yet
abbrev pub invariant-headers : goal.invariant-headers
invariant-headers l = l.draft.read < 9
