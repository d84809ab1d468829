use Rattle.std.proofs.Common.{sym, subst}
use Rattle.ak_clock.specs.Version.{IsVersion}
use Rattle.ak_clock.proofs.VersionLaws.{empty_is_version}
use Rattle.ak_clock.proofs.version.Version.with_capacity.Goals as goal

pub invariant_of-result : goal.invariant_of-result
invariant_of-result c = subst IsVersion (sym c.in_ok-counts.ensures.ok) empty_is_version
