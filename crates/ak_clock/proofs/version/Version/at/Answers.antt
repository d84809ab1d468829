use Rattle.std.proofs.Common.{sym}
use Rattle.ak_address.proofs.TableLaws.{get_at}
use Rattle.ak_clock.proofs.VersionLaws.{stored_count}
use Rattle.ak_clock.proofs.version.Version.at.Goals as goal

pub returns-in-Some-clause-counted : goal.returns-in-Some-clause-counted
returns-in-Some-clause-counted c =
    stored_count c.self.inside.counts c.in-Some.who.now c.in-Some.n.now c.self.invariant (get_at c.self.inside.counts c.args.index (c.in-Some.who.now, c.in-Some.n.now) (sym c.in-Some.ensures))
