use Rattle.std.proofs.Common.{rules}
use Rattle.ak_link.proofs.FoundNames.{adds_one}
use Rattle.ak_link.proofs.names.find.Goals as goal

pub addresses-preserved : goal.addresses-preserved
addresses-preserved g c = (
  tt,
  tt,
  adds_one c.args.at.now.host c.args.found.now.items c.addresses.found.items c.push.new.self.items (record { host = c.in_ok-host.host; at = c.in-Some.address }) c.addresses.invariant.2 (search rules) (search rules),
)
