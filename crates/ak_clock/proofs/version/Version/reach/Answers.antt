use Rattle.ak_clock.proofs.VersionLaws.{still_reaching}
use Rattle.ak_clock.proofs.version.Version.reach.Goals as goal

pub invariant_of-self : goal.invariant_of-self
invariant_of-self c = still_reaching c.reach_in.result _ _ _ _ c.reach_in.ensures.ok c.reach_in.ensures.err c.self.invariant c.requires
