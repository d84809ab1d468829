use Rattle.std.proofs.Common.{◌<◌, sym, subst}
use Rattle.ak_clock.specs.declared.version.TheConstants.{BOUND}
use Rattle.ak_clock.specs.Version.{count}
use Rattle.ak_clock.proofs.VersionLaws.{still_bumped}
use Rattle.ak_clock.proofs.version.Version.bump.Goals as goal

pub invariant_of-self : goal.invariant_of-self
invariant_of-self c =
    let room : count c.self.inside.counts c.args.author.now < BOUND = subst (λ v. count v c.args.author.now < BOUND) (sym c.self.view_is) c.requires in
    still_bumped c.bump_in.result _ _ _ c.bump_in.ensures.ok c.bump_in.ensures.err c.self.invariant room
