use Rattle.std.proofs.Common.{Some, None, sym}
use Rattle.ak_converge.proofs.UsesLaws.{uses_are}
use Rattle.ak_converge.proofs.uses.Uses.at.Goals as goal

pub returns-in-Some : goal.returns-in-Some
returns-in-Some c = sym (uses_are c.self.inside.counts.entries c.args.at.now c.args.self.now (Some c.in-Some.uses.now) c.self.view_is c.in-Some.ensures.value)

pub returns-in-None : goal.returns-in-None
returns-in-None c = sym (uses_are c.self.inside.counts.entries c.args.at.now c.args.self.now None c.self.view_is c.in-None.ensures.value)
