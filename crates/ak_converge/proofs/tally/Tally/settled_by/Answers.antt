use Rattle.std.proofs.Common.{◌&&◌, nat_le, sym, ◌∙◌}
use Rattle.ak_converge.proofs.TallyLaws.{tally_addresses}
use Rattle.ak_converge.proofs.tally.Tally.settled_by.Goals as goal

pub returns-then-converged : goal.returns-then-converged
returns-then-converged c = λ role v seen is i.
    (sym c.if-converged.true ∙ c.converged.ensures role v seen is) i && nat_le c.args.quorum ((c.addresses.ensures.value ∙ tally_addresses c.args.self.now role v seen is) i)
