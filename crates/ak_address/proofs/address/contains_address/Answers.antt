use Rattle.std.proofs.Common.{Bool, ◌↔◌, IsTrue, Contains, subst, sym}
use Rattle.ak_address.proofs.AmongLaws.{among_means}
use Rattle.ak_address.proofs.address.contains_address.Goals as goal

pub returns-clause-meaning : goal.returns-clause-meaning
returns-clause-meaning c = subst (λ (b : Bool). IsTrue b ↔ Contains c.args.list.now c.args.at.now) (sym c.is_among.ensures) (among_means c.args.list.now c.args.at.now)
