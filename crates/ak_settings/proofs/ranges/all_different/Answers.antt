use Rattle.std.proofs.Common.{Bool, ◌↔◌, ◌≢◌, IsTrue, subst, sym}
use Rattle.std.specs.List.{AllPairs}
use Rattle.ak_settings.proofs.Different.{different_means}
use Rattle.ak_settings.proofs.ranges.all_different.Goals as goal

pub returns-clause-meaning : goal.returns-clause-meaning
returns-clause-meaning c = subst (λ (b : Bool). IsTrue b ↔ AllPairs (λ x y. x ≢ y) c.args.listed.now) (sym c.are_different.ensures) (different_means c.args.listed.now)
