use Rattle.std.proofs.Common.{Bool, ◌↔◌, ◌≢◌, IsTrue, subst, sym}
use Rattle.std.specs.List.{AllPairs}
use Rattle.ak_settings.proofs.Names.{texts_differ_means}
use Rattle.ak_settings.proofs.types.all_texts_differ.Goals as goal

pub returns-clause-meaning : goal.returns-clause-meaning
returns-clause-meaning c = subst (λ (b : Bool). IsTrue b ↔ AllPairs (λ x y. x ≢ y) c.args.texts.now) (sym c.texts_differ.ensures) (texts_differ_means c.args.texts.now)
