use Rattle.std.proofs.Common.{Bool, ◌↔◌, IsTrue, subst, sym}
use Rattle.ak_settings.specs.Settings.{MayBeTypes}
use Rattle.ak_settings.proofs.Names.{may_be_means}
use Rattle.ak_settings.proofs.types.may_be_types.Goals as goal

pub returns-clause-meaning : goal.returns-clause-meaning
returns-clause-meaning c =
    subst (λ (b : Bool). IsTrue b ↔ MayBeTypes c.args.shards c.args.types.now) (sym c.are_few_names.ensures) (may_be_means c.args.shards c.args.types.now)
