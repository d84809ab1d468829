use Rattle.std.proofs.Common.{◌∙◌}
use Rattle.std.specs.FinMap as map
use Rattle.ak_sight.proofs.CountLemmas.{marked_uses, marked_roles}
use Rattle.ak_sight.proofs.count.keep_counted.Goals as goal

pub returns-then-counts_alike-clause-uses : goal.returns-then-counts_alike-clause-uses
returns-then-counts_alike-clause-uses c = c.requires.uses ∙ marked_uses c.args.role.now (map.entries c.args.old.now) (map.entries c.args.new.now) (c.counts_alike.ensures c.if-counts_alike.true)

pub returns-then-counts_alike-clause-roles : goal.returns-then-counts_alike-clause-roles
returns-then-counts_alike-clause-roles c = c.requires.roles ∙ marked_roles c.args.role.now (map.entries c.args.old.now) (map.entries c.args.new.now) (c.counts_alike.ensures c.if-counts_alike.true)
