use Rattle.std.proofs.Common.{option_map, ap, ◌∙◌}
use Rattle.ak_field.proofs.Versions.{who, last_none, last_at}
use Rattle.ak_field.proofs.version.last_counted.Goals as goal
use Rattle.std.proofs.Common.{sym}

pub returns-then-many-eq0 : goal.returns-then-many-eq0
returns-then-many-eq0 c = ap (option_map who) (sym (last_none c.args.version.now (sym c.len-many.ensures ∙ c.if-many-eq0.true)))

pub returns-in-Some : goal.returns-in-Some
returns-in-Some c = ap (option_map who) (c.in-Some.ensures.pair ∙ last_at c.args.version.now c.len-many.result c.len-many.ensures)

pub returns-in-None : goal.returns-in-None
returns-in-None c = ap (option_map who) (c.in-None.ensures.pair ∙ last_at c.args.version.now c.len-many.result c.len-many.ensures)
