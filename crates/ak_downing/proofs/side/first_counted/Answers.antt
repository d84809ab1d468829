use Rattle.std.specs.FinMap as map
use Rattle.std.proofs.Common.{sym, ◌∙◌, arith}
use Rattle.ak_downing.proofs.SideLemmas.{first_here, first_later, no_first}
use Rattle.ak_downing.proofs.side.first_counted.Goals as goal

pub returns-in-Some : goal.returns-in-Some
returns-in-Some c = sym (first_here c.args.role.now (map.entries c.args.members.now) c.pairs.pair (c.in-Some.unique.now, c.in-Some.field-0-1) c.in-Some.ensures) ∙ c.pairs.invariant

pub pairs-preserved : goal.pairs-preserved
pairs-preserved c = first_later c.args.role.now (map.entries c.args.members.now) c.pairs.pair c.in_default.ensures ∙ c.pairs.invariant

pub returns : goal.returns
returns c = sym (no_first c.args.role.now (map.entries c.args.members.now) c.pairs.pair (let past = map.len-entries c.args.members.now in omega arith)) ∙ c.pairs.invariant
