use Rattle.std.proofs.Common.{subst, arith}
use Rattle.ak_world.specs.DoubleMark.{FirstKeeper}
use Rattle.ak_world.specs.WorldContracts.{states}
use Rattle.ak_world.proofs.DoubleLoops.{keeper_within, made_none}
use Rattle.ak_world.proofs.WorldLemmas.{length-states}
use Rattle.ak_world.proofs.double.made.Goals as goal

pub returns-in_default-keeper : goal.returns-in_default-keeper
returns-in_default-keeper c =
    made_none (states c.args.nodes.now) c.in-Entity.entity c.args.acting c.args.action.now c.keeper.result c.in-Entity.is c.in_default-keeper.is c.keeper.ensures

pub number_of-requires : goal.number_of-requires
number_of-requires c =
    let all = states c.args.nodes.now in
    let first = subst (λ o. FirstKeeper all c.in-Entity.entity c.args.acting o) c.in-Some.is c.keeper.ensures in
    let within = keeper_within all c.in-Entity.entity c.args.acting c.in-Some.index first in
    let few = c.requires in
    omega (arith, within, length-states c.args.nodes.now, few)
