use Rattle.std.proofs.Common.{◌∙◌}
use Rattle.ak_sight.specs.Sight.{is_same_reach}
use Rattle.ak_sight.proofs.AlikeLaws.{observed_in}
use Rattle.ak_sight.proofs.sight.is_reached_alike.Goals as goal

pub returns : goal.returns
returns c = λ member other.
    let who = c.args.who.now in
    c.is_same_reach.ensures
    ∙ (λ i. is_same_reach
    (observed_in c.args.one.now.view _ _ who _ c.members.ensures c.rows.ensures c.is_observed-unreachable.ensures.member member i)
    (observed_in c.args.other.now.view _ _ who _ c.members-2.ensures c.rows-2.ensures c.is_observed.ensures.member other i))
