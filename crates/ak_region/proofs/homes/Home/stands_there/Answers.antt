use Rattle.std.proofs.Common.{◌∙◌}
use Rattle.ak_region.proofs.HomesWalk.{stands_at}
use Rattle.ak_region.proofs.homes.Home.stands_there.Goals as goal

pub returns-in-Some-default-Member : goal.returns-in-Some-default-Member
returns-in-Some-default-Member c found =
    let at = c.in-Some-default-Member in
    stands_at c.args.members.now c.self.inside.place at.who.now c.args.self.now at.field-0-1 at.field-0-1-0 at.field-0-1-1 at.ensures at.field-0-1-is (c.is.ensures.meaning.0 found ∙ c.self.view_is)
