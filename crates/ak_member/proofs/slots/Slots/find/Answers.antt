use Rattle.std.proofs.Common.{option_map, ap, ◌∙◌}
use Rattle.std.specs.FinMap as map
use Rattle.ak_address.specs.Unique.{UniqueModel}
use Rattle.ak_member.specs.declared.standing.Standing.{Standing}
use Rattle.ak_member.specs.Slots.{SlotsModel, standings_of}
use Rattle.ak_member.proofs.slots.Slots.find.Goals as goal

pub returns : goal.returns
returns c =
    c.found_by_hash.ensures
    ∙ ap (option_map {U = UniqueModel × Standing} (λ (x : Standing). (c.args.who.now, x))) (ap (λ (s : SlotsModel). map.get (standings_of s.entries) c.args.who.now) c.self.view_is)

pub returns-then-len-le-FEW : goal.returns-then-len-le-FEW
returns-then-len-le-FEW c =
    c.found_along.ensures
    ∙ ap (option_map {U = UniqueModel × Standing} (λ (x : Standing). (c.args.who.now, x))) (ap (λ (s : SlotsModel). map.get (standings_of s.entries) c.args.who.now) c.self.view_is)
