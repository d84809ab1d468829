use Rattle.std.proofs.Common.{ℕ, option_map, ap, ◌∙◌}
use Rattle.std.specs.FinMap as map
use Rattle.ak_address.specs.Unique.{UniqueModel}
use Rattle.ak_member.specs.declared.status.Status.{Status}
use Rattle.ak_member.specs.Standing.{Standings, member_of}
use Rattle.ak_sight.proofs.AlikeLaws.{observed_in, sight_found}
use Rattle.ak_sight.proofs.sight.sight.Goals as goal

pub returns-in-Some : goal.returns-in-Some
returns-in-Some c =
    let v = c.args.gossip.now.view in
    let who = c.args.who.now in
    sight_found v who c.in-Some.member.unique.now (c.in-Some.member.status, c.in-Some.member.up_number) c.is_observed-unreachable.result
    (c.in-Some.ensures ∙ ap (λ (s : Standings). option_map {U = UniqueModel × (Status × ℕ)} (λ x. (who, x)) (member_of (map.get s who))) c.members.ensures)
    (observed_in v _ _ who c.is_observed-unreachable.result c.members-in-Some.ensures c.rows.ensures c.is_observed-unreachable.ensures.member)
