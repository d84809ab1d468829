use Rattle.std.proofs.Common.{sym, ap, ◌∙◌}
use Rattle.std.specs.FinMap as map
use Rattle.ak_address.specs.Uniques.{those}
use Rattle.ak_member.specs.Standing.{is_member}
use Rattle.ak_member.specs.View.{RowTable}
use Rattle.ak_membership.specs.Tick.{silent, subjects_of, lacks}
use Rattle.ak_membership.proofs.SilenceLemmas.{lacks_nobody}
use Rattle.ak_membership.proofs.WalkLemmas.{none_those}
use Rattle.ak_membership.proofs.state.MembershipState.hears_one.Goals as goal

pub returns-in-None : goal.returns-in-None
returns-in-None c =
    let m = c.args.self.now in
    let p = is_member m.gossip.view.standings in
    let row = c.in-None.ensures ∙ ap (λ (rows : RowTable). map.get rows m.me) c.rows.ensures in
    sym (lacks_nobody (silent m)) ∙ ap (lacks (silent m)) (none_those p ∙ ap (λ o. those (subjects_of o) p) row)
