use Rattle.std.proofs.Common.{◌&&◌, sym, ap, ◌∙◌}
use Rattle.std.specs.FinMap as map
use Rattle.ak_address.specs.Uniques.{has}
use Rattle.ak_address.proofs.UniquesLaws.{has-no_one, has-those}
use Rattle.ak_member.specs.Standing.{is_member}
use Rattle.ak_member.specs.View.{Row, RowTable}
use Rattle.ak_membership.specs.Tick.{subjects_of}
use Rattle.ak_membership.proofs.state.MembershipState.is_own_subject.Goals as goal

pub returns-then-contains : goal.returns-then-contains
returns-then-contains c =
    let m = c.args.self.now in
    let who = c.args.who.now in
    let row = c.in-Some.ensures ∙ ap (λ (rows : RowTable). map.get rows m.me) c.rows.ensures in
    let named = ap (λ o. has (subjects_of o) who) (sym row) ∙ ap (λ (r : Row). has r.subjects who) (sym c.row-in-Some.view_is) ∙ sym c.if-contains.ensures in
    c.has_member.ensures ∙ sym (has-those (subjects_of (map.get m.gossip.view.rows m.me)) (is_member m.gossip.view.standings) who ∙ ap (λ b. b && is_member m.gossip.view.standings who) named)

pub returns-else-contains : goal.returns-else-contains
returns-else-contains c =
    let m = c.args.self.now in
    let who = c.args.who.now in
    let row = c.in-Some.ensures ∙ ap (λ (rows : RowTable). map.get rows m.me) c.rows.ensures in
    let named = ap (λ o. has (subjects_of o) who) (sym row) ∙ ap (λ (r : Row). has r.subjects who) (sym c.row-in-Some.view_is) ∙ sym c.if-contains.ensures in
    c.if-contains.false ∙ sym (has-those (subjects_of (map.get m.gossip.view.rows m.me)) (is_member m.gossip.view.standings) who ∙ ap (λ b. b && is_member m.gossip.view.standings who) named)

pub returns-in-None : goal.returns-in-None
returns-in-None c =
    let m = c.args.self.now in
    let who = c.args.who.now in
    let row = c.in-None.ensures ∙ ap (λ (rows : RowTable). map.get rows m.me) c.rows.ensures in
    sym (has-those (subjects_of (map.get m.gossip.view.rows m.me)) (is_member m.gossip.view.standings) who ∙ ap (λ b. b && is_member m.gossip.view.standings who) (ap (λ o. has (subjects_of o) who) (sym row) ∙ has-no_one who))
