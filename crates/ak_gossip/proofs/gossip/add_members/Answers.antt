use Rattle.std.proofs.Common.{sym, ◌∙◌, subst, arith}
use Rattle.ak_address.specs.Uniques.{in_order}
use Rattle.ak_address.proofs.UniquesLaws.{length-in_order}
use Rattle.ak_member.specs.Standing.{is_member}
use Rattle.ak_gossip.proofs.SeenLemmas.{HasAdded, added_none, added_more, added_all, not_none, take_indices}
use Rattle.ak_gossip.proofs.gossip.add_members.Goals as goal
use Rattle.ak_gossip.proofs.gossip.add_members.Goals.{in-Some+in_ok-add_member, in_default}

pub others-init : goal.others-init
others-init c = added_none c.args.seen.now (is_member c.args.members.now)

pub others-preserved : goal.others-preserved
others-preserved c = elim c.match-at.branch [
  | in-Some+in_ok-add_member w ↦
      added_more c.args.seen.now c.args.others.now c.others.seen (is_member c.args.members.now) c.others.index w.in-Some.who.now
      c.others.invariant (sym w.in-Some.ensures) c.match-at.seen (w.seen-is ∙ w.in_ok-add_member.ensures)
  | in_default w ↦
      absurd (not_none (in_order c.args.others.now) c.others.index (omega (arith, length-in_order c.args.others.now, c.len-index-end.ensures)) (sym w.in_default.ensures))
]

pub returns : goal.returns
returns c =
    added_all c.args.seen.now c.args.others.now c.others.seen (is_member c.args.members.now)
    (subst (λ some. HasAdded c.args.seen.now some (is_member c.args.members.now) c.others.seen)
    (take_indices c.args.others.now c.others.index (omega (arith, c.len-index-end.ensures))) c.others.invariant)
