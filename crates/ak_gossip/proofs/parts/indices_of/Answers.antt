use Rattle.std.proofs.Common.{sym, ap, ◌∙◌, ◌+◌, ◌++◌, drop, arith}
use Rattle.ak_address.specs.Uniques.{in_order}
use Rattle.ak_gossip.specs.PartsWalk.{indices_among}
use Rattle.ak_gossip.proofs.PartsLemmas.{length-keys}
use Rattle.ak_gossip.proofs.PartsPlaces.{walked, passed, walked_all, are_indices}
use Rattle.ak_gossip.proofs.parts.indices_of.Goals as goal
use Rattle.ak_gossip.proofs.parts.indices_of.Goals.{in-Some+in_ok-push_index, in_default}

pub subjects-preserved : goal.subjects-preserved
subjects-preserved c =
    let everybody = c.args.everybody.now in
    let them = in_order c.args.set.now in
    elim c.match-at.branch [
      | in-Some+in_ok-push_index w ↦
          ap (λ l. l ++ indices_among everybody (drop (c.subjects.place + 1) them)) (w.indices-is ∙ w.in_ok-push_index.ensures)
          ∙ walked everybody them c.subjects.place c.subjects.indices _ c.subjects.invariant w.in-Some.who.now (sym w.in-Some.ensures)
      | in_default w ↦
          ap (λ l. l ++ indices_among everybody (drop (c.subjects.place + 1) them)) w.indices-is
          ∙ passed everybody them c.subjects.place c.subjects.indices _ c.subjects.invariant (sym w.in_default.ensures)
    ]

pub returns : goal.returns
returns c =
    walked_all c.args.everybody.now (in_order c.args.set.now) c.subjects.place c.subjects.indices _ c.subjects.invariant
    (omega (arith, length-keys c.args.set.now, c.len-place-end.ensures, c.subjects-test.false))
    ∙ are_indices c.args.everybody.now c.args.set.now
