use Rattle.std.proofs.Common.{slice_get, leb-true, inl, inr, sym, ap, ◌∙◌, arith}
use Rattle.std.proofs.lemmas.Option.{slice_get_within}
use Rattle.ak_address.specs.Uniques.{in_order}
use Rattle.ak_address.proofs.Pairs.{before_or}
use Rattle.ak_address.proofs.UniquesLaws.{has_at, index_of_has, length-in_order}
use Rattle.ak_gossip.proofs.gossip.are_among.Goals as goal
use Rattle.ak_gossip.proofs.gossip.are_among.Goals.{then-is_the_same, else-is_the_same}

pub seen-preserved : goal.seen-preserved
seen-preserved c = elim c.if-is_the_same.branch [
  | then-is_the_same w ↦ record {
    few = omega (arith, w.found-is, c.seen.invariant.few);
    each = λ k who lt is. elim (before_or k c.seen.found (omega (arith, lt, w.found-is))) [
      | inl before ↦ c.seen.invariant.each k who before is
      | inr same ↦
          has_at c.args.seen.now c.seen.index who
          (sym c.at-in-seen.ensures ∙ c.is_the_same.ensures w.if-is_the_same.true who (c.at.ensures ∙ ap (slice_get (in_order c.args.others.now)) (sym same) ∙ is))
    ];
  }
  | else-is_the_same w ↦ record {
    few = omega (arith, w.found-is, c.seen.invariant.few);
    each = λ k who lt is. c.seen.invariant.each k who (omega (arith, lt, w.found-is)) is;
  }
]

pub returns : goal.returns
returns c all who there =
    let at = index_of_has c.args.others.now who there in
    c.seen.invariant.each at.0 who (omega (arith, slice_get_within (in_order c.args.others.now) at.0 who at.1, length-in_order c.args.others.now, c.len.ensures, leb-true c.len.result c.seen.found all)) at.1
