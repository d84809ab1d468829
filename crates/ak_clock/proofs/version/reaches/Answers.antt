use Rattle.std.proofs.Common.{◌≤◌, ◌+◌, drop, sym, ap, ◌∙◌, arith}
use Rattle.std.specs.FinMap as map
use Rattle.std.specs.Ordering.{is_gt}
use Rattle.ak_address.proofs.Pairs.{is_equal}
use Rattle.ak_clock.specs.Walk.{reached}
use Rattle.ak_clock.proofs.WalkLemmas.{reached_end, reached_nothing, reached_less, reached_equal, reached_short, reached_greater, reached_last, is_greater, is_less}
use Rattle.ak_clock.proofs.version.reaches.Goals as goal
use Rattle.ak_clock.proofs.version.reaches.Goals.{then-is+else-n-least, else-is+else-is_gt}

pub returns-in_default : goal.returns-in_default
returns-in_default c = sym (reached_end _ _ c.pairs.i c.pairs.j (sym c.in_default.ensures)) ∙ c.pairs.invariant.so_far

pub returns-in_default-at : goal.returns-in_default-at
returns-in_default-at c = sym (reached_nothing _ _ c.pairs.i c.pairs.j _ (sym c.in_default-at.ensures) (sym c.in-Some.ensures)) ∙ c.pairs.invariant.so_far

pub returns-then-is_gt : goal.returns-then-is_gt
returns-then-is_gt c =
    sym (reached_greater _ _ c.pairs.i c.pairs.j _ _ (sym c.in-Some-at.ensures) (sym c.in-Some.ensures) (sym c.compare.ensures ∙ is_greater _ _ c.is_gt.ensures c.if-is_gt.true))
    ∙ c.pairs.invariant.so_far

pub returns-then-n-least : goal.returns-then-n-least
returns-then-n-least c =
    sym (reached_short _ _ c.pairs.i c.pairs.j _ _ (sym c.in-Some-at.ensures) (sym c.in-Some.ensures) (is_equal _ _ c.is.ensures.value c.if-is.true) c.if-n-least.true)
    ∙ c.pairs.invariant.so_far

pub pairs-preserved : goal.pairs-preserved
pairs-preserved c =
    let pair = sym c.in-Some-at.ensures in
    let other = sym c.in-Some.ensures in
    elim c.if-is.branch [
      | then-is+else-n-least w ↦
          let next = reached_equal (map.entries c.args.counts.now) (map.entries c.args.others.now) c.pairs.i c.pairs.j _ _ pair other (is_equal _ _ c.is.ensures.value w.if-is.true) w.if-n-least.false in
          record { not_after = omega (arith, w.j-is); so_far = ap (λ j. reached (drop (c.pairs.i + 1) (map.entries c.args.counts.now)) (drop j (map.entries c.args.others.now))) w.j-is ∙ sym next ∙ c.pairs.invariant.so_far }
      | else-is+else-is_gt w ↦
          let next = reached_less (map.entries c.args.counts.now) (map.entries c.args.others.now) c.pairs.i c.pairs.j _ _ pair other (is_less _ _ _ (w.is_gt.ensures ∙ ap is_gt w.compare.ensures) w.if-is_gt.false c.is.ensures.value w.if-is.false) in
          record { not_after = omega (arith, w.j-is); so_far = ap (λ j. reached (drop (c.pairs.i + 1) (map.entries c.args.counts.now)) (drop j (map.entries c.args.others.now))) w.j-is ∙ sym next ∙ c.pairs.invariant.so_far }
    ]

pub returns : goal.returns
returns c =
    let past : map.len c.args.counts.now ≤ c.pairs.i = omega (arith, c.pairs-test.false, c.len-i-end.ensures) in
    reached_last _ _ _ c.args.counts.now c.args.others.now c.pairs.i c.pairs.j past c.at-2.ensures c.is_none.ensures ∙ c.pairs.invariant.so_far
