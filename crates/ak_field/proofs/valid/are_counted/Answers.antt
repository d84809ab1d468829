use Rattle.std.proofs.Common.{refl, sym, ◌∙◌, arith, true≢false}
use Rattle.std.specs.FinMap as map
use Rattle.std.proofs.lemmas.Option.{slice_get_within}
use Rattle.ak_field.proofs.valid.are_counted.Goals as goal

pub returns-then-not-is_counted : goal.returns-then-not-is_counted
returns-then-not-is_counted c = (
  λ h. absurd (true≢false (sym h)),
  λ all. absurd (true≢false (sym (c.is_counted.ensures.1 (all c.counts.index (c.in-Some.who.now, c.in-Some.count) (sym c.in-Some.ensures.pair))) ∙ c.if-not-is_counted.true)),
)

pub returns : goal.returns
returns c = (
  λ _ i pair at.
      let es = map.entries c.args.counts.now in
      c.counts.invariant i pair (omega (arith, slice_get_within es i pair at, c.counts-test.false, c.len-index-end.ensures, map.len-entries c.args.counts.now)) at,
  λ _. refl,
)
