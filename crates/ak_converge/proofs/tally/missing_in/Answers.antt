use Rattle.std.proofs.Common.{◌≡◌, ◌+◌, arith, ap, ◌∙◌, sym}
use Rattle.std.specs.FinMap as map
use Rattle.ak_converge.specs.Tally.{one_if, misses}
use Rattle.ak_converge.proofs.TallyLaws.{counted_next, counted_all}
use Rattle.ak_converge.proofs.tally.missing_in.Goals as goal
use Rattle.ak_converge.proofs.tally.missing_in.Goals.{then-misses_at, else-misses_at}

pub pairs-preserved : goal.pairs-preserved
pairs-preserved c =
    let next = counted_next (misses c.args.seen.now) (map.entries c.args.members.now) c.pairs.pair c.misses_at.result c.pairs.count c.if-misses_at.count _ c.misses_at.ensures in
    elim c.if-misses_at.branch [
      | then-misses_at w ↦ record { few = let few = c.pairs.invariant.few in let one = w.count-is in omega arith; so_far = next (w.count-is ∙ ap (λ b. c.pairs.count + one_if b) (sym w.if-misses_at.true)) c.pairs.invariant.so_far }
      | else-misses_at w ↦ record { few = let few = c.pairs.invariant.few in let none = w.count-is in omega arith; so_far = next (w.count-is ∙ (let same : c.pairs.count ≡ c.pairs.count + 0 = omega arith in same) ∙ ap (λ b. c.pairs.count + one_if b) (sym w.if-misses_at.false)) c.pairs.invariant.so_far }
    ]

pub returns : goal.returns
returns c = counted_all (misses c.args.seen.now) (map.entries c.args.members.now) c.pairs.pair c.pairs.count _ (let past = map.len-entries c.args.members.now in omega arith) c.pairs.invariant.so_far
