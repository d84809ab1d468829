use Rattle.std.proofs.Common.{◌≡◌, ◌+◌, arith, ap, ◌∙◌, sym}
use Rattle.std.specs.FinMap as map
use Rattle.ak_reach.specs.Unreachable.{unreachable_members}
use Rattle.ak_converge.specs.Tally.{one_if, blocks}
use Rattle.ak_converge.proofs.TallyLaws.{counted_next, counted_all, none_block}
use Rattle.ak_converge.proofs.tally.blocking_in.Goals as goal
use Rattle.ak_converge.proofs.tally.blocking_in.Goals.{then-blocks_at, else-blocks_at}

pub returns-then-len-eq0 : goal.returns-then-len-eq0
returns-then-len-eq0 c = none_block (record { standings = c.args.members.now; rows = c.args.rows.now }) (sym c.if-len-eq0.true ∙ c.len.ensures)

pub pairs-preserved : goal.pairs-preserved
pairs-preserved c =
    let next = counted_next (blocks (unreachable_members (record { standings = c.args.members.now; rows = c.args.rows.now }))) (map.entries c.args.members.now) c.pairs.pair c.blocks_at.result c.pairs.count c.if-blocks_at.count _ c.blocks_at.ensures in
    elim c.if-blocks_at.branch [
      | then-blocks_at w ↦ record { few = let few = c.pairs.invariant.few in let one = w.count-is in omega arith; so_far = next (w.count-is ∙ ap (λ b. c.pairs.count + one_if b) (sym w.if-blocks_at.true)) c.pairs.invariant.so_far }
      | else-blocks_at w ↦ record { few = let few = c.pairs.invariant.few in let none = w.count-is in omega arith; so_far = next (w.count-is ∙ (let same : c.pairs.count ≡ c.pairs.count + 0 = omega arith in same) ∙ ap (λ b. c.pairs.count + one_if b) (sym w.if-blocks_at.false)) c.pairs.invariant.so_far }
    ]

pub returns : goal.returns
returns c = counted_all (blocks (unreachable_members (record { standings = c.args.members.now; rows = c.args.rows.now }))) (map.entries c.args.members.now) c.pairs.pair c.pairs.count _ (let past = map.len-entries c.args.members.now in omega arith) c.pairs.invariant.so_far
