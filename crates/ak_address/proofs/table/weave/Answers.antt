use Rattle.std.proofs.Common.{◌≤◌, ◌⊎◌, inl, inr, length, arith}
use Rattle.std.proofs.lemmas.Grind.{common_steps}
use Rattle.ak_address.specs.Unique.{unique_cmp}
use Rattle.ak_address.proofs.Pairs.{woven_end}
use Rattle.ak_address.proofs.table.weave.Goals as goal
use Rattle.ak_address.proofs.table.weave.Goals.{then-pairs-test+else-j-right, else-pairs-test}

pub returns : goal.returns
returns g c =
    let past : (length c.args.left.now ≤ c.pairs.i) ⊎ (length c.args.right.now ≤ c.pairs.j) = elim c.pairs-test.branch [ then-pairs-test+else-j-right w ↦ inr (omega arith) | else-pairs-test w ↦ inl (omega arith) ] in
    let rest = woven_end unique_cmp g.V.Merge.merged c.args.left.now c.args.right.now c.pairs.i c.pairs.j past in
    let so_far = c.pairs.invariant.woven_so_far in
    let left = c.in_ok-push_copies.ensures in
    let right = c.in_ok-push_copies-2.ensures in
    grind (arith, common_steps, rest, so_far, left, right)
