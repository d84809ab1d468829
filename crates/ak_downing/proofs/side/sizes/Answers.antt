use Rattle.std.specs.FinMap as map
use Rattle.std.proofs.Common.{◌≡◌, ℕ, Bool, true, false, not, length, sym, ap, ◌∙◌, arith}
use Rattle.ak_address.specs.Unique.{UniqueModel}
use Rattle.ak_downing.specs.Downing.{counted_beside, counted_apart}
use Rattle.ak_downing.specs.Sides.{seen_with}
use Rattle.ak_downing.proofs.SideLemmas.{beside_pair, passes, fails, nobody_there, all_there}
use Rattle.ak_downing.proofs.side.sizes.Goals as goal
use Rattle.ak_downing.proofs.side.sizes.Goals.{in-Some+then-is_beside, in-Some+else-is_beside, in_default}

pub pairs-preserved : goal.pairs-preserved
pairs-preserved c =
    let v = seen_with c.args.members.now c.args.rows.now in
    let p = beside_pair v c.args.me.now in
    let q : UniqueModel × ℕ → Bool = λ pair. not (p pair) in
    let es = map.entries c.args.members.now in
    let i = c.pairs.pair in
    let all = length (counted_beside c.args.role.now v c.args.me.now) in
    let all_others = length (counted_apart c.args.role.now v c.args.me.now) in
    elim c.match-role_at_pair.branch [
      | in-Some+then-is_beside w ↦
          let r : UniqueModel × ℕ = (w.in-Some.unique.now, w.in-Some.field-0-1) in
          let is : p r ≡ true = sym w.is_beside.ensures ∙ w.if-is_beside.true in
          let one = passes c.args.role.now p es i c.pairs.beside all r w.in-Some.ensures is c.pairs.invariant.so_far in
          let none = fails c.args.role.now q es i c.pairs.others all_others r w.in-Some.ensures (ap not is) c.pairs.invariant.others_so_far in
          record { few = omega arith; few_others = omega arith; so_far = omega arith; others_so_far = omega arith }
      | in-Some+else-is_beside w ↦
          let r : UniqueModel × ℕ = (w.in-Some.unique.now, w.in-Some.field-0-1) in
          let is : p r ≡ false = sym w.is_beside.ensures ∙ w.if-is_beside.false in
          let none = fails c.args.role.now p es i c.pairs.beside all r w.in-Some.ensures is c.pairs.invariant.so_far in
          let one = passes c.args.role.now q es i c.pairs.others all_others r w.in-Some.ensures (ap not is) c.pairs.invariant.others_so_far in
          record { few = omega arith; few_others = omega arith; so_far = omega arith; others_so_far = omega arith }
      | in_default w ↦
          let none = nobody_there c.args.role.now p es i c.pairs.beside all w.in_default.ensures c.pairs.invariant.so_far in
          let also = nobody_there c.args.role.now q es i c.pairs.others all_others w.in_default.ensures c.pairs.invariant.others_so_far in
          record { few = omega arith; few_others = omega arith; so_far = omega arith; others_so_far = omega arith }
    ]

pub returns-clause-beside : goal.returns-clause-beside
returns-clause-beside c =
    let v = seen_with c.args.members.now c.args.rows.now in
    all_there c.args.role.now (beside_pair v c.args.me.now) (map.entries c.args.members.now) c.pairs.pair c.pairs.beside _ (let past = map.len-entries c.args.members.now in omega arith) c.pairs.invariant.so_far

pub returns-clause-others : goal.returns-clause-others
returns-clause-others c =
    let v = seen_with c.args.members.now c.args.rows.now in
    all_there c.args.role.now (λ pair. not (beside_pair v c.args.me.now pair)) (map.entries c.args.members.now) c.pairs.pair c.pairs.others _ (let past = map.len-entries c.args.members.now in omega arith) c.pairs.invariant.others_so_far
