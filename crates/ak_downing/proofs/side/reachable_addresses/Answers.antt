use Rattle.std.specs.FinMap as map
use Rattle.std.proofs.Common.{◌∙◌, arith}
use Rattle.ak_member.proofs.CountedLaws.{counted_start, counted_one, counted_passed, counted_end}
use Rattle.ak_downing.specs.Sides.{seen_with}
use Rattle.ak_downing.proofs.SideLemmas.{beside_among, keeps_beside, beside_process}
use Rattle.ak_downing.proofs.side.reachable_addresses.Goals as goal
use Rattle.ak_downing.proofs.side.reachable_addresses.Goals.{in-Some, in_default}

pub pairs-init : goal.pairs-init
pairs-init c =
    let v = seen_with c.args.members.now c.args.rows.now in
    let me = c.args.me.now in
    let role = c.args.role.now in
    counted_start (beside_among role v me) (keeps_beside role v me) (beside_process role v me) c.none-addresses.result (map.entries c.args.members.now) (map.entries_sorted c.args.members.now) c.none-addresses.ensures

pub pairs-preserved : goal.pairs-preserved
pairs-preserved c =
    let v = seen_with c.args.members.now c.args.rows.now in
    let me = c.args.me.now in
    let role = c.args.role.now in
    let es = map.entries c.args.members.now in
    let next = c.match-beside_at_pair.addresses in
    elim c.match-beside_at_pair.branch [
      | in-Some w ↦ counted_one (beside_among role v me) (keeps_beside role v me) (w.in-Some.unique.now, w.in-Some.field-0-1) c.pairs.addresses next es c.pairs.pair _ w.in-Some.ensures (w.addresses-is ∙ w.add.ensures) c.pairs.invariant
      | in_default w ↦ counted_passed (beside_among role v me) (keeps_beside role v me) c.pairs.addresses next es c.pairs.pair _ w.in_default.ensures w.addresses-is c.pairs.invariant
    ]

pub returns : goal.returns
returns c =
    let v = seen_with c.args.members.now c.args.rows.now in
    let me = c.args.me.now in
    let role = c.args.role.now in
    c.count.ensures
    ∙ counted_end (beside_among role v me) (keeps_beside role v me) c.pairs.addresses (map.entries c.args.members.now) c.pairs.pair _ (let past = map.len-entries c.args.members.now in omega arith) c.pairs.invariant
