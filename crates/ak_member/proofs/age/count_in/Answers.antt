use Rattle.std.specs.FinMap as map
use Rattle.std.proofs.Common.{◌∙◌, arith}
use Rattle.ak_member.proofs.CountedLaws.{counted_start, counted_one, counted_passed, counted_end, role_among, keeps_role, role_process}
use Rattle.ak_member.proofs.age.count_in.Goals as goal
use Rattle.ak_member.proofs.age.count_in.Goals.{in-Some, in_default}

pub pairs-init : goal.pairs-init
pairs-init c =
    let role = c.args.role.now in
    counted_start (role_among role) (keeps_role role) (role_process role) c.none-addresses.result (map.entries c.args.members.now) (map.entries_sorted c.args.members.now) c.none-addresses.ensures

pub pairs-preserved : goal.pairs-preserved
pairs-preserved c =
    let role = c.args.role.now in
    let es = map.entries c.args.members.now in
    let next = c.match-role_at_pair.addresses in
    elim c.match-role_at_pair.branch [
      | in-Some w ↦ counted_one (role_among role) (keeps_role role) (w.in-Some.unique.now, w.in-Some.field-0-1) c.pairs.addresses next es c.pairs.pair _ w.in-Some.ensures (w.addresses-is ∙ w.add.ensures) c.pairs.invariant
      | in_default w ↦ counted_passed (role_among role) (keeps_role role) c.pairs.addresses next es c.pairs.pair _ w.in_default.ensures w.addresses-is c.pairs.invariant
    ]

pub returns : goal.returns
returns c =
    let role = c.args.role.now in
    c.count.ensures
    ∙ counted_end (role_among role) (keeps_role role) c.pairs.addresses (map.entries c.args.members.now) c.pairs.pair _ (let past = map.len-entries c.args.members.now in omega arith) c.pairs.invariant
