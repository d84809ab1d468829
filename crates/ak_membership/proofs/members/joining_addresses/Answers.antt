use Rattle.std.specs.FinMap as map
use Rattle.std.proofs.Common.{◌∙◌, ap, arith}
use Rattle.ak_address.specs.Distinct.{AddressCountModel}
use Rattle.ak_address.proofs.DistinctLaws.{counted_few}
use Rattle.ak_member.proofs.CountedLaws.{counted_start, counted_one, counted_passed, counted_end}
use Rattle.ak_membership.proofs.WalkLemmas.{joining_role, keeps_joining_role, joining_role_process}
use Rattle.ak_membership.proofs.members.joining_addresses.Goals as goal
use Rattle.ak_membership.proofs.members.joining_addresses.Goals.{in-Some, in_default}

pub pairs-init : goal.pairs-init
pairs-init c = record {
  few = let none = ap (λ (a : AddressCountModel). a.count) c.none-addresses.ensures in omega arith;
  counted = λ role _. counted_start (joining_role role) (keeps_joining_role role) (joining_role_process role) c.none-addresses.result (map.entries c.args.members.now) (map.entries_sorted c.args.members.now) c.none-addresses.ensures;
}

pub pairs-preserved : goal.pairs-preserved
pairs-preserved c =
    let es = map.entries c.args.members.now in
    let next = c.match-joining_at.addresses in
    let few = c.pairs.invariant.few in
    elim c.match-joining_at.branch [
      | in-Some w ↦
          let same = ap (λ (a : AddressCountModel). a.count) (w.addresses-is ∙ w.add.ensures) in
          let more = counted_few c.pairs.addresses w.in-Some.unique.now in
          record {
            few = omega arith;
            counted = λ role are. counted_one (joining_role role) (keeps_joining_role role) (w.in-Some.unique.now, w.in-Some.field-0-1) c.pairs.addresses next es c.pairs.pair _ (w.in-Some.ensures role are) (w.addresses-is ∙ w.add.ensures) (c.pairs.invariant.counted role are);
          }
      | in_default w ↦
          let same = ap (λ (a : AddressCountModel). a.count) w.addresses-is in
          record {
            few = omega arith;
            counted = λ role are. counted_passed (joining_role role) (keeps_joining_role role) c.pairs.addresses next es c.pairs.pair _ (w.in_default.ensures role are) w.addresses-is (c.pairs.invariant.counted role are);
          }
    ]

pub returns : goal.returns
returns c = λ role are.
    c.count.ensures
    ∙ counted_end (joining_role role) (keeps_joining_role role) c.pairs.addresses (map.entries c.args.members.now) c.pairs.pair _ (let past = map.len-entries c.args.members.now in omega arith) (c.pairs.invariant.counted role are)
