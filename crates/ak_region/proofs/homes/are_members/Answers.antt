use Rattle.std.proofs.Common.{◌∙◌, arith}
use Rattle.ak_member.specs.Standing.{is_member}
use Rattle.ak_region.proofs.HomesWalk.{left_so, all_passed, all_stopped, all_over}
use Rattle.ak_region.proofs.homes.are_members.Goals as goal

pub homes-preserved : goal.homes-preserved
homes-preserved c =
    let homes = c.homes.homes in (
      left_so homes c.homes.home-index c.home-item.result c.is_member.new.self (omega arith) c.is_member.ensures.same ∙ c.homes.invariant.0,
      all_passed (is_member c.args.members.now) c.args.homes.now homes c.homes.home-index c.home-item.result c.homes.invariant.0 c.homes-test.true c.if-not-is_member.ensures.value c.homes.invariant.1,
    )

pub returns-then-not-is_member : goal.returns-then-not-is_member
returns-then-not-is_member c =
    let homes = c.homes.homes in
    record {
      value = all_stopped (is_member c.args.members.now) c.args.homes.now homes c.homes.home-index c.home-item.result c.homes.invariant.0 c.homes-test.true c.if-not-is_member.ensures.value c.homes.invariant.1;
      same = left_so homes c.homes.home-index c.home-item.result c.is_member.new.self (omega arith) c.is_member.ensures.same ∙ c.homes.invariant.0;
    }

pub returns : goal.returns
returns c = record {
  value = all_over (is_member c.args.members.now) c.args.homes.now c.homes.home-index c.homes-test.false c.homes.invariant.1;
  same = c.homes.invariant.0;
}
