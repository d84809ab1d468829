use Rattle.std.proofs.Common.{false, refl, sym, ap, ◌∙◌, arith}
use Rattle.std.specs.List.{list_any}
use Rattle.std.specs.FinMap as map
use Rattle.ak_member.proofs.MemberLemmas.{kept_at_end, keeps_members}
use Rattle.ak_member.specs.Standing.{member_pairs}
use Rattle.ak_coordinator.specs.Tick.{is_exiting_pair}
use Rattle.ak_coordinator.proofs.TickLemmas.{next_passing, found_passing, passing_there, nobody_there}
use Rattle.ak_coordinator.proofs.tick.any_exiting.Goals.{in-Some+else-is_exiting, in_default}
use Rattle.ak_coordinator.proofs.tick.any_exiting.Goals as goal

pub returns-then-is_exiting : goal.returns-then-is_exiting
returns-then-is_exiting c =
    let pairs = map.entries c.args.members.now in
    let there = passing_there is_exiting_pair pairs c.pairs.pair _ c.member_at_pair.result c.in-Some.member c.in-Some.is c.member_at_pair.ensures in
    found_passing is_exiting_pair pairs c.pairs.pair c.is_exiting.result (c.is_exiting.ensures ∙ there) c.if-is_exiting.true ∙ c.pairs.invariant

pub pairs-preserved : goal.pairs-preserved
pairs-preserved c =
    let pairs = map.entries c.args.members.now in
    elim c.match-member_at_pair.branch [
      | in-Some+else-is_exiting w ↦
          let there = passing_there is_exiting_pair pairs c.pairs.pair _ c.member_at_pair.result w.in-Some.member w.in-Some.is c.member_at_pair.ensures in
          next_passing is_exiting_pair pairs c.pairs.pair w.is_exiting.result (w.is_exiting.ensures ∙ there) w.if-is_exiting.false ∙ c.pairs.invariant
      | in_default w ↦
          let there = nobody_there is_exiting_pair pairs c.pairs.pair _ c.member_at_pair.result w.in_default.is c.member_at_pair.ensures in
          next_passing is_exiting_pair pairs c.pairs.pair false there refl ∙ c.pairs.invariant
    ]

pub returns : goal.returns
returns c =
    let pairs = map.entries c.args.members.now in
    sym (ap (list_any is_exiting_pair) (kept_at_end member_pairs keeps_members pairs c.pairs.pair (let past = map.len-entries c.args.members.now in omega arith)))
    ∙ c.pairs.invariant
