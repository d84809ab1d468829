use Rattle.std.proofs.Common.{arith}
use Rattle.std.specs.FinMap as map
use Rattle.ak_member.specs.Standing.{member_pairs}
use Rattle.ak_member.proofs.MemberLemmas.{keeps_members}
use Rattle.ak_membership.specs.Membership.{is_beside}
use Rattle.ak_sight.proofs.WalkLemmas.{some_found, some_passed, none_left}
use Rattle.ak_membership.proofs.members.has_member_beside.Goals as goal

pub returns-then-is_member_beside : goal.returns-then-is_member_beside
returns-then-is_member_beside c = some_found member_pairs keeps_members (λ m. is_beside c.args.who.now m.0) (map.entries c.args.members.now) c.pairs.pair _ c.pairs.invariant c.if-is_member_beside.ensures

pub pairs-preserved : goal.pairs-preserved
pairs-preserved c = some_passed member_pairs keeps_members (λ m. is_beside c.args.who.now m.0) (map.entries c.args.members.now) c.pairs.pair _ c.pairs.invariant c.if-is_member_beside.ensures

pub returns : goal.returns
returns c = none_left member_pairs keeps_members (λ m. is_beside c.args.who.now m.0) (map.entries c.args.members.now) c.pairs.pair _ c.pairs.invariant (let past = map.len-entries c.args.members.now in omega arith)
