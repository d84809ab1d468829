use Rattle.std.proofs.Common.{arith}
use Rattle.std.specs.FinMap as map
use Rattle.ak_member.specs.Standing.{member_pairs}
use Rattle.ak_member.proofs.MemberLemmas.{keeps_members}
use Rattle.ak_downing.specs.Sides.{seen_with}
use Rattle.ak_reach.specs.Unreachable.{unreachable_members}
use Rattle.ak_membership.specs.Tick.{is_lost}
use Rattle.ak_sight.proofs.WalkLemmas.{some_found, some_passed, none_left}
use Rattle.ak_membership.proofs.lost.has_lost.Goals as goal

pub returns-then-is_lost_at : goal.returns-then-is_lost_at
returns-then-is_lost_at c = some_found member_pairs keeps_members (is_lost (unreachable_members (seen_with c.args.members.now c.args.rows.now)) c.args.me.now) (map.entries c.args.members.now) c.pairs.pair _ c.pairs.invariant c.if-is_lost_at.ensures

pub pairs-preserved : goal.pairs-preserved
pairs-preserved c = some_passed member_pairs keeps_members (is_lost (unreachable_members (seen_with c.args.members.now c.args.rows.now)) c.args.me.now) (map.entries c.args.members.now) c.pairs.pair _ c.pairs.invariant c.if-is_lost_at.ensures

pub returns : goal.returns
returns c = none_left member_pairs keeps_members (is_lost (unreachable_members (seen_with c.args.members.now c.args.rows.now)) c.args.me.now) (map.entries c.args.members.now) c.pairs.pair _ c.pairs.invariant (let past = map.len-entries c.args.members.now in omega arith)
