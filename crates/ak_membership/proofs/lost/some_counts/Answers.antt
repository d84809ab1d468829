use Rattle.std.proofs.Common.{arith}
use Rattle.std.specs.FinMap as map
use Rattle.ak_member.specs.Standing.{member_pairs}
use Rattle.ak_member.proofs.MemberLemmas.{keeps_members}
use Rattle.ak_member.specs.Age.{counts}
use Rattle.ak_sight.proofs.WalkLemmas.{some_found, some_passed, none_left}
use Rattle.ak_membership.proofs.lost.some_counts.Goals as goal

pub returns-then-counts_at : goal.returns-then-counts_at
returns-then-counts_at c = some_found member_pairs keeps_members (λ m. counts m.1.0) (map.entries c.args.members.now) c.pairs.pair _ c.pairs.invariant c.if-counts_at.ensures

pub pairs-preserved : goal.pairs-preserved
pairs-preserved c = some_passed member_pairs keeps_members (λ m. counts m.1.0) (map.entries c.args.members.now) c.pairs.pair _ c.pairs.invariant c.if-counts_at.ensures

pub returns : goal.returns
returns c = none_left member_pairs keeps_members (λ m. counts m.1.0) (map.entries c.args.members.now) c.pairs.pair _ c.pairs.invariant (let past = map.len-entries c.args.members.now in omega arith)
