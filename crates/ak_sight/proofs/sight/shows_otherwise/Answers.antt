use Rattle.std.proofs.Common.{ap, arith}
use Rattle.std.specs.FinMap as map
use Rattle.ak_member.specs.Standing.{member_pairs}
use Rattle.ak_member.proofs.MemberLemmas.{keeps_members}
use Rattle.ak_sight.specs.Sight.{is_otherwise}
use Rattle.ak_sight.proofs.WalkLemmas.{some_found, some_passed, none_left}
use Rattle.ak_sight.proofs.sight.shows_otherwise.Goals as goal

pub returns-then-is_otherwise_at : goal.returns-then-is_otherwise_at
returns-then-is_otherwise_at c = some_found member_pairs keeps_members (λ m. is_otherwise c.args.one.now.view c.args.other.now.view m.0) (map.entries c.args.one.now.view.standings) c.pairs.pair _ c.pairs.invariant c.if-is_otherwise_at.ensures

pub pairs-preserved : goal.pairs-preserved
pairs-preserved c = some_passed member_pairs keeps_members (λ m. is_otherwise c.args.one.now.view c.args.other.now.view m.0) (map.entries c.args.one.now.view.standings) c.pairs.pair _ c.pairs.invariant c.if-is_otherwise_at.ensures

pub returns : goal.returns
returns c = none_left member_pairs keeps_members (λ m. is_otherwise c.args.one.now.view c.args.other.now.view m.0) (map.entries c.args.one.now.view.standings) c.pairs.pair _ c.pairs.invariant (let past = map.len-entries c.args.one.now.view.standings in let there = ap map.len c.members.ensures in omega arith)
