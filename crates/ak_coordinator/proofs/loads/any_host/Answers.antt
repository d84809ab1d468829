use Rattle.std.proofs.Common.{sym, ap, ◌∙◌, arith}
use Rattle.std.specs.List.{list_any}
use Rattle.std.specs.FinMap as map
use Rattle.ak_member.proofs.MemberLemmas.{kept_at_end, keeps_members}
use Rattle.ak_member.specs.Standing.{member_pairs}
use Rattle.ak_coordinator.specs.Coordinator.{may_host}
use Rattle.ak_coordinator.proofs.TickLemmas.{next_passing, found_passing}
use Rattle.ak_coordinator.proofs.loads.any_host.Goals as goal

pub returns-then-hosts_at : goal.returns-then-hosts_at
returns-then-hosts_at c = found_passing (may_host c.args.granted.now) (map.entries c.args.members.now) c.pairs.pair c.hosts_at.result c.hosts_at.ensures c.if-hosts_at.true ∙ c.pairs.invariant

pub pairs-preserved : goal.pairs-preserved
pairs-preserved c = next_passing (may_host c.args.granted.now) (map.entries c.args.members.now) c.pairs.pair c.hosts_at.result c.hosts_at.ensures c.if-hosts_at.false ∙ c.pairs.invariant

pub returns : goal.returns
returns c =
    sym (ap (list_any (may_host c.args.granted.now)) (kept_at_end member_pairs keeps_members (map.entries c.args.members.now) c.pairs.pair (let past = map.len-entries c.args.members.now in omega arith)))
    ∙ c.pairs.invariant
