use Rattle.std.proofs.Common.{Some, None, refl, sym, ap, ◌∙◌, arith}
use Rattle.std.specs.FinMap as map
use Rattle.ak_member.specs.Standing.{member_pairs}
use Rattle.ak_member.specs.View.{View}
use Rattle.ak_member.proofs.MemberLemmas.{kept_at_end, keeps_members}
use Rattle.ak_reach.specs.Unreachable.{unreachable_members}
use Rattle.ak_leader.specs.Leader.{may_lead}
use Rattle.ak_leader.proofs.LeaderLaws.{first_of, first_here, first_later}
use Rattle.ak_leader.proofs.leads.first_leader.Goals as goal

pub returns-in-Some : goal.returns-in-Some
returns-in-Some c =
    let v : View = record { standings = c.args.members.now; rows = c.args.rows.now } in
    first_here (may_lead (unreachable_members v)) (map.entries c.args.members.now) c.pairs.pair (Some c.in-Some.who.now) c.in-Some.ensures c.in-Some.who.now refl
    ∙ c.pairs.invariant

pub pairs-preserved : goal.pairs-preserved
pairs-preserved c =
    let v : View = record { standings = c.args.members.now; rows = c.args.rows.now } in
    first_later (may_lead (unreachable_members v)) (map.entries c.args.members.now) c.pairs.pair None (c.in_default.ensures {u = tt}) refl
    ∙ c.pairs.invariant

pub returns : goal.returns
returns c =
    let v : View = record { standings = c.args.members.now; rows = c.args.rows.now } in
    sym (ap (first_of (may_lead (unreachable_members v))) (kept_at_end member_pairs keeps_members (map.entries c.args.members.now) c.pairs.pair (let past = map.len-entries c.args.members.now in omega arith)))
    ∙ c.pairs.invariant
