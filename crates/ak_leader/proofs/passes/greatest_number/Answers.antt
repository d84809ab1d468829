use Rattle.std.proofs.Common.{max, ap, ◌∙◌, arith}
use Rattle.std.specs.FinMap as map
use Rattle.ak_member.specs.Standing.{member_pairs, members_of}
use Rattle.ak_member.proofs.MemberLemmas.{kept_at_end, keeps_members}
use Rattle.ak_leader.specs.Leader.{greatest_number}
use Rattle.ak_leader.proofs.LeaderLaws.{greatest_next}
use Rattle.ak_leader.proofs.passes.greatest_number.Goals as goal

pub pairs-preserved : goal.pairs-preserved
pairs-preserved c =
    greatest_next (map.entries c.args.members.now) c.pairs.pair c.pairs.greatest c.max-greatest.result (greatest_number (members_of c.args.members.now)) (c.max-greatest.ensures ∙ ap (λ n. max n c.pairs.greatest) c.number_at.ensures) c.pairs.invariant

pub returns : goal.returns
returns c =
    let none = ap greatest_number (kept_at_end member_pairs keeps_members (map.entries c.args.members.now) c.pairs.pair (let past = map.len-entries c.args.members.now in omega arith)) in
    let all = c.pairs.invariant in
    omega arith
