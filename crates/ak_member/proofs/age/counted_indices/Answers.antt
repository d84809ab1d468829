use Rattle.std.specs.FinMap as map
use Rattle.std.proofs.Common.{ℕ, ◌+◌, ◌++◌, drop, ap, ◌∙◌, arith}
use Rattle.ak_address.specs.Unique.{UniqueModel}
use Rattle.ak_address.proofs.Failing.{on_err}
use Rattle.ak_member.specs.declared.status.Status.{Status}
use Rattle.ak_member.specs.Standing.{member_pairs}
use Rattle.ak_member.specs.Indices.{indexed_from}
use Rattle.ak_member.proofs.ByAgeLaws.{indexed_some, indexed_next, indexed_passed, indexed_end}
use Rattle.ak_member.proofs.age.counted_indices.Goals as goal
use Rattle.ak_member.proofs.age.counted_indices.Goals.{in-Some+in_ok-push_counted, in_default}

pub pairs-preserved : goal.pairs-preserved
pairs-preserved c =
    let es = map.entries c.args.members.now in
    let rest = member_pairs (drop (c.pairs.pair + 1) es) in
    elim c.match-member_at_pair.branch [
      | in-Some+in_ok-push_counted w ↦ record {
        few = omega arith;
        so_far =
            let m : UniqueModel × (Status × ℕ) = (w.in-Some.member.unique.now, (w.in-Some.member.status, w.in-Some.member.up_number)) in
            let items = ap (λ v. v.items) w.counted-is ∙ (w.in_ok-push_counted.ensures {u = tt}).ok in
            (λ i. items i ++ indexed_from (w.index-is i) rest) ∙ indexed_next m es c.pairs.pair c.pairs.index c.pairs.counted.items _ w.in-Some.ensures c.pairs.invariant.so_far;
      }
      | in_default w ↦ record {
        few = omega arith;
        so_far =
            let items = ap (λ v. v.items) w.counted-is in
            (λ i. items i ++ indexed_from (w.index-is i) rest) ∙ indexed_passed es c.pairs.pair c.pairs.index c.pairs.counted.items _ w.in_default.ensures c.pairs.invariant.so_far;
      }
    ]

pub returns-clause-ok : goal.returns-clause-ok
returns-clause-ok c =
    indexed_end (map.entries c.args.members.now) c.pairs.pair c.pairs.index c.pairs.counted.items _ (let past = map.len-entries c.args.members.now in omega arith) c.pairs.invariant.so_far

pub returns-in_err-push_counted-clause-memory : goal.returns-in_err-push_counted-clause-memory
returns-in_err-push_counted-clause-memory c =
    let m : UniqueModel × (Status × ℕ) = (c.in-Some.member.unique.now, (c.in-Some.member.status, c.in-Some.member.up_number)) in
    on_err _ (indexed_some m (map.entries c.args.members.now) c.pairs.pair c.pairs.index c.pairs.counted.items _ c.in-Some.ensures c.pairs.invariant.so_far (c.in_err-push_counted.ensures {u = tt}).memory)
