use Rattle.std.proofs.Common.{Some, None, ◌+◌, ◌++◌, drop, ◌∙◌, arith}
use Rattle.std.specs.FinMap as map
use Rattle.ak_address.proofs.Failing.{on_err}
use Rattle.ak_leader.specs.Walk.{numbered}
use Rattle.ak_leader.proofs.LeaderLaws.{some_founded, joining_among, founded_next, founded_more, founded_end}
use Rattle.ak_leader.proofs.founds.founding.Goals as goal
use Rattle.ak_leader.proofs.founds.founding.Goals.{in-Some+in_ok-copy+in_ok-push, in_default}

pub pairs-preserved : goal.pairs-preserved
pairs-preserved c =
    let es = map.entries c.args.members.now in
    let all = numbered 0 (joining_among es) in
    elim c.match-joining_at.branch [
      | in-Some+in_ok-copy+in_ok-push w ↦ record {
        few = omega (arith, w.number-is, c.pairs.invariant.few);
        so_far = founded_more c.pairs.effects c.match-joining_at.effects all w.in-Some.who.now w.in_ok-copy.field-0 c.pairs.number c.match-joining_at.number (joining_among (drop (c.pairs.pair + 1) es))
            (w.in_ok-copy.ensures {u = tt}) w.number-is (w.effects-is ∙ (w.in_ok-push.ensures {u = tt}).ok)
            (founded_next es c.pairs.pair c.pairs.number (Some w.in-Some.who.now) c.pairs.effects all w.in-Some.ensures c.pairs.invariant.so_far);
      }
      | in_default w ↦ record {
        few = omega (arith, w.number-is, c.pairs.invariant.few);
        so_far = (λ i. w.effects-is i ++ numbered (w.number-is i) (joining_among (drop (c.pairs.pair + 1) es)))
            ∙ founded_next es c.pairs.pair c.pairs.number None c.pairs.effects all w.in_default.ensures c.pairs.invariant.so_far;
      }
    ]

pub returns-clause-ok : goal.returns-clause-ok
returns-clause-ok c = founded_end c.args.members.now c.pairs.pair c.pairs.number c.pairs.effects (let past = map.len-entries c.args.members.now in omega arith) c.pairs.invariant.so_far

pub returns-in_err-copy-clause-memory : goal.returns-in_err-copy-clause-memory
returns-in_err-copy-clause-memory c = on_err _ (some_founded c.args.members.now c.pairs.pair c.pairs.number c.in-Some.who.now c.pairs.effects c.in-Some.ensures c.pairs.invariant.so_far)

pub returns-in_err-push-clause-memory : goal.returns-in_err-push-clause-memory
returns-in_err-push-clause-memory c = on_err _ (some_founded c.args.members.now c.pairs.pair c.pairs.number c.in-Some.who.now c.pairs.effects c.in-Some.ensures c.pairs.invariant.so_far)
