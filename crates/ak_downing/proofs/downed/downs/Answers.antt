use Rattle.std.specs.FinMap as map
use Rattle.std.proofs.Common.{◌≡◌, ◌++◌, ◌+◌, [], ◌∷◌, drop, Some, None, sym, ap, ◌∙◌, append-nil, arith}
use Rattle.ak_address.proofs.Failing.{on_err_not}
use Rattle.ak_member.specs.declared.effect.Effect.TheVariants.{Rise}
use Rattle.ak_member.specs.declared.status.Status.TheVariants.{Down}
use Rattle.ak_reach.specs.Unreachable.{unreachable_members}
use Rattle.ak_downing.specs.Downing.{is_against, downs}
use Rattle.ak_downing.specs.Sides.{seen_with}
use Rattle.ak_downing.proofs.SideLemmas.{downed_among, downed_next, downed_end, someone_downed}
use Rattle.ak_downing.proofs.downed.downs.Goals as goal
use Rattle.ak_downing.proofs.downed.downs.Goals.{in-Some+in_ok-copy+in_ok-push, in_default}

pub pairs-preserved : goal.pairs-preserved
pairs-preserved c =
    let v = seen_with c.args.members.now c.args.rows.now in
    let test = is_against c.args.decision (unreachable_members v) c.args.me.now in
    let es = map.entries c.args.members.now in
    let rest = downed_among test (drop (c.pairs.pair + 1) es) in
    let total = downs c.args.decision v c.args.me.now in
    elim c.match-downed_at_pair.branch [
      | in-Some+in_ok-copy+in_ok-push w ↦
          let added : c.match-downed_at_pair.effects ≡ c.pairs.effects ++ Rise w.in-Some.unique.now Down 0 ∷ [] =
          w.effects-is ∙ (w.in_ok-push.ensures {u = tt}).ok ∙ ap (λ who. c.pairs.effects ++ Rise who Down 0 ∷ []) (w.in_ok-copy.ensures {u = tt}) in
          ap (λ effects. effects ++ rest) added ∙ downed_next test es c.pairs.pair (Some (Rise w.in-Some.unique.now Down 0)) c.pairs.effects total w.in-Some.ensures c.pairs.invariant
      | in_default w ↦
          ap (λ effects. effects ++ rest) (w.effects-is ∙ sym (append-nil c.pairs.effects)) ∙ downed_next test es c.pairs.pair None c.pairs.effects total w.in_default.ensures c.pairs.invariant
    ]

-- where it fails, somebody is downed
pub returns-in_err-copy-clause-memory : goal.returns-in_err-copy-clause-memory
returns-in_err-copy-clause-memory c =
    let v = seen_with c.args.members.now c.args.rows.now in
    on_err_not c.from_residual.result _ [] (someone_downed (is_against c.args.decision (unreachable_members v) c.args.me.now) (map.entries c.args.members.now) c.pairs.pair (Rise c.in-Some.unique.now Down 0) c.pairs.effects (downs c.args.decision v c.args.me.now) c.in-Some.ensures c.pairs.invariant)

pub returns-in_err-push-clause-memory : goal.returns-in_err-push-clause-memory
returns-in_err-push-clause-memory c =
    let v = seen_with c.args.members.now c.args.rows.now in
    on_err_not c.from_residual-in_err-push.result _ [] (someone_downed (is_against c.args.decision (unreachable_members v) c.args.me.now) (map.entries c.args.members.now) c.pairs.pair (Rise c.in-Some.unique.now Down 0) c.pairs.effects (downs c.args.decision v c.args.me.now) c.in-Some.ensures c.pairs.invariant)

pub returns-clause-ok : goal.returns-clause-ok
returns-clause-ok c =
    let v = seen_with c.args.members.now c.args.rows.now in
    downed_end (is_against c.args.decision (unreachable_members v) c.args.me.now) (map.entries c.args.members.now) c.pairs.pair c.pairs.effects _ (let past = map.len-entries c.args.members.now in omega arith) c.pairs.invariant
