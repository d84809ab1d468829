use Rattle.std.specs.FinMap as map
use Rattle.std.proofs.Common.{◌≡◌, ◌++◌, ◌+◌, [], ◌∷◌, drop, Some, None, sym, ap, ◌∙◌, append-nil, arith}
use Rattle.ak_member.specs.declared.effect.Effect.TheVariants.{Rise}
use Rattle.ak_member.specs.declared.status.Status.TheVariants.{Down}
use Rattle.ak_address.proofs.Failing.{on_err}
use Rattle.ak_downing.proofs.SideLemmas.{downed_among, downed_next, downed_end}
use Rattle.ak_membership.specs.Membership.{is_beside, replaced}
use Rattle.ak_membership.proofs.EffectLemmas.{some_downed}
use Rattle.ak_membership.proofs.members.downed_beside.Goals as goal
use Rattle.ak_membership.proofs.members.downed_beside.Goals.{in-Some+in_ok-copy+in_ok-push, in_default}

pub pairs-preserved : goal.pairs-preserved
pairs-preserved c =
    let test = is_beside c.args.who.now in
    let es = map.entries c.args.members.now in
    let rest = downed_among test (drop (c.pairs.pair + 1) es) in
    let total = replaced c.args.who.now c.args.members.now in
    elim c.match-replaced_at.branch [
      | in-Some+in_ok-copy+in_ok-push w ↦
          let added : c.match-replaced_at.effects ≡ c.pairs.effects ++ Rise w.in-Some.unique.now Down 0 ∷ [] =
          w.effects-is ∙ (w.in_ok-push.ensures {u = tt}).ok ∙ ap (λ who. c.pairs.effects ++ Rise who Down 0 ∷ []) (w.in_ok-copy.ensures {u = tt}) in
          ap (λ effects. effects ++ rest) added ∙ downed_next test es c.pairs.pair (Some (Rise w.in-Some.unique.now Down 0)) c.pairs.effects total w.in-Some.ensures c.pairs.invariant
      | in_default w ↦
          ap (λ effects. effects ++ rest) (w.effects-is ∙ sym (append-nil c.pairs.effects)) ∙ downed_next test es c.pairs.pair None c.pairs.effects total w.in_default.ensures c.pairs.invariant
    ]

pub returns-clause-ok : goal.returns-clause-ok
returns-clause-ok c = downed_end (is_beside c.args.who.now) (map.entries c.args.members.now) c.pairs.pair c.pairs.effects _ (let past = map.len-entries c.args.members.now in omega arith) c.pairs.invariant

pub returns-in_err-copy-clause-memory : goal.returns-in_err-copy-clause-memory
returns-in_err-copy-clause-memory c =
    on_err _ (some_downed (is_beside c.args.who.now) (map.entries c.args.members.now) c.pairs.pair (Rise c.in-Some.unique.now Down 0) c.pairs.effects _ c.in-Some.ensures c.pairs.invariant)

pub returns-in_err-push-clause-memory : goal.returns-in_err-push-clause-memory
returns-in_err-push-clause-memory c =
    on_err _ (some_downed (is_beside c.args.who.now) (map.entries c.args.members.now) c.pairs.pair (Rise c.in-Some.unique.now Down 0) c.pairs.effects _ c.in-Some.ensures c.pairs.invariant)
