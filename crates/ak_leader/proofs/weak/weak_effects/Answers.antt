use Rattle.std.specs.FinMap as map
use Rattle.std.proofs.Common.{◌≡◌, ◌++◌, ◌+◌, [], ◌∷◌, drop, Some, None, sym, ap, ◌∙◌, append-nil, arith}
use Rattle.ak_member.specs.declared.effect.Effect.TheVariants.{Rise}
use Rattle.ak_member.specs.declared.status.Status.TheVariants.{WeaklyUp}
use Rattle.ak_member.specs.View.{View}
use Rattle.ak_address.proofs.Failing.{on_err}
use Rattle.ak_reach.specs.Unreachable.{unreachable_members}
use Rattle.ak_leader.specs.Leader.{weak_effects}
use Rattle.ak_leader.proofs.WeakLaws.{let_in_among, let_in_next, let_in_end, someone_let_in}
use Rattle.ak_leader.proofs.weak.weak_effects.Goals as goal
use Rattle.ak_leader.proofs.weak.weak_effects.Goals.{in-Some+in_ok-copy+in_ok-push, in_default}

pub pairs-preserved : goal.pairs-preserved
pairs-preserved c =
    let v : View = record { standings = c.args.members.now; rows = c.args.rows.now } in
    let lost = unreachable_members v in
    let es = map.entries c.args.members.now in
    let rest = let_in_among lost (drop (c.pairs.pair + 1) es) in
    elim c.match-let_in_at.branch [
      | in-Some+in_ok-copy+in_ok-push w ↦
          let added : c.match-let_in_at.effects ≡ c.pairs.effects ++ Rise w.in-Some.who.now WeaklyUp 0 ∷ [] =
          w.effects-is ∙ (w.in_ok-push.ensures {u = tt}).ok ∙ ap (λ who. c.pairs.effects ++ Rise who WeaklyUp 0 ∷ []) (w.in_ok-copy.ensures {u = tt}) in
          ap (λ effects. effects ++ rest) added ∙ let_in_next lost es c.pairs.pair (Some (Rise w.in-Some.who.now WeaklyUp 0)) c.pairs.effects (weak_effects v) w.in-Some.ensures c.pairs.invariant
      | in_default w ↦
          ap (λ effects. effects ++ rest) (w.effects-is ∙ sym (append-nil c.pairs.effects)) ∙ let_in_next lost es c.pairs.pair None c.pairs.effects (weak_effects v) w.in_default.ensures c.pairs.invariant
    ]

pub returns-clause-ok : goal.returns-clause-ok
returns-clause-ok c =
    let v : View = record { standings = c.args.members.now; rows = c.args.rows.now } in
    let_in_end (unreachable_members v) (map.entries c.args.members.now) c.pairs.pair c.pairs.effects (weak_effects v) (let past = map.len-entries c.args.members.now in omega arith) c.pairs.invariant

pub returns-in_err-copy-clause-memory : goal.returns-in_err-copy-clause-memory
returns-in_err-copy-clause-memory c =
    let v : View = record { standings = c.args.members.now; rows = c.args.rows.now } in
    on_err _ (someone_let_in (unreachable_members v) (map.entries c.args.members.now) c.pairs.pair (Rise c.in-Some.who.now WeaklyUp 0) c.pairs.effects (weak_effects v) c.in-Some.ensures c.pairs.invariant)

pub returns-in_err-push-clause-memory : goal.returns-in_err-push-clause-memory
returns-in_err-push-clause-memory c =
    let v : View = record { standings = c.args.members.now; rows = c.args.rows.now } in
    on_err _ (someone_let_in (unreachable_members v) (map.entries c.args.members.now) c.pairs.pair (Rise c.in-Some.who.now WeaklyUp 0) c.pairs.effects (weak_effects v) c.in-Some.ensures c.pairs.invariant)
