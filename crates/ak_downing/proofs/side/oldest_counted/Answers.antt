use Rattle.std.specs.FinMap as map
use Rattle.std.proofs.Common.{ℕ, Bor, Option, Some, option_map, sym, ap, ◌∙◌, subst, ◌+◌, arith}
use Rattle.ak_address.specs.Unique.{UniqueModel}
use Rattle.ak_address.specs.declared.address.Unique.{Unique}
use Rattle.ak_downing.proofs.LeastLemmas.{LeastTo, least_one, least_passed, least_end}
use Rattle.ak_downing.proofs.side.oldest_counted.Goals as goal
use Rattle.ak_downing.proofs.side.oldest_counted.Goals.{in-Some, in_default}

abbrev seen : Option (Bor Unique × ℕ) → Option (UniqueModel × ℕ)
seen o = option_map (λ r. (r.0.now, r.1)) o

pub pairs-preserved : goal.pairs-preserved
pairs-preserved c =
    let role = c.args.role.now in
    let es = map.entries c.args.members.now in
    let i = c.pairs.pair in
    elim c.match-role_at_pair.branch [
      | in-Some w ↦
          subst (λ o. LeastTo role o es (i + 1)) (sym (ap seen w.oldest-is ∙ ap Some w.older.ensures))
          (least_one role (seen c.pairs.oldest) _ es i w.in-Some.ensures c.pairs.invariant)
      | in_default w ↦ subst (λ o. LeastTo role o es (i + 1)) (sym (ap seen w.oldest-is)) (least_passed role (seen c.pairs.oldest) es i w.in_default.ensures c.pairs.invariant)
    ]

pub returns-in-Some-oldest : goal.returns-in-Some-oldest
returns-in-Some-oldest c =
    ap (option_map (λ (pair : UniqueModel × ℕ). pair.0))
    (sym (ap seen c.in-Some-oldest.is) ∙ least_end c.args.role.now (seen c.pairs.oldest) (map.entries c.args.members.now) c.pairs.pair (let past = map.len-entries c.args.members.now in omega arith) c.pairs.invariant)

pub returns-in-None : goal.returns-in-None
returns-in-None c =
    ap (option_map (λ (pair : UniqueModel × ℕ). pair.0))
    (sym (ap seen c.in-None.is) ∙ least_end c.args.role.now (seen c.pairs.oldest) (map.entries c.args.members.now) c.pairs.pair (let past = map.len-entries c.args.members.now in omega arith) c.pairs.invariant)
