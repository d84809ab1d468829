use Rattle.std.proofs.Common.{◌≡◌, [], length, map, sym, ap, ◌∙◌, arith}
use Rattle.std.proofs.lemmas.Result.{IfOk-weaker}
use Rattle.ak_address.proofs.Failing.{on_err_not}
use Rattle.ak_address.proofs.TableLaws.{none_of_length}
use Rattle.std.proofs.lemmas.List.Sorted.{IsPermutation-refl}
use Rattle.ak_member.specs.Standing.{members_of}
use Rattle.ak_member.specs.Age.{IsByAge}
use Rattle.ak_member.proofs.ByAgeLaws.{by_age_is, indexed_none}
use Rattle.ak_member.proofs.members.Members.by_age.Goals as goal

pub returns-clause-ok : goal.returns-clause-ok
returns-clause-ok c =
    IfOk-weaker c.indices_of.result (λ indices. indices.items ≡ map (λ pair. pair.1) c.deref.result.now) (λ indices. IsByAge c.args.self.now indices.items)
    (λ indices is.
    by_age_is c.args.self.now c.in_ok-counted.counted.items c.sort_unstable.new.self.items (c.in_ok-counted.ensures {u = tt}).ok c.sort_unstable.ensures.permutation c.sort_unstable.ensures.sorted indices.items
    (is ∙ ap (map (λ pair. pair.1)) c.deref.ensures.value))
    c.indices_of.ensures

-- where nobody counts, there is no index
pub returns-then-len-eq0-clause-ok : goal.returns-then-len-eq0-clause-ok
returns-then-len-eq0-clause-ok c =
    let none : c.in_ok-counted.counted.items ≡ [] = none_of_length _ (omega (arith, c.in_ok-counted.counted.ok.0, c.if-len-eq0.true)) in
    by_age_is c.args.self.now [] [] (sym none ∙ (c.in_ok-counted.ensures {u = tt}).ok) (IsPermutation-refl []) (λ k d low high. absurd (omega (arith, high))) c.new.result.items c.new.ensures.items

pub returns-in_err-counted-clause-memory : goal.returns-in_err-counted-clause-memory
returns-in_err-counted-clause-memory c = on_err_not _ _ _ (λ none. (c.in_err-counted.ensures {u = tt}).memory (indexed_none 0 (members_of c.args.self.now) none))

pub returns-clause-memory : goal.returns-clause-memory
returns-clause-memory c =
    on_err_not _ _ _ (λ none. absurd (omega (arith, ap length ((c.in_ok-counted.ensures {u = tt}).ok ∙ indexed_none 0 (members_of c.args.self.now) none), c.in_ok-counted.counted.ok.0, c.if-len-eq0.false)))
