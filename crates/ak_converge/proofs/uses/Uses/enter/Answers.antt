use Rattle.std.proofs.Common.{◌+◌, ◌≤◌, Bool, true, false, cond, if◌then◌else◌, Some, None, is_some, length, sym, ap, ◌∙◌, arith}
use Rattle.std.specs.Map.{lookup}
use Rattle.std.specs.FinMap as map
use Rattle.ak_converge.proofs.UsesLaws.{key_eq, uses_are, entered, uses_len}
use Rattle.ak_converge.proofs.uses.Uses.enter.Goals as goal

pub overflow_add-uses : goal.overflow_add-uses
overflow_add-uses c =
    let is = uses_are c.self.inside.counts.entries c.args.at.now c.args.self.now (Some c.in-Some.uses.now) c.self.view_is c.in-Some.ensures.value in
    omega (arith, is, c.requires.often)

pub returns-in-Some-clause-ok : goal.returns-in-Some-clause-ok
returns-in-Some-clause-ok c =
    let more = c.in-Some.uses.now + 1 in
    entered c.self.inside.counts.entries (c.get_mut.follows.lender more).entries c.args.at.now c.args.self.now (Some c.in-Some.uses.now) c.self.view_is c.in-Some.ensures.value
    ((c.get_mut.follows.holds more).3 (sym (ap is_some c.in-Some.ensures.value))).0

pub returns-in_err-at-clause-memory : goal.returns-in_err-at-clause-memory
returns-in_err-at-clause-memory c = λ used.
    let none = uses_are c.self.inside.counts.entries c.args.at.now c.args.self.now None c.self.view_is c.in-None.ensures.value in
    absurd (omega (arith, none, used))

pub returns-in_err-insert-clause-memory : goal.returns-in_err-insert-clause-memory
returns-in_err-insert-clause-memory c = λ used.
    let none = uses_are c.self.inside.counts.entries c.args.at.now c.args.self.now None c.self.view_is c.in-None.ensures.value in
    absurd (omega (arith, none, used))

pub invariant_of-self-2 : goal.invariant_of-self-2
invariant_of-self-2 c =
    let done = c.in_ok-insert.ensures {u = tt} in
    let before = ap (λ m. length m.entries) c.get_mut.follows.holds-at-none in
    let few = uses_len c.self.inside.counts.entries c.get_mut.ensures.unique in
    let view = ap map.len c.self.view_is in
    let one = at_most_one (is_some c.in_ok-insert.field-0) in
    omega (arith, done.len, before, few, view, one, c.requires.few)
  where
    at_most_one : (b : Bool) → (if b then 0 else 1) ≤ 1
    at_most_one true = omega arith
    at_most_one false = omega arith

pub returns-clause-ok : goal.returns-clause-ok
returns-clause-ok c =
    let es = c.self.inside.counts.entries in
    entered es c.insert.new.self.entries c.args.at.now c.args.self.now None c.self.view_is c.in-None.ensures.value
    (λ q. (c.in_ok-insert.ensures {u = tt}).updates.0 q ∙ (λ i. cond (key_eq (c.in_ok-at.ensures i) q) (Some 1) (lookup (key_eq q) (c.get_mut.follows.holds-at-none i).entries)))
