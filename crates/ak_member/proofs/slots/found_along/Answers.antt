use Rattle.std.proofs.Common.{Some, option_map, sym, ap, ◌∙◌, arith, true≢false}
use Rattle.ak_address.specs.Unique.{UniqueModel}
use Rattle.ak_member.specs.declared.standing.Standing.{Standing}
use Rattle.ak_member.proofs.SlotLemmas.{found_in, walked_here, walked_past, walked_none, walked_end}
use Rattle.ak_member.proofs.slots.found_along.Goals as goal
use Rattle.ak_member.proofs.slots.found_along.Goals.{in-Some+else-is, in_default}

pub slots-init : goal.slots-init
slots-init c = sym (found_in c.args.who.now c.args.slots.now.entries)

pub slots-preserved : goal.slots-preserved
slots-preserved c = c.slots.invariant ∙ elim c.match-get_index.branch [
  | in-Some+else-is w ↦ walked_past c.args.who.now c.args.slots.now.entries c.slots.slot w.in-Some.there.now w.in-Some.standing.now (sym w.in-Some.ensures.entry) (λ same. true≢false (sym (w.is.ensures.meaning.1 (sym same)) ∙ w.if-is.false))
  | in_default w ↦ walked_none c.args.who.now c.args.slots.now.entries c.slots.slot (sym w.in_default.ensures.entry)
]

pub returns-then-is : goal.returns-then-is
returns-then-is c =
    let same = c.is.ensures.meaning.0 c.if-is.true in
    ap (λ u. Some (u, c.in-Some.standing.now)) same
    ∙ ap (option_map {U = UniqueModel × Standing} (λ (x : Standing). (c.args.who.now, x)))
    (sym (c.slots.invariant ∙ walked_here c.args.who.now c.args.slots.now.entries c.slots.slot c.in-Some.there.now c.in-Some.standing.now (sym c.in-Some.ensures.entry) (sym same)))

pub returns : goal.returns
returns c = ap (option_map {U = UniqueModel × Standing} (λ (x : Standing). (c.args.who.now, x))) (sym (c.slots.invariant ∙ walked_end c.args.who.now c.args.slots.now.entries c.slots.slot (omega arith)))
