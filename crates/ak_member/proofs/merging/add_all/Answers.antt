use Rattle.std.proofs.Common.{List, [], ◌∷◌, ◌++◌, reverse, sym, subst, ap, ◌∙◌, append_assoc}
use Rattle.ak_member.specs.Slots.{Slot, standings_of}
use Rattle.ak_member.specs.Merging.{CanBeAdded}
use Rattle.ak_member.proofs.MergeLemmas.{can_add_rest, reversed_last}
use Rattle.ak_member.proofs.merging.add_all.Goals as goal

pub new-preserved : goal.new-preserved
new-preserved c =
    let slots = c.new.slots.entries in
    let e : Slot = (c.in-Some.who, c.in-Some.standing) in
    let rest = reverse c.pop.new.self.items in
    let turned = reversed_last c.pop.new.self.items c.new.left.items e c.in-Some.ensures.items in
    record {
      can = can_add_rest slots c.add.new.self.entries c.new.slots.room c.add.new.self.room e rest (subst (CanBeAdded (standings_of slots) c.new.slots.room) turned c.new.invariant.can) c.in_ok-add.ensures.ok c.add.ensures.room;
      all =
          ap (λ (es : List Slot). es ++ rest) c.in_ok-add.ensures.ok
          ∙ append_assoc slots (e ∷ []) rest
          ∙ ap (λ (es : List Slot). slots ++ es) (sym turned)
          ∙ c.new.invariant.all;
    }
