use Rattle.std.proofs.Common.{◌≡◌, length, ap, ◌∙◌, arith}
use Rattle.std.proofs.lemmas.List.{with_items_is}
use Rattle.ak_address.proofs.TableLemmas.{Underlies}
use Rattle.ak_address.proofs.ChangedLaws.{rows_changed, behind_changed}
use Rattle.ak_address.proofs.table.Table.raise_all.Goals as goal

pub invariant_of-self : goal.invariant_of-self
invariant_of-self g c =
    let b : Underlies c.self.inside.entries.items c.args.self.now = record { in_order = c.self.invariant; seen = c.self.view_is } in
    let long : length c.raise_each.new.entries ≡ c.self.inside.entries.len = omega (arith, ap length c.deref_mut.ensures.value, c.self.inside.entries.ok.0) in
    (behind_changed (g.V.Raise.raised c.args.most) _ _ b _ (with_items_is c.self.inside.entries c.raise_each.new.entries long ∙ c.raise_each.ensures ∙ ap (rows_changed (g.V.Raise.raised c.args.most)) c.deref_mut.ensures.value)).in_order

pub returns : goal.returns
returns g c =
    let b : Underlies c.self.inside.entries.items c.args.self.now = record { in_order = c.self.invariant; seen = c.self.view_is } in
    let long : length c.raise_each.new.entries ≡ c.self.inside.entries.len = omega (arith, ap length c.deref_mut.ensures.value, c.self.inside.entries.ok.0) in
    (behind_changed (g.V.Raise.raised c.args.most) _ _ b _ (with_items_is c.self.inside.entries c.raise_each.new.entries long ∙ c.raise_each.ensures ∙ ap (rows_changed (g.V.Raise.raised c.args.most)) c.deref_mut.ensures.value)).seen
