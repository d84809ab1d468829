use Rattle.std.proofs.Common.{sym, ◌∙◌, arith}
use Rattle.ak_address.proofs.TableLemmas.{Underlies, stands_at, goes_at, underlies_without}
use Rattle.ak_address.proofs.table.Table.remove.Goals as goal

pub remove-requires : goal.remove-requires
remove-requires g c =
    let s = stands_at _ c.args.self.now (record { in_order = c.self.invariant; seen = c.self.view_is }) c.args.who.now _ _ c.deref.ensures.value c.in-Ok.ensures in
    omega (arith, s.in_range, c.self.inside.entries.ok.0)

pub invariant_of-self : goal.invariant_of-self
invariant_of-self g c =
    let b : Underlies c.self.inside.entries.items c.args.self.now = record { in_order = c.self.invariant; seen = c.self.view_is } in
    let s = stands_at _ _ b c.args.who.now _ _ c.deref.ensures.value c.in-Ok.ensures in
    (underlies_without _ _ b c.args.who.now _ (s.without ∙ sym c.remove.ensures.items)).in_order

pub returns-in-Ok : goal.returns-in-Ok
returns-in-Ok g c =
    let b : Underlies c.self.inside.entries.items c.args.self.now = record { in_order = c.self.invariant; seen = c.self.view_is } in
    let s = stands_at _ _ b c.args.who.now _ _ c.deref.ensures.value c.in-Ok.ensures in
    (underlies_without _ _ b c.args.who.now _ (s.without ∙ sym c.remove.ensures.items)).seen

pub returns-in-Err : goal.returns-in-Err
returns-in-Err g c =
    let b : Underlies c.self.inside.entries.items c.args.self.now = record { in_order = c.self.invariant; seen = c.self.view_is } in
    let s = goes_at _ _ b c.args.who.now _ _ c.deref.ensures.value c.in-Err.ensures in
    sym c.self.view_is ∙ (underlies_without _ _ b c.args.who.now _ s.without).seen
