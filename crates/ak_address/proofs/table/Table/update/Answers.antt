use Rattle.std.proofs.Common.{ap, sym, is_some, arith}
use Rattle.ak_address.proofs.TableLemmas.{Underlies, stands_at, goes_at, underlies_renewed, has_at_index, absent_in}
use Rattle.ak_address.proofs.table.Table.update.Goals as goal

pub index_mut-requires : goal.index_mut-requires
index_mut-requires g c =
    let b : Underlies c.self.inside.entries.items c.args.self.now = record { in_order = c.self.invariant; seen = c.self.view_is } in
    let s = stands_at _ _ b c.args.who.now _ _ c.deref.ensures.value c.in-Ok.ensures in
    omega (arith, s.in_range, c.self.inside.entries.ok.0)

pub invariant_of-self : goal.invariant_of-self
invariant_of-self g c =
    let b : Underlies c.self.inside.entries.items c.args.self.now = record { in_order = c.self.invariant; seen = c.self.view_is } in
    let s = stands_at _ _ b c.args.who.now _ _ c.deref.ensures.value c.in-Ok.ensures in
    (underlies_renewed _ _ b c.args.who.now c.index_mut.result.now.0 c.args.value c.index_mut.result.now c.in-Ok.index s (ap (λ e. e.0) c.index_mut.ensures.value)).in_order

pub returns-in-Ok-clause-has : goal.returns-in-Ok-clause-has
returns-in-Ok-clause-has g c =
    let b : Underlies c.self.inside.entries.items c.args.self.now = record { in_order = c.self.invariant; seen = c.self.view_is } in
    has_at_index _ _ b c.args.who.now _ (stands_at _ _ b c.args.who.now _ _ c.deref.ensures.value c.in-Ok.ensures)

pub returns-in-Ok-clause-after : goal.returns-in-Ok-clause-after
returns-in-Ok-clause-after g c =
    let b : Underlies c.self.inside.entries.items c.args.self.now = record { in_order = c.self.invariant; seen = c.self.view_is } in
    let s = stands_at _ _ b c.args.who.now _ _ c.deref.ensures.value c.in-Ok.ensures in
    (underlies_renewed _ _ b c.args.who.now c.index_mut.result.now.0 c.args.value c.index_mut.result.now c.in-Ok.index s (ap (λ e. e.0) c.index_mut.ensures.value)).seen

pub returns-in-Err-clause-has : goal.returns-in-Err-clause-has
returns-in-Err-clause-has g c =
    let b : Underlies c.self.inside.entries.items c.args.self.now = record { in_order = c.self.invariant; seen = c.self.view_is } in
    sym (ap is_some (absent_in _ _ b c.args.who.now _ (goes_at _ _ b c.args.who.now _ _ c.deref.ensures.value c.in-Err.ensures)))
