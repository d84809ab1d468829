use Rattle.std.proofs.Common.{true≢false, is_some, sym, ap, ◌∙◌, arith}
use Rattle.ak_address.proofs.TableLemmas.{Underlies, stands_at, goes_at, underlies_put, absent_in}
use Rattle.ak_address.proofs.table.Table.insert.Goals as goal

pub index_mut-requires : goal.index_mut-requires
index_mut-requires g c =
    let b : Underlies c.self.inside.entries.items c.args.self.now = record { in_order = c.self.invariant; seen = c.self.view_is } in
    let s = stands_at _ _ b c.args.who _ _ c.deref.ensures.value c.in-Ok.ensures in
    omega (arith, s.in_range, c.self.inside.entries.ok.0)

pub invariant_of-self : goal.invariant_of-self
invariant_of-self g c =
    let b : Underlies c.self.inside.entries.items c.args.self.now = record { in_order = c.self.invariant; seen = c.self.view_is } in
    let s = stands_at _ _ b c.args.who _ _ c.deref.ensures.value c.in-Ok.ensures in
    (underlies_put _ _ b c.args.who c.args.value _ (s.put_there c.args.value)).in_order

pub returns-in-Ok-clause-ok : goal.returns-in-Ok-clause-ok
returns-in-Ok-clause-ok g c =
    let b : Underlies c.self.inside.entries.items c.args.self.now = record { in_order = c.self.invariant; seen = c.self.view_is } in
    let s = stands_at _ _ b c.args.who _ _ c.deref.ensures.value c.in-Ok.ensures in
    (underlies_put _ _ b c.args.who c.args.value _ (s.put_there c.args.value)).seen

pub insert-requires : goal.insert-requires
insert-requires g c =
    let b : Underlies c.self.inside.entries.items c.args.self.now = record { in_order = c.self.invariant; seen = c.self.view_is } in
    let s = goes_at _ _ b c.args.who _ _ c.deref.ensures.value c.in-Err.ensures in
    omega (arith, s.in_range, c.self.inside.entries.ok.0)

pub returns-in_err-insert-in-Err-clause-present : goal.returns-in_err-insert-in-Err-clause-present
returns-in_err-insert-in-Err-clause-present g c found =
    let b : Underlies c.self.inside.entries.items c.args.self.now = record { in_order = c.self.invariant; seen = c.self.view_is } in
    let s = goes_at _ _ b c.args.who _ _ c.deref.ensures.value c.in-Err.ensures in
    absurd (true≢false (sym found ∙ ap is_some (absent_in _ _ b c.args.who _ s)))

pub invariant_of-self-in-Err : goal.invariant_of-self-in-Err
invariant_of-self-in-Err g c =
    let b : Underlies c.self.inside.entries.items c.args.self.now = record { in_order = c.self.invariant; seen = c.self.view_is } in
    let s = goes_at _ _ b c.args.who _ _ c.deref.ensures.value c.in-Err.ensures in
    (underlies_put _ _ b c.args.who c.args.value _ (s.put_there c.args.value ∙ sym (c.in_ok-insert-in-Err.ensures.items))).in_order

pub returns-in_ok-insert-in-Err-clause-ok : goal.returns-in_ok-insert-in-Err-clause-ok
returns-in_ok-insert-in-Err-clause-ok g c =
    let b : Underlies c.self.inside.entries.items c.args.self.now = record { in_order = c.self.invariant; seen = c.self.view_is } in
    let s = goes_at _ _ b c.args.who _ _ c.deref.ensures.value c.in-Err.ensures in
    (underlies_put _ _ b c.args.who c.args.value _ (s.put_there c.args.value ∙ sym (c.in_ok-insert-in-Err.ensures.items))).seen
