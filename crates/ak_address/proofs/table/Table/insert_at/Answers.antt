use Rattle.std.proofs.Common.{◌≡◌, length, arith}
use Rattle.ak_address.proofs.TableLemmas.{Underlies, pairs, goes_at, underlies_placed, underlies_pushed}
use Rattle.ak_address.proofs.table.Table.insert_at.Goals as goal

pub insert-requires : goal.insert-requires
insert-requires g c =
    let b : Underlies c.self.inside.entries.items c.args.self.now = record { in_order = c.self.invariant; seen = c.self.view_is } in
    let s = goes_at _ _ b c.args.who _ _ (pairs _ _ b) c.requires in
    omega (arith, s.in_range, c.self.inside.entries.ok.0)

pub invariant_of-self-2 : goal.invariant_of-self-2
invariant_of-self-2 g c =
    let b : Underlies c.self.inside.entries.items c.args.self.now = record { in_order = c.self.invariant; seen = c.self.view_is } in
    (underlies_placed _ _ b c.args.who c.args.value _ _ c.requires c.in_ok-insert.ensures.items).in_order

pub returns-clause-ok : goal.returns-clause-ok
returns-clause-ok g c =
    let b : Underlies c.self.inside.entries.items c.args.self.now = record { in_order = c.self.invariant; seen = c.self.view_is } in
    (underlies_placed _ _ b c.args.who c.args.value _ _ c.requires c.in_ok-insert.ensures.items).seen

pub invariant_of-self-then-place-len : goal.invariant_of-self-then-place-len
invariant_of-self-then-place-len g c =
    let es = c.self.inside.entries.items in
    let b : Underlies es c.args.self.now = record { in_order = c.self.invariant; seen = c.self.view_is } in
    let at_end : c.args.place ≡ length es = omega (arith, c.if-place-len.true, c.self.inside.entries.ok.0) in
    (underlies_pushed _ _ b c.args.who c.args.value _ _ c.requires at_end c.in_ok-push.ensures.items).in_order

pub returns-then-place-len-clause-ok : goal.returns-then-place-len-clause-ok
returns-then-place-len-clause-ok g c =
    let es = c.self.inside.entries.items in
    let b : Underlies es c.args.self.now = record { in_order = c.self.invariant; seen = c.self.view_is } in
    let at_end : c.args.place ≡ length es = omega (arith, c.if-place-len.true, c.self.inside.entries.ok.0) in
    (underlies_pushed _ _ b c.args.who c.args.value _ _ c.requires at_end c.in_ok-push.ensures.items).seen
