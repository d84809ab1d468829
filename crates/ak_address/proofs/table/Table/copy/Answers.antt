use Rattle.std.proofs.Common.{sym, ◌∙◌, arith}
use Rattle.ak_address.proofs.TableLemmas.{Underlies, none_in, none_of}
use Rattle.ak_address.proofs.table.Table.copy.Goals as goal

-- the copy of a table that has no process has none
pub returns-then-len-eq0-clause-ok : goal.returns-then-len-eq0-clause-ok
returns-then-len-eq0-clause-ok g c =
    let b : Underlies c.self.inside.entries.items c.args.self.now = record { in_order = c.self.invariant; seen = c.self.view_is } in
    c.empty.ensures ∙ sym (none_of _ _ b (omega (arith, c.self.inside.entries.ok.0, c.if-len-eq0.true)))

-- and any other has one
pub returns-in_err-entries-clause-memory : goal.returns-in_err-entries-clause-memory
returns-in_err-entries-clause-memory g c none =
    let b : Underlies c.self.inside.entries.items c.args.self.now = record { in_order = c.self.invariant; seen = c.self.view_is } in
    absurd (omega (arith, none_in _ _ b none, c.self.inside.entries.ok.0, c.if-len-eq0.false))

pub returns-in_err-push_copies-clause-memory : goal.returns-in_err-push_copies-clause-memory
returns-in_err-push_copies-clause-memory g c none =
    let b : Underlies c.self.inside.entries.items c.args.self.now = record { in_order = c.self.invariant; seen = c.self.view_is } in
    absurd (omega (arith, none_in _ _ b none, c.self.inside.entries.ok.0, c.if-len-eq0.false))
