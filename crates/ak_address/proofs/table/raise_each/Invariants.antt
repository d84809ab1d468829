use Rattle.std.proofs.Common.{◌≡◌, ◌++◌, take, drop}
use Rattle.std.specs.Prelude as list
use Rattle.ak_address.proofs.table.raise_each.Given as goal

-- the raised ones, and those that are left
abbrev pub invariant-entries : goal.invariant-entries
invariant-entries g l =
    l.entries ≡ list.map (λ e. (e.0, g.V.Raise.raised l.most e.1)) (take l.entry-index l.initial.entries) ++ drop l.entry-index l.initial.entries
