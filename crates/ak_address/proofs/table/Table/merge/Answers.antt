use Rattle.std.proofs.Common.{◌≡◌, ◌∙◌, arith}
use Rattle.ak_address.specs.Unique.{unique_cmp}
use Rattle.ak_address.specs.Pairs.{woven}
use Rattle.ak_address.proofs.TableLemmas.{Underlies, underlies_merged, none_in, none_of, merged_with_none}
use Rattle.ak_address.proofs.table.Table.merge.Goals as goal

pub invariant_of-self : goal.invariant_of-self
invariant_of-self g c =
    let mine : Underlies c.self.inside.entries.items c.args.self.now = record { in_order = c.self.invariant; seen = c.self.view_is } in
    let theirs : Underlies c.other.inside.entries.items c.args.other.now = record { in_order = c.other.invariant; seen = c.other.view_is } in
    let both : woven unique_cmp g.V.Merge.merged c.deref.result.now c.deref-2.result.now ≡ woven unique_cmp g.V.Merge.merged c.self.inside.entries.items c.other.inside.entries.items = λ i. woven unique_cmp g.V.Merge.merged (c.deref.ensures.value i) (c.deref-2.ensures.value i) in
    (underlies_merged g.V.Merge.merged _ _ _ _ mine theirs _ (c.in_ok-entries.ensures ∙ both)).in_order

pub returns-clause-ok : goal.returns-clause-ok
returns-clause-ok g c =
    let mine : Underlies c.self.inside.entries.items c.args.self.now = record { in_order = c.self.invariant; seen = c.self.view_is } in
    let theirs : Underlies c.other.inside.entries.items c.args.other.now = record { in_order = c.other.invariant; seen = c.other.view_is } in
    let both : woven unique_cmp g.V.Merge.merged c.deref.result.now c.deref-2.result.now ≡ woven unique_cmp g.V.Merge.merged c.self.inside.entries.items c.other.inside.entries.items = λ i. woven unique_cmp g.V.Merge.merged (c.deref.ensures.value i) (c.deref-2.ensures.value i) in
    (underlies_merged g.V.Merge.merged _ _ _ _ mine theirs _ (c.in_ok-entries.ensures ∙ both)).seen

-- a table that has no process brings nothing
pub returns-then-len-eq0-clause-ok : goal.returns-then-len-eq0-clause-ok
returns-then-len-eq0-clause-ok g c =
    let theirs : Underlies c.other.inside.entries.items c.args.other.now = record { in_order = c.other.invariant; seen = c.other.view_is } in
    merged_with_none g.V.Merge.merged _ _ (none_of _ _ theirs (omega (arith, c.other.inside.entries.ok.0, c.if-len-eq0.true)))

pub returns-in_err-entries-clause-memory : goal.returns-in_err-entries-clause-memory
returns-in_err-entries-clause-memory g c none =
    let theirs : Underlies c.other.inside.entries.items c.args.other.now = record { in_order = c.other.invariant; seen = c.other.view_is } in
    absurd (omega (arith, none_in _ _ theirs none, c.other.inside.entries.ok.0, c.if-len-eq0.false))
