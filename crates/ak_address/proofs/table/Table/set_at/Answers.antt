use Rattle.std.proofs.Common.{◌<◌, Some, length, refl, sym, ap, ◌∙◌, arith}
use Rattle.std.specs.FinMap as map
use Rattle.std.specs.Cmp.{tied_itself}
use Rattle.std.proofs.lemmas.Option.{slice_get-get_or}
use Rattle.ak_address.specs.Unique.{UniqueModel, unique_cmp}
use Rattle.ak_address.proofs.OrderLemmas.{unique_total}
use Rattle.ak_address.proofs.Pairs.{above_before, index_here}
use Rattle.ak_address.proofs.TableLaws.{is_true}
use Rattle.ak_address.proofs.TableLemmas.{Underlies, pairs, stands_at, underlies_renewed}
use Rattle.ak_address.proofs.table.Table.set_at.Goals as goal

pub index_mut-requires : goal.index_mut-requires
index_mut-requires g c =
    let b : Underlies c.self.inside.entries.items c.args.self.now = record { in_order = c.self.invariant; seen = c.self.view_is } in
    omega (arith, c.requires, map.len-entries c.args.self.now, ap length (pairs _ _ b), c.self.inside.entries.ok.0)

-- the process that stands there is the one that stood there
pub invariant_of-self : goal.invariant_of-self
invariant_of-self g c =
    let es = c.self.inside.entries.items in
    let b : Underlies es c.args.self.now = record { in_order = c.self.invariant; seen = c.self.view_is } in
    let within : c.args.place < length es = omega (arith, c.requires, map.len-entries c.args.self.now, ap length (pairs _ _ b)) in
    let who : UniqueModel = c.index_mut.result.now.0 in
    let at = slice_get-get_or es c.args.place c.index_mut.result.now within ∙ ap Some (sym c.index_mut.ensures.value) in
    let tied = tied_itself unique_total who in
    let place = sym (index_here unique_cmp who es c.args.place _ (above_before unique_cmp who unique_total es (is_true _ c.self.invariant) c.args.place _ at tied) at tied) in
    let s = stands_at _ _ b who es c.args.place refl place in
    (underlies_renewed _ _ b who who c.args.value c.index_mut.result.now c.args.place s (ap (λ e. e.0) c.index_mut.ensures.value)).in_order

pub returns : goal.returns
returns g c who is =
    let b : Underlies c.self.inside.entries.items c.args.self.now = record { in_order = c.self.invariant; seen = c.self.view_is } in
    let s = stands_at _ _ b who _ _ (pairs _ _ b) is in
    (underlies_renewed _ _ b who c.index_mut.result.now.0 c.args.value c.index_mut.result.now c.args.place s (ap (λ e. e.0) c.index_mut.ensures.value)).seen
