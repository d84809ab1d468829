use Rattle.std.proofs.Common.{ℕ, ◌-◌, ◌<◌, List, length, get_or, Err, sym, ap, ◌∙◌, arith}
use Rattle.std.proofs.lemmas.List.{length-map}
use Rattle.std.proofs.lemmas.Option.{slice_get-get_or}
use Rattle.ak_address.specs.Unique.{unique_cmp}
use Rattle.ak_address.proofs.OrderLemmas.{unique_total}
use Rattle.ak_address.proofs.TableLaws.{is_true}
use Rattle.ak_address.proofs.Pairs.{is_greater, index_past}
use Rattle.ak_member.specs.Slots.{Slot, no_slot, picked}
use Rattle.ak_member.proofs.slots.is_past.Goals as goal

pub returns : goal.returns
returns c past =
    let es : List Slot = picked c.args.order.now c.args.slots.now.entries in
    let long = length-map c.args.order.now (λ place. get_or c.args.slots.now.entries place no_slot) in
    let last : ℕ = length c.args.order.now - 1 in
    let within : last < length es = omega (arith, c.if-many-eq0.false, long) in
    let at = slice_get-get_or es last no_slot within in
    let greater = ap (unique_cmp c.args.who.now) (sym c.process_at.ensures) ∙ sym c.compare.ensures ∙ is_greater _ _ c.is_gt.ensures past in
    index_past unique_cmp c.args.who.now unique_total es (is_true _ c.requires.sorted) last _ at (omega (arith, within, long)) greater ∙ ap Err long
