use Rattle.std.proofs.Common.{Ok, sym, ap, ◌∙◌}
use Rattle.std.proofs.lemmas.Option.{none-some, slice_get-get_or}
use Rattle.std.proofs.Common.{option_map}
use Rattle.ak_address.specs.Unique.{unique_cmp}
use Rattle.ak_address.proofs.OrderLemmas.{unique_total, unique_exact}
use Rattle.ak_address.proofs.TableLaws.{is_true}
use Rattle.ak_address.proofs.Pairs.{Stands, known}
use Rattle.ak_member.specs.Slots.{Slot, no_slot, picked}
use Rattle.ak_member.proofs.slots.new_index.Goals as goal

-- a process that is not among them stands nowhere
pub returns-in-Ok : goal.returns-in-Ok
returns-in-Ok c =
    let es = picked c.args.order.now c.args.slots.now.entries in
    let s : Stands unique_cmp c.args.who.now es c.in-Ok.index = known unique_cmp unique_total unique_exact c.args.who.now es (is_true _ c.requires.sorted) (Ok c.in-Ok.index) c.in-Ok.ensures in
    absurd (none-some _ (sym c.requires.absent ∙ s.found ∙ ap (option_map (λ (e : Slot). e.1)) (slice_get-get_or es c.in-Ok.index no_slot s.in_range)))
