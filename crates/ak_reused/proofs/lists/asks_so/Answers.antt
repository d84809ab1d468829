use Rattle.std.proofs.Common.{slice_get, Some, sym, ap, ◌∙◌}
use Rattle.ak_address.proofs.Pairs.{same_Some}
use Rattle.ak_wire.specs.declared.action.Action.{Action}
use Rattle.ak_wire.specs.declared.action.Action.TheVariants as action
use Rattle.ak_wire.specs.declared.envelope.Envelope.{Envelope}
use Rattle.ak_reused.specs.Reused.{request}
use Rattle.ak_reused.proofs.Alone.{alone}
use Rattle.ak_reused.proofs.lists.asks_so.Goals as goal

abbrev sent_by : Envelope → Action → Envelope
sent_by other (action.Send sent) = sent
sent_by other _ = other

pub returns-in-Some-Send : goal.returns-in-Some-Send
returns-in-Some-Send c =
    let w = c.in-Some-Send in
    let asked = request c.args.from.now c.args.to.now in (
      λ same. alone c.args.actions.now (action.Send asked) (sym c.len.ensures ∙ c.if-len-ne1.false) (sym w.ensures ∙ ap Some (w.field-0-is ∙ ap action.Send (sym c.get.ensures ∙ c.is_request.ensures.0 same))),
      λ is. c.is_request.ensures.1 (c.get.ensures ∙ ap (sent_by asked) (sym w.field-0-is ∙ same_Some w.field-0.now (action.Send asked) (w.ensures ∙ ap (λ xs. slice_get xs 0) is))),
    )
