use Rattle.std.proofs.Common.{ℕ, slice_get, Some, sym, ap, ◌∙◌, eq-eqb, eqb-true}
use Rattle.ak_address.proofs.Pairs.{same_Some}
use Rattle.ak_wire.specs.declared.action.Action.{Action}
use Rattle.ak_wire.specs.declared.action.Action.TheVariants as action
use Rattle.ak_reused.proofs.Alone.{alone}
use Rattle.ak_reused.proofs.lists.refuses_for.Goals as goal

abbrev reason_of : Action → ℕ
reason_of (action.Refused reason) = reason
reason_of _ = 0

pub returns-in-Some-Refused : goal.returns-in-Some-Refused
returns-in-Some-Refused c =
    let w = c.in-Some-Refused in (
      λ same. alone c.args.actions.now (action.Refused c.args.reason) (sym c.len.ensures ∙ c.if-len-ne1.false) (sym w.ensures ∙ ap Some (w.field-0-is ∙ ap action.Refused (eqb-true w.other c.args.reason same))),
      λ is. eq-eqb w.other c.args.reason (ap reason_of (sym w.field-0-is ∙ same_Some w.field-0.now (action.Refused c.args.reason) (w.ensures ∙ ap (λ xs. slice_get xs 0) is))),
    )
