use Rattle.std.proofs.Common.{List, [], ◌∷◌, ◌++◌, Some, sym, subst, ap, ◌∙◌}
use Rattle.ak_schedule.specs.declared.event.Event.{Event}
use Rattle.ak_accepted.specs.declared.accepted.Form.TheVariants.{Deliver}
use Rattle.ak_accepted.specs.Accepted.{events_of, AreKept}
use Rattle.ak_accepted.proofs.AcceptedLemmas.{events_pushed, kept_pushed}
use Rattle.ak_accepted.proofs.accepted.Accepted.push.Goals as goal

pub invariant_of-self-2 : goal.invariant_of-self-2
invariant_of-self-2 c =
    let parts = c.self.inside.parts.list.items in
    subst (AreKept parts) (sym c.in_ok-push.ensures.items)
    (kept_pushed parts c.self.inside.forms.items (Deliver c.in-Deliver.number) c.args.event.now (ap Some (sym c.in-Deliver.is)) c.self.invariant)

pub returns-clause-ok : goal.returns-clause-ok
returns-clause-ok c =
    let parts = c.self.inside.parts.list.items in
    ap (events_of parts) c.in_ok-push.ensures.items
    ∙ events_pushed parts c.self.inside.forms.items (Deliver c.in-Deliver.number) c.args.event.now (ap Some (sym c.in-Deliver.is))
    ∙ ap (λ (es : List Event). es ++ c.args.event.now ∷ []) c.self.view_is
