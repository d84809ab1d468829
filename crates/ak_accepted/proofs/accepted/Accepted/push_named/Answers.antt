use Rattle.std.proofs.Common.{List, [], ◌∷◌, ◌++◌, sym, subst, ap, ◌∙◌}
use Rattle.ak_address.proofs.Failing.{on_err}
use Rattle.ak_schedule.specs.declared.event.Event.{Event}
use Rattle.ak_accepted.specs.Accepted.{events_of, AreKept}
use Rattle.ak_accepted.proofs.AcceptedLemmas.{events_grown, kept_grown, events_pushed, kept_pushed}
use Rattle.ak_accepted.proofs.accepted.Accepted.push_named.Goals as goal

pub invariant_of-self : goal.invariant_of-self
invariant_of-self c =
    kept_grown c.self.inside.parts.list.items c.form_of.new.parts.list.items c.self.inside.forms.items c.in_err-form.ensures.grows c.self.invariant

pub returns-in_err-form-clause-err : goal.returns-in_err-form-clause-err
returns-in_err-form-clause-err c =
    on_err c.from_residual.result
    (events_grown c.self.inside.parts.list.items c.form_of.new.parts.list.items c.self.inside.forms.items c.in_err-form.ensures.grows c.self.invariant ∙ c.self.view_is)

pub invariant_of-self-in_err-push : goal.invariant_of-self-in_err-push
invariant_of-self-in_err-push c =
    let parts = c.form_of.new.parts.list.items in
    subst (AreKept parts) (sym c.in_err-push.ensures.items)
    (kept_grown c.self.inside.parts.list.items parts c.self.inside.forms.items c.in_ok-form.ensures.grows c.self.invariant)

pub returns-in_err-push-clause-err : goal.returns-in_err-push-clause-err
returns-in_err-push-clause-err c =
    let parts = c.form_of.new.parts.list.items in
    on_err c.from_residual-in_err-push.result
    (ap (events_of parts) c.in_err-push.ensures.items
    ∙ events_grown c.self.inside.parts.list.items parts c.self.inside.forms.items c.in_ok-form.ensures.grows c.self.invariant
    ∙ c.self.view_is)

pub invariant_of-self-2 : goal.invariant_of-self-2
invariant_of-self-2 c =
    let parts = c.form_of.new.parts.list.items in
    subst (AreKept parts) (sym c.in_ok-push.ensures.items)
    (kept_pushed parts c.self.inside.forms.items c.in_ok-form.form c.args.event.now c.in_ok-form.ensures.form
    (kept_grown c.self.inside.parts.list.items parts c.self.inside.forms.items c.in_ok-form.ensures.grows c.self.invariant))

pub returns-clause-ok : goal.returns-clause-ok
returns-clause-ok c =
    let parts = c.form_of.new.parts.list.items in
    ap (events_of parts) c.in_ok-push.ensures.items
    ∙ events_pushed parts c.self.inside.forms.items c.in_ok-form.form c.args.event.now c.in_ok-form.ensures.form
    ∙ ap (λ (es : List Event). es ++ c.args.event.now ∷ [])
    (events_grown c.self.inside.parts.list.items parts c.self.inside.forms.items c.in_ok-form.ensures.grows c.self.invariant ∙ c.self.view_is)
