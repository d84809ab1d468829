use Rattle.std.proofs.Common.{◌≡◌, ◌∷◌, List, codes, refl, subst, arith, inl}
use Rattle.std.proofs.lemmas.Result.{err_from_is_err_and}
use Rattle.ak_address.specs.Unique.{AddressModel}
use Rattle.ak_schedule.specs.declared.draft.Extra.TheVariants.{Role}
use Rattle.ak_schedule.specs.Draft.{RefusesValue}
use Rattle.ak_schedule.specs.Line.{words}
use Rattle.ak_schedule.specs.Schedule.{SpellsRole}
use Rattle.ak_schedule.proofs.HeaderLines.{extra_value_refused, sets_role}
use Rattle.ak_schedule.proofs.draft.Draft.set_role.Goals as goal

pub returns-in_err-self-inside : goal.returns-in_err-self-inside
returns-in_err-self-inside c =
    let ws = words c.args.line.now in
    let rest = words c.in-Some.field-0-1.now in
    let is = err_from_is_err_and c.from_residual.result c.from_residual.ensures.1 in
    let fault = c.in_err-self-inside.field-0.0 in
    let whole : ws ≡ c.in-Some.first.now ∷ rest = c.in-Some.ensures.first in
    let first : c.in-Some.first.now ≡ codes "role" = c.is_text.ensures.0 c.if-not-is_text.false in
    let named : ws ≡ codes "role" ∷ rest = rw (whole, first) refl in
    let refused : RefusesValue (SpellsRole ws c.self.inside.listed.items) fault = subst (λ (l : List AddressModel). RefusesValue (SpellsRole ws l) fault) c.deref.ensures.value c.in_err-self-inside.ensures in
    rw (is.1, is.2, ← c.self.view_is)
    (extra_value_refused (SpellsRole ws c.self.inside.listed.items) c.args.line.now _ fault (rest, inl named) refused (λ which next sets. sets_role which ws rest _ next named sets))

pub returns : goal.returns
returns c =
    let ws = words c.args.line.now in
    let spelt : SpellsRole ws c.self.inside.listed.items c.in_ok-self-inside.field-0.items = subst (λ (l : List AddressModel). SpellsRole ws l c.in_ok-self-inside.field-0.items) c.deref.ensures.value c.in_ok-self-inside.ensures in
    let few = c.if-self-gt1.false in
    rw (← c.self.view_is) (record {
      which = Role;
      index = 1;
      next = refl;
      later = omega (arith, few);
      sets = record { short = c.requires.short; words = (c.in_ok-self-inside.field-0.items, spelt, refl) };
      same_read = refl;
      past = refl;
    })
