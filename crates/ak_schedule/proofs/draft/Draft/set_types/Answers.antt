use Rattle.std.proofs.Common.{◌≡◌, ◌∷◌, codes, refl, arith, inr}
use Rattle.std.proofs.lemmas.Result.{err_from_is_err_and}
use Rattle.ak_schedule.specs.declared.draft.Extra.TheVariants.{Types}
use Rattle.ak_schedule.specs.Line.{words}
use Rattle.ak_schedule.specs.Schedule.{SpellsTypes}
use Rattle.ak_schedule.proofs.HeaderLines.{extra_value_refused, sets_types}
use Rattle.ak_schedule.proofs.draft.Draft.set_types.Goals as goal

pub returns-in_err-self-inside : goal.returns-in_err-self-inside
returns-in_err-self-inside c =
    let ws = words c.args.line.now in
    let rest = words c.in-Some.field-0-1.now in
    let is = err_from_is_err_and c.from_residual.result c.from_residual.ensures.1 in
    let fault = c.in_err-self-inside.field-0.0 in
    let whole : ws ≡ c.in-Some.first.now ∷ rest = c.in-Some.ensures.first in
    let first : c.in-Some.first.now ≡ codes "types" = c.is_text.ensures.0 c.if-not-is_text.false in
    let named : ws ≡ codes "types" ∷ rest = rw (whole, first) refl in
    rw (is.1, is.2, ← c.self.view_is)
    (extra_value_refused (SpellsTypes ws c.self.inside.shards) c.args.line.now _ fault (rest, inr named) c.in_err-self-inside.ensures (λ which next sets. sets_types which ws rest _ next named sets))

pub returns : goal.returns
returns c =
    let few = c.if-self-gt2.false in
    rw (← c.self.view_is) (record {
      which = Types;
      index = 2;
      next = refl;
      later = omega (arith, few);
      sets = record { short = c.requires.short; words = (c.in_ok-self-inside.field-0.items, c.in_ok-self-inside.ensures, refl) };
      same_read = refl;
      past = refl;
    })
