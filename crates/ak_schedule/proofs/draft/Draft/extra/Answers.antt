use Rattle.std.proofs.Common.{◌≡◌, ◌∷◌, codes, refl}
use Rattle.std.proofs.lemmas.Result.{err_from_is_err_and}
use Rattle.ak_schedule.specs.declared.draft.Extra.TheVariants.{Weakly}
use Rattle.ak_schedule.specs.Line.{words}
use Rattle.ak_schedule.specs.Schedule.{SpellsOption}
use Rattle.ak_schedule.proofs.HeaderLines.{extra_refused, sets_weakly}
use Rattle.ak_schedule.proofs.draft.Draft.extra.Goals as goal

pub returns-in_err-self-inside : goal.returns-in_err-self-inside
returns-in_err-self-inside c =
    let ws = words c.args.line.now in
    let is = err_from_is_err_and c.from_residual.result c.from_residual.ensures.1 in
    let first : c.in-Some.first.now ≡ codes "weakly" = c.is_text.ensures.0 c.if-not-is_text.false in
    let whole : ws ≡ c.in-Some.first.now ∷ words c.in-Some.field-0-1.now = c.in-Some.ensures.first in
    let named : ws ≡ codes "weakly" ∷ words c.in-Some.field-0-1.now = rw (whole, first) refl in
    rw (is.1, is.2)
    (extra_refused (SpellsOption (codes "weakly") 1000000 ws) c.args.line.now c.args.self.now c.in_err-self-inside.field-0.0 (Weakly, words c.in-Some.field-0-1.now, named)
    c.in_err-self-inside.ensures (λ which next sets. sets_weakly which ws (words c.in-Some.field-0-1.now) c.args.self.now.settings next named sets))
