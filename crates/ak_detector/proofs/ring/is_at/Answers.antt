use Rattle.std.proofs.Common.{Some, sym, ap, ◌∙◌}
use Rattle.std.proofs.lemmas.Option.{same_Some}
use Rattle.ak_detector.proofs.ring.is_at.Goals as goal

pub returns-in-Some : goal.returns-in-Some
returns-in-Some c = (λ is. sym c.in-Some.ensures ∙ ap Some (c.is.ensures.meaning.0 is), λ there. c.is.ensures.meaning.1 (same_Some _ _ (c.in-Some.ensures ∙ there)))
