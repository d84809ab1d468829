use Rattle.std.proofs.Common.{inl, inr, refl, sym, ◌∙◌}
use Rattle.std.specs.Str.{is_utf8}
use Rattle.std.proofs.lemmas.Bool.{cases_Bool, false≢true}
use Rattle.std.proofs.lemmas.Str.{is_utf8-from_IsUtf8, IsUtf8-from_is_utf8}
use Rattle.ak_config.specs.Configuration.{document}
use Rattle.ak_config.proofs.config.document.Goals as goal

pub returns-in-Ok : goal.returns-in-Ok
unfolding document
returns-in-Ok c =
    let ok = c.in-Ok.ensures.ok in
    rw (is_utf8-from_IsUtf8 c.args.bytes.now ok.0, ok.1) refl

pub returns-else-is_memory : goal.returns-else-is_memory
unfolding document
returns-else-is_memory c =
    elim (cases_Bool (is_utf8 c.args.bytes.now)) [
      | inl valid ↦ rw (valid, c.in-Err.ensures.refused (λ memory. false≢true (sym c.if-is_memory.false ∙ c.is_memory.ensures.1 memory)) (IsUtf8-from_is_utf8 c.args.bytes.now valid)) refl
      | inr invalid ↦ rw invalid refl
    ]
