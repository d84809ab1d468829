use Rattle.std.proofs.Common.{refl, arith}
use Rattle.std.proofs.lemmas.Option.{slice_get_read}
use Rattle.ak_report.specs.ActionText.{effect_text}
use Rattle.ak_report.proofs.TextLemmas.{printed_more}
use Rattle.ak_report.proofs.report.print_effects.Goals as goal

pub effects-preserved : goal.effects-preserved
effects-preserved c =
    printed_more effect_text c.args.effects.now c.effects.index c.index-effects-index.result _ _ _ _
    (slice_get_read c.args.effects.now _ c.effects.index c.index-effects-index.result refl (omega arith) c.index-effects-index.is)
    c.effects.invariant c.in_ok-print_separator.ensures c.in_ok-print_effect.ensures
