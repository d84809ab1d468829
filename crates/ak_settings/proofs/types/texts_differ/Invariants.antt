use Rattle.std.proofs.Common.{◌≡◌, drop}
use Rattle.ak_settings.specs.Settings.{all_texts_differ}
use Rattle.ak_settings.proofs.types.texts_differ.Given as goal

abbrev pub invariant-texts : goal.invariant-texts
invariant-texts l = all_texts_differ l.texts ≡ all_texts_differ (drop l.i l.texts)
