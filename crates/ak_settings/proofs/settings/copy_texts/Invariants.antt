use Rattle.std.proofs.Common.{◌≡◌, take}
use Rattle.ak_settings.proofs.settings.copy_texts.Given as goal

-- as many as were seen
abbrev pub invariant-texts : goal.invariant-texts
invariant-texts l = l.copies.items ≡ take l.each-index l.texts
