use Rattle.std.proofs.Common.{◌≡◌, ◌++◌, map, take}
use Rattle.ak_report.specs.ActionText.{effect_text}
use Rattle.ak_report.proofs.TextLemmas.{prefix}
use Rattle.ak_report.proofs.report.print_effects.Given as goal

-- by those that are printed, since whether a separator stands before the next one goes by them
abbrev pub invariant-effects : goal.invariant-effects
invariant-effects l = l.out.items ≡ l.initial.out.items ++ prefix (map effect_text (take l.index l.effects))
