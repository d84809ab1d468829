use Rattle.std.proofs.Common.{◌≡◌, None, drop, option_copied}
use Rattle.ak_field.specs.Walk.{reports_pass}
use Rattle.ak_field.proofs.valid.all_pass.Given as goal

-- the reports that are left pass after the last one exactly where all do
abbrev pub invariant-list : goal.invariant-list
invariant-list l = reports_pass (option_copied l.last) (drop l.one-index l.list) ≡ reports_pass None l.list
