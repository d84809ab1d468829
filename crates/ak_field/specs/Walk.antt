-- Tests of reports, as the calls walk them.
use Rattle.std.specs.Prelude.{Bool, true, ◌&&◌, nat_le, List, [], ◌∷◌, Option, Some}
use Rattle.ak_clock.specs.declared.version.TheConstants.{BOUND}
use Rattle.ak_shard_id.specs.declared.report.Report.{Report}
use Rattle.ak_field.specs.Ranges.{is_from}
use Rattle.ak_field.specs.Lists.{is_later}

-- a report is in its ranges, and after the last one
abbrev pub report_passes : Option Report → Report → Bool
report_passes last r = nat_le r.shard 999 && (is_from 1 BOUND r.number && is_later last r.shard)

-- each is, after the one before it
abbrev pub reports_pass : Option Report → List Report → Bool
reports_pass last [] = true
reports_pass last (r ∷ rs) = report_passes last r && reports_pass (Some r) rs
