use Rattle.ak_region.proofs.ReportLaws.{exactly_reported, rising_reports}
use Rattle.ak_region.proofs.laws.reports_are_the_marks.Goals as goal

pub returns : goal.returns
returns c = record { exact = exactly_reported; rising = rising_reports }
