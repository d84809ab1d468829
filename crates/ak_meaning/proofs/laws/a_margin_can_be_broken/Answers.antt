use Rattle.ak_meaning.proofs.BrokenRun.{finder_is, is_broken, member_is, member_runs}
use Rattle.ak_meaning.proofs.laws.a_margin_can_be_broken.Goals as goal

pub returns : goal.returns
returns c = record { broken = is_broken; node = finder_is; member = member_is; runs = member_runs }
