use Rattle.ak_driver.proofs.FirstSteps.{goes_on, first_steps}
use Rattle.ak_driver.proofs.laws.failed_reads_print_first_steps.Goals as goal

pub returns : goal.returns
returns c = record { steps = goes_on; text = first_steps }
