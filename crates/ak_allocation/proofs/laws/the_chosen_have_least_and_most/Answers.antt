use Rattle.ak_allocation.proofs.AllocationLaws.{lightest_is, nobody_without_loads, overloaded_is, within_threshold}
use Rattle.ak_allocation.proofs.laws.the_chosen_have_least_and_most.Goals as goal

pub returns : goal.returns
returns c = record { least = lightest_is; nobody = nobody_without_loads; most = overloaded_is; within = within_threshold }
