use Rattle.ak_member.specs.Age.{role_addresses}
use Rattle.ak_converge.proofs.TallyLaws.{converged_numbers, settled_numbers}
use Rattle.ak_converge.proofs.UsesLaws.{uses_distinct}
use Rattle.ak_converge.proofs.laws.views_by_numbers.Goals as goal

pub returns-clause-converged : goal.returns-clause-converged
returns-clause-converged c = λ v seen. converged_numbers v seen

pub returns-clause-settled : goal.returns-clause-settled
returns-clause-settled c = λ quorum role v seen. settled_numbers quorum role v seen

pub returns-clause-addresses : goal.returns-clause-addresses
returns-clause-addresses c = λ role v seen. uses_distinct (role_addresses role v.standings)
