use Rattle.ak_converge.proofs.ConvergenceLaws.{settled_means}
use Rattle.ak_converge.proofs.laws.settled_views.Goals as goal

pub returns-clause-counted_have_seen : goal.returns-clause-counted_have_seen
returns-clause-counted_have_seen c = λ quorum role v seen is who number counted. ((settled_means quorum role v seen).0 is).0.counted_seen who number counted

pub returns-clause-unreachable_are_out : goal.returns-clause-unreachable_are_out
returns-clause-unreachable_are_out c = λ quorum role v seen is who lost. ((settled_means quorum role v seen).0 is).0.unreachable_out who lost

pub returns-clause-enough_addresses : goal.returns-clause-enough_addresses
returns-clause-enough_addresses c = λ quorum role v seen is. ((settled_means quorum role v seen).0 is).1

pub returns-clause-back : goal.returns-clause-back
returns-clause-back c = λ quorum role v seen all out enough. (settled_means quorum role v seen).1 (record { counted_seen = all; unreachable_out = out }, enough)
