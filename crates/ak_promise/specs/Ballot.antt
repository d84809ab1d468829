-- Ballots: who asks for the singleton, and in which term (this project's choice).
use Rattle.std.specs.Prelude.{ℕ, ◌≤◌, refl}
use Rattle.std.specs.Coded.{Coded, code_by, coded×, coded_ℕ}
use Rattle.std.specs.Ordering.{nat_cmp, ordering_then}
use Rattle.std.specs.declared.cmp.Ordering.{Ordering}
use Rattle.ak_address.specs.Unique.{UniqueModel, IsUnique, unique_cmp, coded_unique}
use Rattle.ak_clock.specs.declared.version.TheConstants.{BOUND}

pub record BallotModel : Type 0 where
  pub term : ℕ
  pub unique : UniqueModel

pub record IsBallot (b : BallotModel) : Type 0 where
  pub unique : IsUnique b.unique
  pub term : 1 ≤ b.term
  pub term_fits : b.term ≤ BOUND

-- by term, and of equal terms by the order of processes
abbrev pub ballot_cmp : BallotModel → BallotModel → Ordering
ballot_cmp b c = ordering_then (nat_cmp b.term c.term) (unique_cmp b.unique c.unique)

-- a ballot is stored as the pair of its fields
abbrev pub coded_ballot : Coded BallotModel
coded_ballot = code_by (ℕ × UniqueModel) (coded× coded_ℕ coded_unique) (λ b. (b.term, b.unique)) (λ p. record { term = p.0; unique = p.1 }) (λ _. refl)
