-- The last number given after several members, and the Joining ones among them, as the calls walk them.
use Rattle.std.specs.Prelude.{ℕ, ◌+◌, List, [], ◌∷◌, if◌then◌else◌}
use Rattle.ak_address.specs.Unique.{UniqueModel}
use Rattle.ak_member.specs.declared.effect.Effect.{Effect}
use Rattle.ak_member.specs.declared.effect.Effect.TheVariants.{Rise}
use Rattle.ak_member.specs.declared.status.Status.{Status}
use Rattle.ak_member.specs.declared.status.Status.TheVariants.{Up}
use Rattle.ak_member.specs.Standing.{is_joining}
use Rattle.ak_leader.specs.Leader.{number_after}

-- the last number given by the leader
abbrev pub number_past : ℕ → List (UniqueModel × (Status × ℕ)) → ℕ
number_past number [] = number
number_past number (pair ∷ pairs) = number_past (number_after number pair.1.0) pairs

-- the Joining ones of these members
abbrev pub joining : List (UniqueModel × (Status × ℕ)) → List UniqueModel
joining [] = []
joining (pair ∷ pairs) = if is_joining pair.1.0 then pair.0 ∷ joining pairs else joining pairs

-- they come Up with the numbers after this one
abbrev pub numbered : ℕ → List UniqueModel → List Effect
numbered number [] = []
numbered number (who ∷ rest) = Rise who Up (number + 1) ∷ numbered (number + 1) rest
