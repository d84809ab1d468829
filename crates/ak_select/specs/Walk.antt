-- Candidates among the pairs of a table, as the calls walk them: those that have seen may be passed over.
use Rattle.std.specs.Prelude.{ℕ, Bool, false, not, List, map, Option, None, Some}
use Rattle.std.specs.List.{filter}
use Rattle.ak_address.specs.Unique.{UniqueModel}
use Rattle.ak_address.specs.Uniques.{UniqueSet, has}
use Rattle.ak_member.specs.declared.standing.Standing.{Standing}
use Rattle.ak_member.specs.declared.status.Status.{Status}
use Rattle.ak_member.specs.Standing.{member_pairs}
use Rattle.ak_member.specs.View.{View}
use Rattle.ak_select.specs.Select.{is_reachable_other}

-- a process is in the set, where there is one
abbrev pub is_passed_over : Option UniqueSet → UniqueModel → Bool
is_passed_over None who = false
is_passed_over (Some seen) who = has seen who

abbrev pub others_among : View → UniqueModel → List (UniqueModel × Standing) → List UniqueModel
others_among v me pairs = filter (is_reachable_other v me) (map (λ (pair : UniqueModel × (Status × ℕ)). pair.0) (member_pairs pairs))

abbrev pub candidates_among : View → UniqueModel → Option UniqueSet → List (UniqueModel × Standing) → List UniqueModel
candidates_among v me seen pairs = filter (λ who. not (is_passed_over seen who)) (others_among v me pairs)
