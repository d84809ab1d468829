-- When the members of a view agree on it, and when it settles (Akka's Cluster Specification, "Gossip Convergence"; that a
-- settled view has enough addresses of counted members is this project's choice).
use Rattle.std.specs.Prelude.{◌≡◌, ℕ, nat_le, Bool, true, false, not, ◌&&◌, ◌||◌, IsTrue, ◌⊎◌, List, Some}
use Rattle.std.specs.List.{list_all}
use Rattle.std.specs.FinMap as map
use Rattle.ak_address.specs.Unique.{AddressModel, UniqueModel}
use Rattle.ak_address.specs.Uniques.{UniqueSet, has}
use Rattle.ak_member.specs.declared.status.Status.{Status}
use Rattle.ak_member.specs.declared.status.Status.TheVariants.{Joining, WeaklyUp, Up, Leaving, Exiting, Down}
use Rattle.ak_member.specs.Standing.{Standings, member_of, members_of}
use Rattle.ak_address.specs.Distinct.{distinct}
use Rattle.ak_member.specs.Age.{counts, IsCounted, role_addresses}
use Rattle.ak_member.specs.View.{View}
use Rattle.ak_reach.specs.Unreachable.{unreachable_members, IsUnreachable}

-- an unreachable member with this status hinders nobody
abbrev pub is_passed_over : Status → Bool
is_passed_over Joining = false
is_passed_over WeaklyUp = false
is_passed_over Up = false
is_passed_over Leaving = false
is_passed_over Exiting = true
is_passed_over Down = true

-- a member agrees: it has seen the view where it counts, and where it is unreachable it is passed over
abbrev pub agrees : UniqueSet → UniqueSet → UniqueModel × (Status × ℕ) → Bool
agrees lost seen (who, (status, number)) = (not (counts status) || has seen who) && (not (has lost who) || is_passed_over status)

-- every member agrees
abbrev pub is_converged : View → UniqueSet → Bool
is_converged v seen = list_all (agrees (unreachable_members v) seen) (members_of v.standings)

-- a converged view with at least so many addresses of counted members that have the role
abbrev pub is_settled : ℕ → List AddressModel → View → UniqueSet → Bool
is_settled quorum role v seen = is_converged v seen && nat_le quorum (distinct (role_addresses role v.standings))

-- a member on its way out
abbrev pub IsOut : Standings → UniqueModel → Type 0
IsOut s who = (status : Status) × (number : ℕ) × (member_of (map.get s who) ≡ Some (status, number)) × ((status ≡ Exiting) ⊎ (status ≡ Down))

-- every counted member has seen the view, and every unreachable one is on its way out
pub record IsConverged (v : View) (seen : UniqueSet) : Type 0 where
  pub counted_seen : (who : UniqueModel) (number : ℕ) → IsCounted v.standings who number → IsTrue (has seen who)
  pub unreachable_out : (who : UniqueModel) → IsUnreachable v who → IsOut v.standings who
