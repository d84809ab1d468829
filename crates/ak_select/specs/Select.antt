-- To whom a node gossips (Akka's Cluster Specification, "Gossip": to one that has not seen the current version, where there
-- is one; the word that chooses is this project's).
use Rattle.std.specs.Prelude.{◌≢◌, ℕ, ◌%◌, Bool, not, ◌&&◌, IsTrue, List, [], ◌∷◌, length, map, slice_get, Option}
use Rattle.std.specs.List.{filter}
use Rattle.std.specs.Ordering.{is_eq}
use Rattle.ak_address.specs.Unique.{UniqueModel, unique_cmp}
use Rattle.ak_address.specs.Uniques.{UniqueSet, has}
use Rattle.ak_member.specs.declared.status.Status.{Status}
use Rattle.ak_member.specs.Standing.{is_member, members_of}
use Rattle.ak_member.specs.View.{View}
use Rattle.ak_reach.specs.Unreachable.{unreachable_members, IsUnreachable}

-- a process is another one, and reachable
abbrev pub is_reachable_other : View → UniqueModel → UniqueModel → Bool
is_reachable_other v me who = not (is_eq (unique_cmp who me)) && not (has (unreachable_members v) who)

-- the other reachable members, in the order of processes
abbrev pub reachable_others : View → UniqueModel → List UniqueModel
reachable_others v me = filter (is_reachable_other v me) (map (λ (pair : UniqueModel × (Status × ℕ)). pair.0) (members_of v.standings))

-- the first of two lists, unless it is empty
abbrev pub unless_empty : List UniqueModel → List UniqueModel → List UniqueModel
unless_empty [] second = second
unless_empty (who ∷ first) second = who ∷ first

-- those of them that have not seen the view, or all, where each has
abbrev pub candidates : View → UniqueSet → UniqueModel → List UniqueModel
candidates v seen me = unless_empty (filter (λ who. not (has seen who)) (reachable_others v me)) (reachable_others v me)

-- the one that the word chooses
abbrev pub chosen : ℕ → List UniqueModel → Option UniqueModel
chosen word xs = slice_get xs (word % length xs)

abbrev pub peer : ℕ → View → UniqueSet → UniqueModel → Option UniqueModel
peer word v seen me = chosen word (candidates v seen me)

-- a process is another reachable member
pub record IsReachableOther (v : View) (me who : UniqueModel) : Type 0 where
  pub member : IsTrue (is_member v.standings who)
  pub other : who ≢ me
  pub reachable : ¬ IsUnreachable v who
