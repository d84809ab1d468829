-- What happened to a cluster, and what a version shows of it (Akka's Cluster Specification, "Gossip": a vector clock
-- says which updates a view has seen).
use Rattle.std.specs.Prelude.{◌≡◌, ℕ, ◌+◌, ◌≤◌, Bool, nat_le, List, [], ◌∷◌, if◌then◌else◌}
use Rattle.std.specs.Ordering.{is_eq}
use Rattle.ak_address.specs.Unique.{UniqueModel, unique_cmp}
use Rattle.ak_clock.specs.Version.{Counts, count}
use Rattle.ak_member.specs.View.{View, empty_view, after_entry}
use Rattle.ak_history.specs.declared.entry.Entry.{Entry}

-- A history has its newest entry first. Each entry has its author's next number.
abbrev pub entries_of : UniqueModel → List Entry → ℕ
entries_of author [] = 0
entries_of author (e ∷ history) =
    if is_eq (unique_cmp author e.author) then entries_of author history + 1 else entries_of author history

abbrev pub IsNumbered : List Entry → Type 0
IsNumbered [] = Unit {0}
IsNumbered (e ∷ history) = (e.number ≡ entries_of e.author history + 1) × IsNumbered history

-- a version covers an entry whose number is at most what it counts of the author
abbrev pub is_covered : Counts → Entry → Bool
is_covered version e = nat_le e.number (count version e.author)

-- what a version shows of a history: what the covered entries did, in their order
abbrev pub view : List Entry → Counts → View
view [] version = empty_view
view (e ∷ history) version =
    if is_covered version e then after_entry e.author e.number e.effects (view history version) else view history version

-- a version counts no more entries of any author than a history has
abbrev pub IsBounded : List Entry → Counts → Type 0
IsBounded history version = (u : UniqueModel) → count version u ≤ entries_of u history
