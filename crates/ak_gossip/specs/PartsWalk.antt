-- Tests of parts, and what is made of them, as the calls walk a list of parts.
use Rattle.std.specs.Prelude.{ℕ, ◌+◌, ◌==◌, nat_le, nat_lt, Bool, true, false, ◌&&◌, List, [], ◌∷◌, ◌++◌, Option, None, Some, option_to_list, if◌then◌else◌}
use Rattle.std.specs.Ordering.{is_lt}
use Rattle.std.specs.Prelude.{slice_get}
use Rattle.std.specs.FinMap as table
use Rattle.std.specs.Result.{result_ok}
use Rattle.ak_address.specs.Pairs.{index}
use Rattle.ak_address.specs.Unique.{UniqueModel, unique_cmp}
use Rattle.ak_address.specs.Uniques.{UniqueSet, no_one, with_one}
use Rattle.ak_clock.specs.Version.{Counts, reaching}
use Rattle.ak_member.specs.declared.standing.Standing.{Standing}
use Rattle.ak_member.specs.declared.standing.Standing.TheVariants.{Member, Buried}
use Rattle.ak_member.specs.declared.status.Status.TheVariants.{Joining, WeaklyUp, Up, Leaving, Exiting, Down}
use Rattle.ak_member.specs.Standing.{Standings, known}
use Rattle.ak_member.specs.View.{RowTable}
use Rattle.ak_reach.specs.Reach.{with_row}
use Rattle.ak_gossip.specs.declared.part.Part.{Part}

-- the standing of this state, with this number where it is a member's; none where no standing has the state
abbrev pub standing_of : ℕ → ℕ → Option Standing
standing_of state number =
    if state == 1 then Some (Member Joining number)
    else (if state == 2 then Some (Member Up number)
    else (if state == 3 then Some (Member Leaving number)
    else (if state == 4 then Some (Member Exiting number)
    else (if state == 5 then Some (Member Down number)
    else (if state == 6 then Some (Buried false)
    else (if state == 7 then Some (Buried true)
    else (if state == 8 then Some (Member WeaklyUp number)
    else None)))))))

-- the indices ascend from the least on, below the end
abbrev pub ascend_from : ℕ → ℕ → List ℕ → Bool
ascend_from least end [] = true
ascend_from least end (index ∷ rest) = nat_le least index && (nat_lt index end && ascend_from (index + 1) end rest)

-- the process is above the last one, where there is one
abbrev pub is_above : Option UniqueModel → UniqueModel → Bool
is_above None who = true
is_above (Some last) who = is_lt (unique_cmp last who)

-- the processes of the parts ascend, all above the last one
abbrev pub ascend_after : Option UniqueModel → List Part → Bool
ascend_after last [] = true
ascend_after last (part ∷ rest) = is_above last part.unique && ascend_after (Some part.unique) rest

-- the index of a process among all that are known; none where it is not known
abbrev pub index_among : Standings → UniqueModel → Option ℕ
index_among everybody who = result_ok (index unique_cmp who (table.entries everybody))

-- the indices of those in a list that are known
abbrev pub indices_among : Standings → List UniqueModel → List ℕ
indices_among everybody [] = []
indices_among everybody (who ∷ rest) = option_to_list (index_among everybody who) ++ indices_among everybody rest

-- at least so many entries of each process as its part counts
abbrev pub with_counts : Counts → List Part → Counts
with_counts v [] = v
with_counts v (part ∷ rest) = with_counts (reaching v part.unique part.count) rest

-- the standing of a process, where there is one, merged with what is known
abbrev pub with_known : Standings → UniqueModel → Option Standing → Standings
with_known s who None = s
with_known s who (Some standing) = known s who standing

abbrev pub with_standings : Standings → List Part → Standings
with_standings s [] = s
with_standings s (part ∷ rest) = with_standings (with_known s part.unique (standing_of part.state part.up_number)) rest

abbrev pub with_seen : UniqueSet → List Part → UniqueSet
with_seen seen [] = seen
with_seen seen (part ∷ rest) = with_seen (if part.seen then with_one seen part.unique else seen) rest

-- the process of a part, where there is one, is added
abbrev pub with_process : UniqueSet → Option Part → UniqueSet
with_process set None = set
with_process set (Some part) = with_one set part.unique

-- the processes of the parts at these indices are added
abbrev pub with_indices : List Part → UniqueSet → List ℕ → UniqueSet
with_indices parts set [] = set
with_indices parts set (index ∷ rest) = with_indices parts (with_process set (slice_get parts index)) rest

-- the row of a part, where it has one, among these parts
abbrev pub with_part_row : List Part → RowTable → Part → RowTable
with_part_row parts rows part =
    if part.row_number == 0 then rows
    else with_row rows part.unique (record { number = part.row_number; subjects = with_indices parts no_one part.subjects })

abbrev pub with_part_rows : List Part → RowTable → List Part → RowTable
with_part_rows parts rows [] = rows
with_part_rows parts rows (part ∷ rest) = with_part_rows parts (with_part_row parts rows part) rest
