-- What tables that take in parts one after another have at the process of each part, and at every other process.
use Rattle.std.proofs.Common.{◌≡◌, ◌≢◌, ℕ, zero, suc, ◌+◌, ◌≤◌, max, nat_eq, Bool, true, false, ◌||◌, if◌then◌else◌, List, [], ◌∷◌, length, slice_get, Option, Some, None, refl, sym, ap, ◌∙◌, subst, arith, true≢false}
use Rattle.std.proofs.lemmas.Option.{same_Some}
use Rattle.std.specs.FinMap as map
use Rattle.std.specs.declared.cmp.Ordering.TheVariants.{Less}
use Rattle.std.specs.Ordering.{is_lt}
use Rattle.std.specs.Cmp.{tied_itself}
use Rattle.ak_address.specs.Unique.{UniqueModel, unique_cmp}
use Rattle.ak_address.specs.Uniques.{UniqueSet, no_one, has, with_one}
use Rattle.ak_address.specs.Table.{value_with}
use Rattle.ak_address.proofs.OrderLemmas.{unique_total}
use Rattle.ak_address.proofs.TableLaws.{key_itself, other_key, get-empty, get-insert_here, get-insert_elsewhere}
use Rattle.ak_address.proofs.UniquesLaws.{has-no_one, has-with_one}
use Rattle.ak_address.proofs.BoolLemmas.{none_there}
use Rattle.ak_clock.specs.Version.{Counts, count, reaching}
use Rattle.ak_clock.proofs.VersionLaws.{count-empty, count-reaching_there, count-reaching_others}
use Rattle.ak_member.specs.declared.standing.Standing.{Standing}
use Rattle.ak_member.specs.Standing.{Standings, nobody, merged_standing}
use Rattle.ak_member.specs.View.{Row, RowTable, later_row}
use Rattle.ak_member.proofs.ViewLaws.{get-known_here, get-known_elsewhere}
use Rattle.ak_reach.specs.Reach.{with_row}
use Rattle.ak_gossip.specs.declared.part.Part.{Part}
use Rattle.ak_gossip.specs.PartsWalk.{standing_of, with_counts, with_known, with_standings, with_seen, with_indices, with_part_row, with_part_rows}
use Rattle.ak_gossip.proofs.PartsOrder.{Ascend, ascend_rest}
use Rattle.ak_gossip.proofs.SeenLemmas.{len-insert-most}

-- what is below is another
pub below_is_other : (q k : UniqueModel) → unique_cmp q k ≡ Less → q ≢ k
below_is_other q k less same = true≢false (ap is_lt (sym less ∙ ap (unique_cmp q) (sym same) ∙ tied_itself unique_total q))

-- ---- any table
module _ {S V : Type 0} (step : S → Part → S) (at : S → UniqueModel → V) (apart : (s : S) (part : Part) (q : UniqueModel) → q ≢ part.unique → at (step s part) q ≡ at s q) where
  abbrev pub all_steps : S → List Part → S
  all_steps s [] = s
  all_steps s (part ∷ rest) = all_steps (step s part) rest

  pub steps_elsewhere : (s : S) (parts : List Part) (q : UniqueModel) → ((i : ℕ) (part : Part) → slice_get parts i ≡ Some part → q ≢ part.unique) → at (all_steps s parts) q ≡ at s q
  steps_elsewhere s [] q none = refl
  steps_elsewhere s (x ∷ parts) q none = steps_elsewhere (step s x) parts q (λ i part is. none (suc i) part is) ∙ apart s x q (none 0 x refl)

  -- the table before the step of a part
  pub record Stepped (start whole : S) (part : Part) : Type 0 where
    pub before : S
    pub untouched : at before part.unique ≡ at start part.unique
    pub made : at whole part.unique ≡ at (step before part) part.unique

  pub steps_here : (s : S) (parts : List Part) → Ascend parts → (i : ℕ) (part : Part) → slice_get parts i ≡ Some part → Stepped s (all_steps s parts) part
  steps_here s [] a i part is = absurd (none_there part is)
  steps_here s (x ∷ parts) a zero part is =
      subst (Stepped s (all_steps s (x ∷ parts))) (same_Some x part is) (record {
        before = s;
        untouched = refl;
        made = steps_elsewhere (step s x) parts x.unique (λ i later at. below_is_other x.unique later.unique (a 0 (suc i) x later (omega arith) refl at));
      })
  steps_here s (x ∷ parts) a (suc i) part is =
      let rest : Stepped (step s x) (all_steps (step s x) parts) part = steps_here (step s x) parts (ascend_rest x parts a) i part is in
      let other : part.unique ≢ x.unique = λ same. below_is_other x.unique part.unique (a 0 (suc i) x part (omega arith) refl is) (sym same) in
      record { before = rest.before; untouched = rest.untouched ∙ apart s x part.unique other; made = rest.made }

-- ---- counts
abbrev counting : Counts → Part → Counts
counting v part = reaching v part.unique part.count

counting_apart : (v : Counts) (part : Part) (q : UniqueModel) → q ≢ part.unique → count (counting v part) q ≡ count v q
counting_apart v part q apart = count-reaching_others v part.unique q part.count apart

counts_are_steps : (v : Counts) (parts : List Part) → with_counts v parts ≡ all_steps counting count counting_apart v parts
counts_are_steps v [] = refl
counts_are_steps v (x ∷ parts) = counts_are_steps (counting v x) parts

pub count_of_part : (parts : List Part) → Ascend parts → (i : ℕ) (part : Part) → slice_get parts i ≡ Some part → count (with_counts map.empty parts) part.unique ≡ part.count
count_of_part parts a i part is =
    let there = steps_here counting count counting_apart map.empty parts a i part is in
    let e = count-reaching_there there.before part.unique part.count in
    let nothing : count there.before part.unique ≡ 0 = there.untouched ∙ count-empty part.unique in
    ap (λ v. count v part.unique) (counts_are_steps map.empty parts) ∙ there.made ∙ e ∙ ap (max part.count) nothing ∙ omega arith

pub count_of_other : (parts : List Part) (q : UniqueModel) → ((i : ℕ) (part : Part) → slice_get parts i ≡ Some part → q ≢ part.unique) → count (with_counts map.empty parts) q ≡ 0
count_of_other parts q none = ap (λ v. count v q) (counts_are_steps map.empty parts) ∙ steps_elsewhere counting count counting_apart map.empty parts q none ∙ count-empty q

-- ---- standings
abbrev standing_step : Standings → Part → Standings
standing_step s part = with_known s part.unique (standing_of part.state part.up_number)

known_apart : (s : Standings) (who q : UniqueModel) (o : Option Standing) → q ≢ who → map.get (with_known s who o) q ≡ map.get s q
known_apart s who q None apart = refl
known_apart s who q (Some x) apart = get-known_elsewhere s who q x apart

known_here : (s : Standings) (who : UniqueModel) (o : Option Standing) → map.get s who ≡ None → map.get (with_known s who o) who ≡ o
known_here s who None none = none
known_here s who (Some x) none = get-known_here s who x ∙ ap (λ a. Some (value_with merged_standing a x)) none

standing_apart : (s : Standings) (part : Part) (q : UniqueModel) → q ≢ part.unique → map.get (standing_step s part) q ≡ map.get s q
standing_apart s part q apart = known_apart s part.unique q (standing_of part.state part.up_number) apart

standings_are_steps : (s : Standings) (parts : List Part) → with_standings s parts ≡ all_steps standing_step map.get standing_apart s parts
standings_are_steps s [] = refl
standings_are_steps s (x ∷ parts) = standings_are_steps (standing_step s x) parts

pub standing_of_part : (parts : List Part) → Ascend parts → (i : ℕ) (part : Part) → slice_get parts i ≡ Some part → map.get (with_standings nobody parts) part.unique ≡ standing_of part.state part.up_number
standing_of_part parts a i part is =
    let there = steps_here standing_step map.get standing_apart nobody parts a i part is in
    ap (λ s. map.get s part.unique) (standings_are_steps nobody parts) ∙ there.made
    ∙ known_here there.before part.unique (standing_of part.state part.up_number) (there.untouched ∙ get-empty part.unique)

pub standing_of_other : (parts : List Part) (q : UniqueModel) → ((i : ℕ) (part : Part) → slice_get parts i ≡ Some part → q ≢ part.unique) → map.get (with_standings nobody parts) q ≡ None
standing_of_other parts q none = ap (λ s. map.get s q) (standings_are_steps nobody parts) ∙ steps_elsewhere standing_step map.get standing_apart nobody parts q none ∙ get-empty q

len-with_known : (s : Standings) (who : UniqueModel) (o : Option Standing) → map.len (with_known s who o) ≤ map.len s + 1
len-with_known s who None = omega arith
len-with_known s who (Some x) = len-insert-most s who (value_with merged_standing (map.get s who) x)

len-with_standings : (s : Standings) (parts : List Part) → map.len (with_standings s parts) ≤ map.len s + length parts
len-with_standings s [] = omega arith
len-with_standings s (x ∷ parts) =
    let rest = len-with_standings (standing_step s x) parts in
    let one = len-with_known s x.unique (standing_of x.state x.up_number) in
    omega arith

pub few_standings : (parts : List Part) → map.len (with_standings nobody parts) ≤ length parts
few_standings parts = omega (arith, len-with_standings nobody parts, map.len-empty unique_cmp Standing)

-- ---- those that have seen it
abbrev seen_step : UniqueSet → Part → UniqueSet
seen_step seen part = if part.seen then with_one seen part.unique else seen

one_apart : (b : Bool) (seen : UniqueSet) (who q : UniqueModel) → q ≢ who → has (if b then with_one seen who else seen) q ≡ has seen q
one_apart true seen who q apart = has-with_one seen who q ∙ ap (λ b. b || has seen q) (other_key q who apart)
one_apart false seen who q apart = refl

one_here : (b : Bool) (seen : UniqueSet) (who : UniqueModel) → has seen who ≡ false → has (if b then with_one seen who else seen) who ≡ b
one_here true seen who none = has-with_one seen who who ∙ ap (λ b. b || has seen who) (key_itself who)
one_here false seen who none = none

seen_apart : (seen : UniqueSet) (part : Part) (q : UniqueModel) → q ≢ part.unique → has (seen_step seen part) q ≡ has seen q
seen_apart seen part q apart = one_apart part.seen seen part.unique q apart

seen_are_steps : (seen : UniqueSet) (parts : List Part) → with_seen seen parts ≡ all_steps seen_step has seen_apart seen parts
seen_are_steps seen [] = refl
seen_are_steps seen (x ∷ parts) = seen_are_steps (seen_step seen x) parts

pub seen_of_part : (parts : List Part) → Ascend parts → (i : ℕ) (part : Part) → slice_get parts i ≡ Some part → has (with_seen no_one parts) part.unique ≡ part.seen
seen_of_part parts a i part is =
    let there = steps_here seen_step has seen_apart no_one parts a i part is in
    ap (λ s. has s part.unique) (seen_are_steps no_one parts) ∙ there.made
    ∙ one_here part.seen there.before part.unique (there.untouched ∙ has-no_one part.unique)

pub seen_of_other : (parts : List Part) (q : UniqueModel) → ((i : ℕ) (part : Part) → slice_get parts i ≡ Some part → q ≢ part.unique) → has (with_seen no_one parts) q ≡ false
seen_of_other parts q none = ap (λ s. has s q) (seen_are_steps no_one parts) ∙ steps_elsewhere seen_step has seen_apart no_one parts q none ∙ has-no_one q

-- ---- rows
-- the row of a part among these parts, where it has one
abbrev pub row_in : List Part → Part → Option Row
row_in parts part = if nat_eq part.row_number 0 then None else Some (record { number = part.row_number; subjects = with_indices parts no_one part.subjects })

row_put : (b : Bool) (rows : RowTable) (who : UniqueModel) (row : Row) → map.get rows who ≡ None → map.get (if b then rows else with_row rows who row) who ≡ (if b then None else Some row)
row_put true rows who row none = none
row_put false rows who row none = get-insert_here rows who (value_with later_row (map.get rows who) row) ∙ ap (λ a. Some (value_with later_row a row)) none

row_kept : (b : Bool) (rows : RowTable) (who q : UniqueModel) (row : Row) → q ≢ who → map.get (if b then rows else with_row rows who row) q ≡ map.get rows q
row_kept true rows who q row apart = refl
row_kept false rows who q row apart = get-insert_elsewhere rows who (value_with later_row (map.get rows who) row) q apart

module _ (all : List Part) where
  row_apart : (rows : RowTable) (part : Part) (q : UniqueModel) → q ≢ part.unique → map.get (with_part_row all rows part) q ≡ map.get rows q
  row_apart rows part q apart = row_kept (nat_eq part.row_number 0) rows part.unique q (record { number = part.row_number; subjects = with_indices all no_one part.subjects }) apart

  rows_are_steps : (rows : RowTable) (parts : List Part) → with_part_rows all rows parts ≡ all_steps (with_part_row all) map.get row_apart rows parts
  rows_are_steps rows [] = refl
  rows_are_steps rows (x ∷ parts) = rows_are_steps (with_part_row all rows x) parts

  pub row_of_part : (parts : List Part) → Ascend parts → (i : ℕ) (part : Part) → slice_get parts i ≡ Some part → map.get (with_part_rows all map.empty parts) part.unique ≡ row_in all part
  row_of_part parts a i part is =
      let there = steps_here (with_part_row all) map.get row_apart map.empty parts a i part is in
      ap (λ r. map.get r part.unique) (rows_are_steps map.empty parts) ∙ there.made
      ∙ row_put (nat_eq part.row_number 0) there.before part.unique (record { number = part.row_number; subjects = with_indices all no_one part.subjects }) (there.untouched ∙ get-empty part.unique)

  pub row_of_other : (parts : List Part) (q : UniqueModel) → ((i : ℕ) (part : Part) → slice_get parts i ≡ Some part → q ≢ part.unique) → map.get (with_part_rows all map.empty parts) q ≡ None
  row_of_other parts q none = ap (λ r. map.get r q) (rows_are_steps map.empty parts) ∙ steps_elsewhere (with_part_row all) map.get row_apart map.empty parts q none ∙ get-empty q
