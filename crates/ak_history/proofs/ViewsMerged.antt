-- What the merge of two versions shows is the merge of what both show, and what a version shows does not depend on later
-- entries.
use Rattle.std.proofs.Common.{◌≡◌, ◌≢◌, ℕ, ◌+◌, ◌≤◌, ◌<◌, leb, Bool, true, false, ◌||◌, if◌then◌else◌, inl, inr, List, [], ◌∷◌, ◌++◌, Option, None, Some, refl, sym, ap, ◌∙◌, subst, arith}
use Rattle.std.proofs.lemmas.Bool.{lt-ltb, le-ltb}
use Rattle.std.specs.FinMap as map
use Rattle.ak_address.specs.Unique.{UniqueModel}
use Rattle.ak_address.specs.Table.{merged_at}
use Rattle.ak_address.specs.Uniques.{UniqueSet}
use Rattle.ak_address.proofs.TableLaws.{same_table, same_or_apart, get-merged_tables}
use Rattle.ak_clock.specs.Version.{Counts, count, Covers, merged, bumped}
use Rattle.ak_clock.proofs.VersionLaws.{count-merged}
use Rattle.ak_member.specs.declared.effect.Effect.{Effect}
use Rattle.ak_member.specs.Standing.{Standings, merged_standings}
use Rattle.ak_member.specs.View.{Row, RowTable, View, later_row, merged_rows, merged_views, empty_view, after_effects, after_observed, observed, after_entry}
use Rattle.ak_member.proofs.StandingLaws.{row_idempotent}
use Rattle.ak_member.proofs.ViewLaws.{standings_commutative, views_idempotent, effects_merge_one, effects_merge_both}
use Rattle.ak_history.specs.declared.entry.Entry.{Entry}
use Rattle.ak_history.specs.History.{entries_of, IsNumbered, IsBounded, is_covered, view}
use Rattle.ak_history.proofs.HistoryLemmas.{covered-merged, Agree, agree_rest, agree_first, later_uncovered, bounded-prefix, bumped-agree, bumped_covered}
use Rattle.ak_history.proofs.RowsShown.{get-observed_here, get-observed_elsewhere, rows-counted}

-- ---- the author's newest row
-- each row of the author that is there is below a number
pub record IsBelow (author : UniqueModel) (number : ℕ) (rows : RowTable) : Type 0 where
  pub each : (row : Row) → map.get rows author ≡ Some row → row.number < number

newer_first : (number : ℕ) (subjects : UniqueSet) (o : Option Row) → ((row : Row) → o ≡ Some row → row.number < number)
    → merged_at later_row (Some (record { number = number; subjects = subjects })) o ≡ Some (record { number = number; subjects = subjects })
newer_first number subjects None below = refl
newer_first number subjects (Some row) below =
    let lt = below row refl in
    ap (λ b. Some (if b then row else record { number = number; subjects = subjects })) (le-ltb number row.number (omega arith))

newer_second : (number : ℕ) (subjects : UniqueSet) (o : Option Row) → ((row : Row) → o ≡ Some row → row.number < number)
    → merged_at later_row o (Some (record { number = number; subjects = subjects })) ≡ Some (record { number = number; subjects = subjects })
newer_second number subjects None below = refl
newer_second number subjects (Some row) below =
    let lt = below row refl in
    ap (λ b. Some (if b then record { number = number; subjects = subjects } else row)) (lt-ltb row.number number lt)

module _ (author : UniqueModel) (number : ℕ) where
  -- rows after the author's entry are a merge, if they are one there and at every other observer
  by_observer : (subjects : UniqueSet) (rows others left right : RowTable)
      → merged_at later_row (map.get left author) (map.get right author) ≡ Some (record { number = number; subjects = subjects })
      → ((q : UniqueModel) → q ≢ author → map.get left q ≡ map.get rows q) → ((q : UniqueModel) → q ≢ author → map.get right q ≡ map.get others q)
      → after_observed author number (Some subjects) (merged_rows rows others) ≡ merged_rows left right
  by_observer subjects rows others left right here one other = same_table _ _ (λ q. elim (same_or_apart q author) [
    | inl same ↦
        subst (λ u. map.get (after_observed author number (Some subjects) (merged_rows rows others)) u ≡ map.get (merged_rows left right) u) (sym same)
        (get-observed_here author number subjects (merged_rows rows others) ∙ sym here ∙ sym (get-merged_tables later_row left right author))
    | inr apart ↦
        get-observed_elsewhere author number (Some subjects) (merged_rows rows others) q apart
        ∙ get-merged_tables later_row rows others q
        ∙ (λ i. merged_at later_row (sym (one q apart) i) (sym (other q apart) i))
        ∙ sym (get-merged_tables later_row left right q)
  ])

  pub observed_merges_both : (o : Option UniqueSet) (rows others : RowTable) → after_observed author number o (merged_rows rows others) ≡ merged_rows (after_observed author number o rows) (after_observed author number o others)
  observed_merges_both None rows others = refl
  observed_merges_both (Some subjects) rows others =
      let row : Row = record { number = number; subjects = subjects } in
      by_observer subjects rows others (after_observed author number (Some subjects) rows) (after_observed author number (Some subjects) others)
      ((λ i. merged_at later_row (get-observed_here author number subjects rows i) (get-observed_here author number subjects others i)) ∙ ap Some (row_idempotent row))
      (get-observed_elsewhere author number (Some subjects) rows) (get-observed_elsewhere author number (Some subjects) others)

  pub observed_merges_first : (o : Option UniqueSet) (rows others : RowTable) → IsBelow author number others → after_observed author number o (merged_rows rows others) ≡ merged_rows (after_observed author number o rows) others
  observed_merges_first None rows others below = refl
  observed_merges_first (Some subjects) rows others below =
      by_observer subjects rows others (after_observed author number (Some subjects) rows) others
      (ap (λ a. merged_at later_row a (map.get others author)) (get-observed_here author number subjects rows) ∙ newer_first number subjects (map.get others author) below.each)
      (get-observed_elsewhere author number (Some subjects) rows) (λ q apart. refl)

  pub observed_merges_second : (o : Option UniqueSet) (rows others : RowTable) → IsBelow author number rows → after_observed author number o (merged_rows rows others) ≡ merged_rows rows (after_observed author number o others)
  observed_merges_second None rows others below = refl
  observed_merges_second (Some subjects) rows others below =
      by_observer subjects rows others rows (after_observed author number (Some subjects) others)
      (ap (merged_at later_row (map.get rows author)) (get-observed_here author number subjects others) ∙ newer_second number subjects (map.get rows author) below.each)
      (λ q apart. refl) (get-observed_elsewhere author number (Some subjects) others)

  -- ---- an entry of the author
  pub entry_merges_both : (effects : List Effect) (u t : View) → after_entry author number effects (merged_views u t) ≡ merged_views (after_entry author number effects u) (after_entry author number effects t)
  entry_merges_both effects u t = λ i. record {
    standings = effects_merge_both effects u.standings t.standings i;
    rows = observed_merges_both (observed effects) u.rows t.rows i;
  }

  pub entry_merges_first : (effects : List Effect) (u t : View) → IsBelow author number t.rows → after_entry author number effects (merged_views u t) ≡ merged_views (after_entry author number effects u) t
  entry_merges_first effects u t below = λ i. record {
    standings = effects_merge_one effects u.standings t.standings i;
    rows = observed_merges_first (observed effects) u.rows t.rows below i;
  }

  effects_merge_second : (effects : List Effect) (s t : Standings) → after_effects effects (merged_standings s t) ≡ merged_standings s (after_effects effects t)
  effects_merge_second effects s t =
      ap (after_effects effects) (standings_commutative s t) ∙ effects_merge_one effects t s ∙ standings_commutative (after_effects effects t) s

  pub entry_merges_second : (effects : List Effect) (u t : View) → IsBelow author number u.rows → after_entry author number effects (merged_views u t) ≡ merged_views u (after_entry author number effects t)
  entry_merges_second effects u t below = λ i. record {
    standings = effects_merge_second effects u.standings t.standings i;
    rows = observed_merges_second (observed effects) u.rows t.rows below i;
  }

-- ---- a merge shows what both show
pub rows_below : (e : Entry) (history : List Entry) (v : Counts) → IsNumbered (e ∷ history) → IsBelow e.author e.number (view history v).rows
rows_below e history v numbered = record {
  each = λ row is.
      let counted = rows-counted history v e.author row numbered.1 is in
      let most : row.number ≤ entries_of e.author history = counted.2 in
      let number : e.number ≡ entries_of e.author history + 1 = numbered.0 in
      omega arith;
}

-- what an entry adds where it is covered
abbrev added : Bool → Entry → View → View
added b e u = if b then after_entry e.author e.number e.effects u else u

added_merges : (a b : Bool) (e : Entry) (u t : View) → IsBelow e.author e.number u.rows → IsBelow e.author e.number t.rows → merged_views (added a e u) (added b e t) ≡ added (a || b) e (merged_views u t)
added_merges true true e u t first second = sym (entry_merges_both e.author e.number e.effects u t)
added_merges true false e u t first second = sym (entry_merges_first e.author e.number e.effects u t second)
added_merges false true e u t first second = sym (entry_merges_second e.author e.number e.effects u t first)
added_merges false false e u t first second = refl

pub view-merged : (history : List Entry) (v w : Counts) → IsNumbered history → merged_views (view history v) (view history w) ≡ view history (merged v w)
view-merged [] v w numbered = views_idempotent empty_view
view-merged (e ∷ history) v w numbered =
    added_merges (is_covered v e) (is_covered w e) e (view history v) (view history w) (rows_below e history v numbered) (rows_below e history w numbered)
    ∙ ap (added (is_covered v e || is_covered w e) e) (view-merged history v w numbered.1)
    ∙ ap (λ b. added b e (view history (merged v w))) (sym (covered-merged v w e))

-- ---- versions that cover the same entries show the same
pub view-agree : (history : List Entry) (v w : Counts) → IsNumbered history → Agree history v w → view history v ≡ view history w
view-agree [] v w numbered agree = refl
view-agree (e ∷ history) v w numbered agree =
    ap (λ b. added b e (view history v)) (agree_first e history v w numbered agree)
    ∙ ap (added (is_covered w e) e) (view-agree history v w numbered.1 (agree_rest e history v w agree))

pub view-counts : (history : List Entry) (v w : Counts) → ((u : UniqueModel) → count v u ≡ count w u) → view history v ≡ view history w
view-counts [] v w same = refl
view-counts (e ∷ history) v w same =
    ap (λ k. added (leb e.number k) e (view history v)) (same e.author)
    ∙ ap (added (is_covered w e) e) (view-counts history v w same)

-- what is covered adds nothing
pub view-covered : (history : List Entry) (v w : Counts) → IsNumbered history → Covers w v → merged_views (view history v) (view history w) ≡ view history w
view-covered history v w numbered covers =
    view-merged history v w numbered
    ∙ view-counts history (merged v w) w (λ u.
    let less : count v u ≤ count w u = covers u in
    let is = count-merged v w u in
    omega arith)

-- ---- a later entry changes nothing for a version that the history bounds
pub view-later : (e : Entry) (history : List Entry) (v : Counts) → IsNumbered (e ∷ history) → IsBounded history v → view (e ∷ history) v ≡ view history v
view-later e history v numbered bounded = ap (λ b. added b e (view history v)) (later_uncovered e history v numbered bounded)

pub view-prefix : (more history : List Entry) (v : Counts) → IsNumbered (more ++ history) → IsBounded history v → view (more ++ history) v ≡ view history v
view-prefix [] history v numbered bounded = refl
view-prefix (e ∷ more) history v numbered bounded =
    view-later e (more ++ history) v numbered (bounded-prefix more history v bounded) ∙ view-prefix more history v numbered.1 bounded

-- ---- an update adds what its entry says
pub view-update : (e : Entry) (history : List Entry) (v : Counts) → IsNumbered (e ∷ history) → count v e.author ≡ entries_of e.author history
    → view (e ∷ history) (bumped v e.author) ≡ after_entry e.author e.number e.effects (view history v)
view-update e history v numbered own =
    ap (λ b. added b e (view history (bumped v e.author))) (bumped_covered e history v numbered own)
    ∙ ap (after_entry e.author e.number e.effects) (view-agree history (bumped v e.author) v numbered.1 (bumped-agree e.author history v own))
