-- How the marked counters of a settled view are seen, and walks that make them.
use Rattle.std.proofs.Common.{◌≡◌, ℕ, ◌+◌, ◌==◌, min, Bool, true, false, not, cond, List, [], ◌∷◌, map, Option, Some, None, unwrap_or, option_map, refl, sym, ap, ◌∙◌, true≢false}
use Rattle.std.specs.List.{fold, filter}
use Rattle.std.specs.FinMap as finmap
use Rattle.ak_address.specs.Unique.{UniqueModel}
use Rattle.ak_address.specs.Uniques.{set_of}
use Rattle.ak_address.specs.Changed.{changed}
use Rattle.ak_address.specs.Counters.{Counters, counter, raised, with_each}
use Rattle.ak_address.proofs.TableLaws.{same_table, get-empty, entries-empty}
use Rattle.ak_address.proofs.ChangedLaws.{rows_changed, entries-changed, get-changed, changed-empty, changed-insert, changed-changed}
use Rattle.ak_address.proofs.CountersLaws.{each_walked}
use Rattle.ak_clock.specs.Version.{Counts}
use Rattle.ak_member.specs.declared.standing.Standing.{Standing}
use Rattle.ak_member.specs.Standing.{Standings, nobody, tombstone_of, tombstone_pairs, member_pairs}
use Rattle.ak_member.specs.Age.{oldest, least_pair, counted_pairs}
use Rattle.ak_member.proofs.MemberLemmas.{KeepsPairs, keeps_tombstones}
use Rattle.ak_member.proofs.Folds.{keeps_all, keeps_filtered, keeps_mapped}
use Rattle.ak_settled.specs.declared.ticks.Ticks.{Ticks}
use Rattle.ak_settled.specs.Settled.{version_of, standings_of, counters_of, unconfirmed_pairs, is_over, is_finished, is_needed_as, needed_pairs, needed, candidate, after_note, after_tick}
use Rattle.ak_settled.specs.Ticks.{MarkedCounters, counts_of, unmarked, after_one, marked_pairs, marked, with_unmarked, view_of, IsKept, settled_of}

-- ---- what a walk keeps of each pair
pub keeps_marked : KeepsPairs marked_pairs
keeps_marked = keeps_mapped (filter (λ (e : UniqueModel × Ticks). e.1.has_just_ended)) (keeps_filtered (λ xs. xs) keeps_all (λ e. e.1.has_just_ended)) (λ e. e.0)

pub keeps_unconfirmed : KeepsPairs unconfirmed_pairs
keeps_unconfirmed = keeps_mapped (λ pairs. filter (λ (pair : UniqueModel × Bool). not pair.1) (tombstone_pairs pairs)) (keeps_filtered tombstone_pairs keeps_tombstones (λ pair. not pair.1)) (λ pair. pair.0)

pub keeps_needed : (margin : ℕ) (counters : Counters) → KeepsPairs (needed_pairs margin counters)
keeps_needed margin counters =
    keeps_mapped (filter (λ (e : UniqueModel × Standing). is_needed_as margin (counter counters e.0) e.1)) (keeps_filtered (λ xs. xs) keeps_all (λ e. is_needed_as margin (counter counters e.0) e.1)) (λ e. e.0)

-- ---- the numbers
pub counted : (t : MarkedCounters) (q : UniqueModel) → counter (counts_of t) q ≡ unwrap_or (option_map (λ (t : Ticks). t.count) (finmap.get t q)) 0
counted t q = ap (λ o. unwrap_or o 0) (get-changed (λ (t : Ticks). t.count) t q)

-- counters that begin unmarked
same_option : (a : Option ℕ) → option_map (λ (n : ℕ). n) a ≡ a
same_option None = refl
same_option (Some n) = refl

same_counters : (c : Counters) → changed (λ (n : ℕ). n) c ≡ c
same_counters c = same_table _ _ (λ q. get-changed (λ (n : ℕ). n) c q ∙ same_option (finmap.get c q))

pub counts-unmarked : (c : Counters) → counts_of (changed unmarked c) ≡ c
counts-unmarked c = changed-changed unmarked (λ (t : Ticks). t.count) c ∙ same_counters c

none_marked : (es : List (UniqueModel × ℕ)) → marked_pairs (rows_changed unmarked es) ≡ []
none_marked [] = refl
none_marked (e ∷ es) = none_marked es

pub marked-unmarked : (c : Counters) → marked (changed unmarked c) ≡ []
marked-unmarked c = ap marked_pairs (entries-changed unmarked c) ∙ none_marked (finmap.entries c)

-- and are made one at a time
unmarked_walked : (kept : Counters) (whos : List UniqueModel) (c : Counters) → fold (with_unmarked kept) (changed unmarked c) whos ≡ changed unmarked (fold (λ c who. finmap.insert c who (counter kept who)) c whos)
unmarked_walked kept [] c = refl
unmarked_walked kept (k ∷ whos) c =
    ap (λ t. fold (with_unmarked kept) t whos) (sym (changed-insert unmarked c k (counter kept k)))
    ∙ unmarked_walked kept whos (finmap.insert c k (counter kept k))

pub counters_walked : (kept : Counters) (whos : List UniqueModel) → fold (with_unmarked kept) finmap.empty whos ≡ changed unmarked (with_each kept whos finmap.empty)
counters_walked kept whos =
    ap (λ t. fold (with_unmarked kept) t whos) (sym (changed-empty unmarked))
    ∙ unmarked_walked kept whos finmap.empty
    ∙ ap (changed unmarked) (each_walked kept whos finmap.empty)

-- ---- a tick
pub counts-ticked : (margin : ℕ) (t : MarkedCounters) → counts_of (changed (after_one margin) t) ≡ raised margin (counts_of t)
counts-ticked margin t =
    changed-changed (after_one margin) (λ (t : Ticks). t.count) t
    ∙ sym (changed-changed (λ (t : Ticks). t.count) (λ n. min (n + 1) margin) t)

marked_next : (margin : ℕ) (es : List (UniqueModel × Ticks))
    → marked_pairs (rows_changed (after_one margin) es) ≡ map (λ (e : UniqueModel × ℕ). e.0) (filter (λ (e : UniqueModel × ℕ). e.1 + 1 == margin) (rows_changed (λ (t : Ticks). t.count) es))
marked_next margin [] = refl
marked_next margin (e ∷ es) = by_mark (e.1.count + 1 == margin) (marked_next margin es)
  where
    by_mark : (b : Bool) → marked_pairs (rows_changed (after_one margin) es) ≡ map (λ (e : UniqueModel × ℕ). e.0) (filter (λ (e : UniqueModel × ℕ). e.1 + 1 == margin) (rows_changed (λ (t : Ticks). t.count) es))
        → map (λ (e : UniqueModel × Ticks). e.0) (cond b ((e.0, after_one margin e.1) ∷ filter (λ (e : UniqueModel × Ticks). e.1.has_just_ended) (rows_changed (after_one margin) es)) (filter (λ (e : UniqueModel × Ticks). e.1.has_just_ended) (rows_changed (after_one margin) es)))
        ≡ map (λ (e : UniqueModel × ℕ). e.0) (cond b ((e.0, e.1.count) ∷ filter (λ (e : UniqueModel × ℕ). e.1 + 1 == margin) (rows_changed (λ (t : Ticks). t.count) es)) (filter (λ (e : UniqueModel × ℕ). e.1 + 1 == margin) (rows_changed (λ (t : Ticks). t.count) es)))
    by_mark true rest = ap (λ l. e.0 ∷ l) rest
    by_mark false rest = rest

pub marked-ticked : (margin : ℕ) (t : MarkedCounters) → marked (changed (after_one margin) t) ≡ map (λ (e : UniqueModel × ℕ). e.0) (filter (λ (e : UniqueModel × ℕ). e.1 + 1 == margin) (finmap.entries (counts_of t)))
marked-ticked margin t =
    ap marked_pairs (entries-changed (after_one margin) t)
    ∙ marked_next margin (finmap.entries t)
    ∙ ap (λ pairs. map (λ (e : UniqueModel × ℕ). e.0) (filter (λ (e : UniqueModel × ℕ). e.1 + 1 == margin) pairs)) (sym (entries-changed (λ (t : Ticks). t.count) t))

-- ---- whether a tombstone is over
pub over_confirmed : (margin ticks : ℕ) (confirmed : Bool) → confirmed ≡ true → confirmed ≡ is_over margin ticks (Some confirmed)
over_confirmed margin ticks true is = refl
over_confirmed margin ticks false is = absurd (true≢false (sym is))

pub over_counted : (margin ticks n : ℕ) (confirmed : Bool) → confirmed ≡ false → n ≡ ticks → (n == margin) ≡ is_over margin ticks (Some confirmed)
over_counted margin ticks n true is same = absurd (true≢false is)
over_counted margin ticks n false is same = ap (λ k. k == margin) same

-- ---- the parts of a settled view
module _ (v : Counts) (s : Standings) (t : MarkedCounters) where
  counts_nothing : t ≡ finmap.empty → counts_of t ≡ finmap.empty
  counts_nothing is = ap counts_of is ∙ changed-empty (λ (t : Ticks). t.count)

  marked_nothing : t ≡ finmap.empty → marked t ≡ []
  marked_nothing is = ap marked is ∙ ap marked_pairs entries-empty

  pub parts_version : (exists : Bool) → IsKept exists v s t → v ≡ version_of (view_of exists v s (counts_of t))
  parts_version true kept = refl
  parts_version false kept = kept.no_version

  pub parts_standings : (exists : Bool) → IsKept exists v s t → s ≡ standings_of (view_of exists v s (counts_of t))
  parts_standings true kept = refl
  parts_standings false kept = kept.no_standing

  pub parts_counters : (exists : Bool) → IsKept exists v s t → counts_of t ≡ counters_of (view_of exists v s (counts_of t))
  parts_counters true kept = refl
  parts_counters false kept = counts_nothing kept.no_counter

  pub parts_finished : (exists : Bool) → IsKept exists v s t → (margin : ℕ) (who : UniqueModel) → is_over margin (counter (counts_of t) who) (tombstone_of (finmap.get s who)) ≡ is_finished margin (view_of exists v s (counts_of t)) who
  parts_finished true kept margin who = refl
  parts_finished false kept margin who = ap (λ o. is_over margin (counter (counts_of t) who) (tombstone_of o)) (ap (λ m. finmap.get m who) kept.no_standing ∙ get-empty who)

  pub parts_needed : (exists : Bool) → IsKept exists v s t → (margin : ℕ) → set_of (needed_pairs margin (counts_of t) (finmap.entries s)) ≡ needed margin (view_of exists v s (counts_of t))
  parts_needed true kept margin = refl
  parts_needed false kept margin = ap (λ pairs. set_of (needed_pairs margin (counts_of t) pairs)) (ap finmap.entries kept.no_standing ∙ entries-empty)

  pub parts_candidate : (exists : Bool) → IsKept exists v s t → oldest s ≡ candidate (view_of exists v s (counts_of t))
  parts_candidate true kept = refl
  parts_candidate false kept = ap (λ pairs. option_map (λ pair. pair.0) (least_pair (counted_pairs (member_pairs pairs)))) (ap finmap.entries kept.no_standing ∙ entries-empty)

  -- after a tick
  pub parts_ticked : (exists : Bool) → IsKept exists v s t → (margin : ℕ) → settled_of exists v s (changed (after_one margin) t) ≡ after_tick margin (settled_of exists v s t)
  parts_ticked true kept margin = λ i. record {
    view = view_of true v s (counts-ticked margin t i);
    just_ended = marked-ticked margin t i;
  }
  parts_ticked false kept margin = λ i. record {
    view = None;
    just_ended = (marked-ticked margin t ∙ ap (λ c. map (λ (e : UniqueModel × ℕ). e.0) (filter (λ (e : UniqueModel × ℕ). e.1 + 1 == margin) (finmap.entries c))) (counts_nothing kept.no_counter)) i;
  }

  pub kept_ticked : (exists : Bool) → IsKept exists v s t → (margin : ℕ) → IsKept exists v s (changed (after_one margin) t)
  kept_ticked true kept margin = tt
  kept_ticked false kept margin = record {
    no_version = kept.no_version;
    no_standing = kept.no_standing;
    no_counter = ap (changed (after_one margin)) kept.no_counter ∙ changed-empty (after_one margin);
  }

  -- after a view is noted, with counters for its tombstones
  pub parts_noted : (exists : Bool) → IsKept exists v s t → (w : Counts) (u : Standings) (c : MarkedCounters)
      → c ≡ changed unmarked (with_each (counts_of t) (unconfirmed_pairs (finmap.entries u)) finmap.empty)
      → settled_of true w u c ≡ after_note w u (settled_of exists v s t)
  parts_noted exists kept w u c is =
      let each = λ (k : Counters). with_each k (unconfirmed_pairs (finmap.entries u)) finmap.empty in
      let counts : counts_of c ≡ each (counters_of (view_of exists v s (counts_of t))) = ap counts_of is ∙ counts-unmarked (each (counts_of t)) ∙ ap each (parts_counters exists kept) in
      let marks : marked c ≡ [] = ap marked is ∙ marked-unmarked (each (counts_of t)) in
      λ i. record { view = Some (record { version = w; standings = u; counters = counts i }); just_ended = marks i }

-- nothing is noted yet
pub nothing_noted : settled_of false finmap.empty nobody finmap.empty ≡ record { view = None; just_ended = [] }
nothing_noted = ap (λ pairs. record { view = None; just_ended = marked_pairs pairs }) entries-empty
