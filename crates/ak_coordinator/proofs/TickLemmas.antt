-- Where a tick has nothing to do.
use Rattle.std.proofs.Common.{◌≡◌, ℕ, Bool, true, false, cond, not, ◌||◌, ◌+◌, List, [], ◌∷◌, ◌++◌, take, drop, slice_get, Option, None, Some, option_map, option_to_list, refl, sym, ap, ◌∙◌, arith, map, length}
use Rattle.std.proofs.lemmas.Bool.{or_parts, and_right}
use Rattle.std.proofs.lemmas.List.{nil_from_length}
use Rattle.std.proofs.lemmas.List.Folds.{list_any-append}
use Rattle.std.specs.Ordering.{eq_by_cmp}
use Rattle.std.specs.List.{filter, list_any}
use Rattle.std.specs.FinMap as finmap
use Rattle.ak_address.specs.Unique.{UniqueModel, unique_cmp}
use Rattle.ak_address.specs.Uniques.{UniqueSet, in_order, how_many, set_of}
use Rattle.ak_address.proofs.CountersLaws.{set_of-in_order}
use Rattle.ak_address.proofs.UniquesLaws.{length-in_order}
use Rattle.ak_member.specs.declared.standing.Standing.{Standing}
use Rattle.ak_member.specs.declared.status.Status.{Status}
use Rattle.ak_member.specs.declared.standing.Standing.TheVariants.{Member, Buried}
use Rattle.ak_member.specs.Standing.{Standings, is_exiting, has_status, as_member, as_tombstone, member_of, tombstone_of, pair_of, member_pairs, tombstone_pairs, members_of, tombstones_of}
use Rattle.ak_member.proofs.MemberLemmas.{kept_from, keeps_members}
use Rattle.ak_address.specs.Counters.{counter}
use Rattle.ak_settled.specs.SettledView.{SettledView}
use Rattle.ak_settled.specs.Settled.{standings_of, is_over, is_finished}
use Rattle.ak_coordinator.specs.Table.{Home, ShardEntry}
use Rattle.ak_coordinator.specs.Entry.{moves, freed}
use Rattle.ak_coordinator.specs.Tick.{is_unfinished, unfinished, noticed, IsPartlyNoticed, has_finished_home, is_exiting_pair, has_exiting_home, leaves_exiting, first_from}

-- nobody was waited for, and nobody is
nobody_left : (margin : ℕ) (settled : SettledView) (whos : UniqueSet) → how_many whos ≡ 0 → unfinished margin settled whos ≡ whos
nobody_left margin settled whos none =
    let empty = nil_from_length (in_order whos) (length-in_order whos ∙ none) in
    ap (λ l. set_of (filter (is_unfinished margin settled) l)) empty ∙ ap set_of (sym empty) ∙ set_of-in_order whos

pub nothing_noticed : (margin : ℕ) (settled : SettledView) (entry : ShardEntry) → has_finished_home margin settled entry.home ≡ false → how_many entry.waits ≡ 0 → entry ≡ noticed margin settled entry
nothing_noticed margin settled entry lives none =
    sym (ap (λ b. cond b (freed entry) (record entry { waits = unfinished margin settled entry.waits })) lives
    ∙ ap (λ (w : UniqueSet). record entry { waits = w }) (nobody_left margin settled entry.waits none))

-- no member is Exiting, and no shard has to leave one
not_exiting : (pairs : List (UniqueModel × Standing)) (who : UniqueModel) → list_any is_exiting_pair (member_pairs pairs) ≡ false → has_status is_exiting (member_of (finmap.find unique_cmp who pairs)) ≡ false
not_exiting [] who none = refl
not_exiting (pair ∷ pairs) who none =
    let parts = apart pair.1 none in
    by_key (eq_by_cmp unique_cmp who pair.0) parts.0 (not_exiting pairs who parts.1)
  where
    apart : (standing : Standing) → list_any is_exiting_pair (pair_of pair.0 (as_member standing) (member_pairs pairs)) ≡ false → (has_status is_exiting (as_member standing) ≡ false) × (list_any is_exiting_pair (member_pairs pairs) ≡ false)
    apart (Member status number) none = or_parts (is_exiting status) (list_any is_exiting_pair (member_pairs pairs)) none
    apart (Buried confirmed) none = (refl, none)

    by_key : (b : Bool) → has_status is_exiting (as_member pair.1) ≡ false → has_status is_exiting (member_of (finmap.find unique_cmp who pairs)) ≡ false → has_status is_exiting (member_of (cond b (Some pair.1) (finmap.find unique_cmp who pairs))) ≡ false
    by_key true here _ = here
    by_key false _ rest = rest

not_at_home : (s : Standings) (home : Option Home) → list_any is_exiting_pair (members_of s) ≡ false → has_exiting_home s home ≡ false
not_at_home s None none = refl
not_at_home s (Some home) none = ap (λ found. has_status is_exiting (member_of found)) (finmap.get-entries s home.owner) ∙ not_exiting (finmap.entries s) home.owner none

pub none_leaves : (s : Standings) (shard : ℕ) (table : List ShardEntry) → list_any is_exiting_pair (members_of s) ≡ false → None ≡ first_from shard (leaves_exiting s) table
none_leaves s shard [] none = refl
none_leaves s shard (entry ∷ table) none =
    none_leaves s (shard + 1) table none
    ∙ ap (λ b. cond b (Some shard) (first_from (shard + 1) (leaves_exiting s) table)) (sym (and_right (not (moves entry)) (has_exiting_home s entry.home) (not_at_home s entry.home none)))

-- nobody was removed, and no shard changes
no_tombstone : (pairs : List (UniqueModel × Standing)) (who : UniqueModel) → tombstone_pairs pairs ≡ [] → tombstone_of (finmap.find unique_cmp who pairs) ≡ None
no_tombstone [] who none = refl
no_tombstone (pair ∷ pairs) who none =
    let parts = apart pair.1 none in
    by_key (eq_by_cmp unique_cmp who pair.0) parts.0 (no_tombstone pairs who parts.1)
  where
    apart : (standing : Standing) → pair_of pair.0 (as_tombstone standing) (tombstone_pairs pairs) ≡ [] → (as_tombstone standing ≡ None) × (tombstone_pairs pairs ≡ [])
    apart (Member status number) none = (refl, none)
    apart (Buried confirmed) none = absurd (let e = ap length none in omega arith)

    by_key : (b : Bool) → as_tombstone pair.1 ≡ None → tombstone_of (finmap.find unique_cmp who pairs) ≡ None → tombstone_of (cond b (Some pair.1) (finmap.find unique_cmp who pairs)) ≡ None
    by_key true here _ = here
    by_key false _ rest = rest

nobody_finished : (margin : ℕ) (settled : SettledView) (who : UniqueModel) → tombstones_of (standings_of settled) ≡ [] → is_finished margin settled who ≡ false
nobody_finished margin None who none = refl
nobody_finished margin (Some noted) who none =
    ap (is_over margin (counter noted.counters who)) (ap tombstone_of (finmap.get-entries noted.standings who) ∙ no_tombstone (finmap.entries noted.standings) who none)

all_left : (margin : ℕ) (settled : SettledView) (whos : List UniqueModel) → tombstones_of (standings_of settled) ≡ [] → filter (is_unfinished margin settled) whos ≡ whos
all_left margin settled [] none = refl
all_left margin settled (who ∷ whos) none =
    ap (λ b. cond (not b) (who ∷ filter (is_unfinished margin settled) whos) (filter (is_unfinished margin settled) whos)) (nobody_finished margin settled who none)
    ∙ ap (λ l. who ∷ l) (all_left margin settled whos none)

lives_at_home : (margin : ℕ) (settled : SettledView) (home : Option Home) → tombstones_of (standings_of settled) ≡ [] → has_finished_home margin settled home ≡ false
lives_at_home margin settled None none = refl
lives_at_home margin settled (Some home) none = nobody_finished margin settled home.owner none

pub none_noticed : (margin : ℕ) (settled : SettledView) (table : List ShardEntry) → tombstones_of (standings_of settled) ≡ [] → table ≡ map (noticed margin settled) table
none_noticed margin settled [] none = refl
none_noticed margin settled (entry ∷ table) none =
    ap (λ l. entry ∷ l) (none_noticed margin settled table none)
    ∙ ap (λ e. e ∷ map (noticed margin settled) table) (sym (ap (λ b. cond b (freed entry) (record entry { waits = unfinished margin settled entry.waits })) (lives_at_home margin settled entry.home none)
    ∙ ap (λ (w : UniqueSet). record entry { waits = w }) (ap set_of (all_left margin settled (in_order entry.waits) none) ∙ set_of-in_order entry.waits)))

-- ---- a walk along all shards
walk_done : (f : ShardEntry → ShardEntry) (xs : List ShardEntry) → map f (take (length xs) xs) ++ drop (length xs) xs ≡ map f xs
walk_done f [] = refl
walk_done f (x ∷ xs) = ap (λ l. f x ∷ l) (walk_done f xs)

pub all_noticed : (margin : ℕ) (settled : SettledView) (old now : List ShardEntry) → now ≡ map (noticed margin settled) old → IsPartlyNoticed margin settled old now
all_noticed margin settled old now is = (length old, omega arith, is ∙ sym (walk_done (noticed margin settled) old))

-- ---- a walk that looks for a member that passes a test
module _ (p : UniqueModel × (Status × ℕ) → Bool) (pairs : List (UniqueModel × Standing)) (i : ℕ) where
  -- the pairs from a pair on
  from_pair : (list_any p (member_pairs (option_to_list (slice_get pairs i))) || list_any p (member_pairs (drop (i + 1) pairs))) ≡ list_any p (member_pairs (drop i pairs))
  from_pair =
      sym (ap (list_any p) (kept_from member_pairs keeps_members pairs i)
      ∙ list_any-append p (member_pairs (option_to_list (slice_get pairs i))) (member_pairs (drop (i + 1) pairs)))

  pub next_passing : (b : Bool) → b ≡ list_any p (member_pairs (option_to_list (slice_get pairs i))) → b ≡ false → list_any p (member_pairs (drop (i + 1) pairs)) ≡ list_any p (member_pairs (drop i pairs))
  next_passing b is none = ap (λ b. b || list_any p (member_pairs (drop (i + 1) pairs))) (sym none ∙ is) ∙ from_pair

  pub found_passing : (b : Bool) → b ≡ list_any p (member_pairs (option_to_list (slice_get pairs i))) → b ≡ true → true ≡ list_any p (member_pairs (drop i pairs))
  found_passing b is some = ap (λ b. b || list_any p (member_pairs (drop (i + 1) pairs))) (sym some ∙ is) ∙ from_pair

  -- what is at a pair says whether the member there, where there is one, passes
  pub passing_there : {M : Type 0} (f : M → UniqueModel × (Status × ℕ)) (found : Option M) (member : M) → found ≡ Some member
      → option_to_list (option_map f found) ≡ member_pairs (option_to_list (slice_get pairs i)) → p (f member) ≡ list_any p (member_pairs (option_to_list (slice_get pairs i)))
  passing_there f found member is at = alone (p (f member)) ∙ ap (list_any p) (ap (λ r. option_to_list (option_map f r)) (sym is) ∙ at)
    where
      alone : (b : Bool) → b ≡ (b || false)
      alone true = refl
      alone false = refl

  pub nobody_there : {M : Type 0} (f : M → UniqueModel × (Status × ℕ)) (found : Option M) → found ≡ None
      → option_to_list (option_map f found) ≡ member_pairs (option_to_list (slice_get pairs i)) → false ≡ list_any p (member_pairs (option_to_list (slice_get pairs i)))
  nobody_there f found none at = ap (list_any p) (ap (λ r. option_to_list (option_map f r)) (sym none) ∙ at)
