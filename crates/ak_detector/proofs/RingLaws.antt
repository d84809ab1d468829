-- The ring by halves and by runs of pairs, and that a detector which watches its ring already is the one that watches it.
use Rattle.std.proofs.Common.{◌≡◌, ◌≢◌, ◌↔◌, ℕ, zero, suc, ◌+◌, ◌-◌, ◌<◌, ◌≤◌, ◌⊎◌, inl, inr, Bool, true, false, cond, ◌&&◌, T, List, [], ◌∷◌, ◌++◌, length, min, take, drop, slice_get, Option, Some, None, is_some, unwrap_or, option_to_list, get_or, Ok, Err, subst, refl, sym, ap, ◌∙◌, arith, append-nil, take-append-drop}
use Rattle.std.proofs.lemmas.Option.{same_Some, slice_get-get_or}
use Rattle.std.proofs.lemmas.List.{take_all, take_min, length-take, length-take-le, length-drop, length-append}
use Rattle.std.proofs.Math.Seq.{take-append_seam, drop-append_seam}
use Rattle.std.proofs.lemmas.List.Elements.{filter-append}
use Rattle.std.specs.List.{fold, filter}
use Rattle.std.specs.declared.cmp.Ordering.{Ordering}
use Rattle.std.specs.declared.cmp.Ordering.TheVariants.{Less, Equal, Greater}
use Rattle.std.specs.Ordering.{is_lt, ordering_reverse}
use Rattle.std.specs.Cmp.{tied_itself}
use Rattle.std.specs.FinMap as finmap
use Rattle.ak_address.specs.Pairs.{index}
use Rattle.ak_address.specs.Unique.{UniqueModel, unique_cmp}
use Rattle.ak_address.specs.Uniques.{UniqueSet, no_one, has, with_one, in_order, how_many, set_of}
use Rattle.ak_address.specs.Changed.{keys_of}
use Rattle.ak_address.specs.Counters.{Counters, counter}
use Rattle.ak_address.proofs.OrderLemmas.{unique_total, unique_exact}
use Rattle.ak_address.proofs.Pairs.{Stands, known, rises, not_None, IsAboveBefore, IsBelowFrom, above_before, goes_between}
use Rattle.ak_address.proofs.TableLaws.{same_table, none_of_length}
use Rattle.ak_address.proofs.ChangedLaws.{has-keys_of}
use Rattle.ak_address.proofs.CountersLaws.{set_of-in_order}
use Rattle.ak_address.proofs.UniquesLaws.{length-in_order}
use Rattle.ak_member.specs.declared.standing.Standing.{Standing}
use Rattle.ak_member.specs.declared.standing.Standing.TheVariants.{Member, Buried}
use Rattle.ak_member.specs.Standing.{Standings, is_member}
use Rattle.ak_member.proofs.MemberLemmas.{kept_pair, kept_at_end, drop_from}
use Rattle.ak_member.proofs.Folds.{kept_none, set_of_none}
use Rattle.ak_detector.specs.Detector.{most_watched, watch_ring, is_silent, watching}
use Rattle.ak_detector.specs.Sides.{Agrees, BeginWith, Differs, is_on_side, names_of, run, side_pairs}
use Rattle.ak_detector.proofs.DetectorLaws.{get-watching}
use Rattle.ak_detector.proofs.DetectorLemmas.{take-append, ring_walked}
use Rattle.ak_detector.proofs.RingOrder.{keeps_names, set_turned, ring_in_order}

-- ---- elements of parts of a list
module _ {X : Type 0} where
  got_of_take : (n i : ℕ) (xs : List X) (x : X) → slice_get (take n xs) i ≡ Some x → (i < n) × (slice_get xs i ≡ Some x)
  got_of_take zero i xs x is = absurd (not_None x (sym is))
  got_of_take (suc n) i [] x is = absurd (not_None x (sym is))
  got_of_take (suc n) zero (y ∷ xs) x is = (omega arith, is)
  got_of_take (suc n) (suc i) (y ∷ xs) x is = let rest = got_of_take n i xs x is in let lt = rest.0 in (omega arith, rest.1)

  got_in_take : (n i : ℕ) (xs : List X) → i < n → slice_get (take n xs) i ≡ slice_get xs i
  got_in_take zero i xs lt = absurd (omega arith)
  got_in_take (suc n) i [] lt = refl
  got_in_take (suc n) zero (y ∷ xs) lt = refl
  got_in_take (suc n) (suc i) (y ∷ xs) lt = got_in_take n i xs (omega arith)

  got_of_drop : (n i : ℕ) (xs : List X) → slice_get (drop n xs) i ≡ slice_get xs (n + i)
  got_of_drop zero i xs = let same : i ≡ 0 + i = omega arith in ap (slice_get xs) same
  got_of_drop (suc n) i [] = refl
  got_of_drop (suc n) i (y ∷ xs) = let same : suc (n + i) ≡ suc n + i = omega arith in got_of_drop n i xs ∙ ap (slice_get (y ∷ xs)) same

  pub past_take : (n i : ℕ) (xs : List X) → n ≤ i → length (take n xs) ≤ i
  past_take n i xs le = let most = length-take n xs in omega arith

pub past_end : {X : Type 0} (xs : List X) (i : ℕ) (x : X) → length xs ≤ i → slice_get xs i ≢ Some x
past_end [] i x le is = not_None x (sym is)
past_end (y ∷ xs) zero x le is = absurd (omega arith)
past_end (y ∷ xs) (suc i) x le is = past_end xs i x (omega arith) is

before_or : (i m : ℕ) → i ≤ m → (i < m) ⊎ (i ≡ m)
before_or zero zero le = inr refl
before_or zero (suc m) le = inl (omega arith)
before_or (suc i) zero le = absurd (omega arith)
before_or (suc i) (suc m) le = elim (before_or i m (omega arith)) [ inl less ↦ inl (omega arith) | inr same ↦ inr (ap suc same) ]

-- ---- the two sides of the node
module _ (p : UniqueModel → Bool) where
  all_kept : (pairs : List (UniqueModel × Standing)) → ((i : ℕ) (e : UniqueModel × Standing) → slice_get pairs i ≡ Some e → p e.0 ≡ true) → filter p (names_of pairs) ≡ names_of pairs
  all_kept [] all = refl
  all_kept ((who, Member status number) ∷ pairs) all = (λ i. cond (all 0 (who, Member status number) refl i) (who ∷ filter p (names_of pairs)) (filter p (names_of pairs))) ∙ ap (λ l. who ∷ l) (all_kept pairs (λ i. all (suc i)))
  all_kept ((who, Buried confirmed) ∷ pairs) all = all_kept pairs (λ i. all (suc i))

  none_kept : (pairs : List (UniqueModel × Standing)) → ((i : ℕ) (e : UniqueModel × Standing) → slice_get pairs i ≡ Some e → p e.0 ≡ false) → filter p (names_of pairs) ≡ []
  none_kept [] none = refl
  none_kept ((who, Member status number) ∷ pairs) none = (λ i. cond (none 0 (who, Member status number) refl i) (who ∷ filter p (names_of pairs)) (filter p (names_of pairs))) ∙ none_kept pairs (λ i. none (suc i))
  none_kept ((who, Buried confirmed) ∷ pairs) none = none_kept pairs (λ i. none (suc i))

names_split : (n : ℕ) (pairs : List (UniqueModel × Standing)) → names_of pairs ≡ names_of (take n pairs) ++ names_of (drop n pairs)
names_split zero pairs = refl
names_split (suc n) [] = refl
names_split (suc n) ((who, Member status number) ∷ pairs) = ap (λ l. who ∷ l) (names_split n pairs)
names_split (suc n) ((who, Buried confirmed) ∷ pairs) = names_split n pairs

-- how the node and the pairs around two indices are ordered
pub record Sides (me : UniqueModel) (pairs : List (UniqueModel × Standing)) (before after : ℕ) : Type 0 where
  pub above : IsAboveBefore unique_cmp me pairs before
  pub not_above : (i : ℕ) (e : UniqueModel × Standing) → before ≤ i → slice_get pairs i ≡ Some e → is_lt (unique_cmp e.0 me) ≡ false
  pub below : IsBelowFrom unique_cmp me pairs after
  pub not_below : (i : ℕ) (e : UniqueModel × Standing) → i < after → slice_get pairs i ≡ Some e → is_lt (unique_cmp me e.0) ≡ false

module _ (me : UniqueModel) (pairs : List (UniqueModel × Standing)) where
  reversed : (who : UniqueModel) (r : Ordering) → unique_cmp me who ≡ r → unique_cmp who me ≡ ordering_reverse r
  reversed who r is = unique_total.antisymm who me ∙ ap ordering_reverse is

  pub side_before : (before after : ℕ) → Sides me pairs before after → side_pairs false me pairs ≡ names_of (take before pairs)
  side_before before after s =
      let p : UniqueModel → Bool = is_on_side false me in
      ap (filter p) (names_split before pairs)
      ∙ filter-append p (names_of (take before pairs)) (names_of (drop before pairs))
      ∙ (λ j. all_kept p (take before pairs) (λ i e is. let got = got_of_take before i pairs e is in ap is_lt (reversed e.0 Greater (s.above i e got.0 got.1))) j
      ++ none_kept p (drop before pairs) (λ i e is. s.not_above (before + i) e (omega arith) (sym (got_of_drop before i pairs) ∙ is)) j)
      ∙ append-nil (names_of (take before pairs))

  pub side_after : (before after : ℕ) → Sides me pairs before after → side_pairs true me pairs ≡ names_of (drop after pairs)
  side_after before after s =
      let p : UniqueModel → Bool = is_on_side true me in
      ap (filter p) (names_split after pairs)
      ∙ filter-append p (names_of (take after pairs)) (names_of (drop after pairs))
      ∙ (λ j. none_kept p (take after pairs) (λ i e is. let got = got_of_take after i pairs e is in s.not_below i e got.0 got.1) j
      ++ all_kept p (drop after pairs) (λ i e is. ap is_lt (s.below (after + i) e (omega arith) (sym (got_of_drop after i pairs) ∙ is))) j)

  -- the node stands between two pairs
  pub sides_between : (n : ℕ) → IsAboveBefore unique_cmp me pairs n → IsBelowFrom unique_cmp me pairs n → Sides me pairs n n
  sides_between n above below = record {
    above = above;
    not_above = λ i e le is. ap is_lt (reversed e.0 Less (below i e le is));
    below = below;
    not_below = λ i e lt is. ap is_lt (above i e lt is);
  }

  -- it stands at a pair
  pub sides_at : (n : ℕ) (e : UniqueModel × Standing) → T (finmap.is_sorted unique_cmp pairs) → slice_get pairs n ≡ Some e → unique_cmp me e.0 ≡ Equal → Sides me pairs n (n + 1)
  sides_at n e sorted at tied = record {
    above = above;
    not_above = λ i d le is. elim (before_or n i le) [
      | inl less ↦ ap is_lt (reversed d.0 Less (later i d less is))
      | inr same ↦ ap is_lt (reversed d.0 Equal (here i d same is))
    ];
    below = λ i d le is. later i d (omega arith) is;
    not_below = λ i d lt is. elim (before_or i n (omega arith)) [
      | inl less ↦ ap is_lt (above i d less is)
      | inr same ↦ ap is_lt (here i d (sym same) is)
    ];
  }
    where
      above : IsAboveBefore unique_cmp me pairs n
      above = above_before unique_cmp me unique_total pairs sorted n e at tied

      later : (i : ℕ) (d : UniqueModel × Standing) → n < i → slice_get pairs i ≡ Some d → unique_cmp me d.0 ≡ Less
      later i d lt is = unique_total.congr me e.0 d.0 tied ∙ rises unique_cmp unique_total pairs n i e d sorted lt at is

      here : (i : ℕ) (d : UniqueModel × Standing) → n ≡ i → slice_get pairs i ≡ Some d → unique_cmp me d.0 ≡ Equal
      here i d same is = ap (λ (x : UniqueModel × Standing). unique_cmp me x.0) (same_Some d e (sym is ∙ sym (ap (slice_get pairs) same) ∙ at)) ∙ tied

-- the place of the node
module _ (me : UniqueModel) (pairs : List (UniqueModel × Standing)) (n : ℕ) (sorted : T (finmap.is_sorted unique_cmp pairs)) where
  pub sides_there : Ok n ≡ index unique_cmp me pairs → Sides me pairs n (n + 1)
  sides_there is =
      let s : Stands unique_cmp me pairs n = known unique_cmp unique_total unique_exact me pairs sorted (Ok n) is in
      let d : UniqueModel × Standing = (me, Buried false) in
      sides_at me pairs n (get_or pairs n d) sorted (slice_get-get_or pairs n d s.in_range) (subst (λ who. unique_cmp me who ≡ Equal) (sym (s.held d)) (tied_itself unique_total me))

  pub sides_nowhere : Err n ≡ index unique_cmp me pairs → Sides me pairs n n
  sides_nowhere is = let both = goes_between unique_cmp me unique_total pairs n sorted is in sides_between me pairs n both.0 both.1

-- ---- runs of members
pub there_in : (to i : ℕ) (pairs : List (UniqueModel × Standing)) (o : Option UniqueModel) → i < to → option_to_list o ≡ names_of (option_to_list (slice_get pairs i)) → option_to_list o ≡ names_of (option_to_list (slice_get (take to pairs) i))
there_in to i pairs o lt is = is ∙ ap (λ e. names_of (option_to_list e)) (sym (got_in_take to i pairs lt))

run_next_length : (rest whole : List UniqueModel) (o : Option UniqueModel) (left next : ℕ) (all : ℕ) → whole ≡ option_to_list o ++ rest → next ≡ left - length (option_to_list o) → left - length whole ≡ all → next - length rest ≡ all
run_next_length rest whole o left next all is fewer so_far =
    let long : length whole ≡ length (option_to_list o) + length rest = ap length is ∙ length-append (option_to_list o) rest in
    omega arith

module _ (pairs : List (UniqueModel × Standing)) (i : ℕ) where
  pub counted_next : (o : Option UniqueModel) (left next all : ℕ) → option_to_list o ≡ names_of (option_to_list (slice_get pairs i)) → next ≡ left - length (option_to_list o)
      → left - length (names_of (drop i pairs)) ≡ all → next - length (names_of (drop (i + 1) pairs)) ≡ all
  counted_next o left next all is fewer so_far = run_next_length _ _ o left next all (kept_pair names_of keeps_names pairs i o is) fewer so_far

  pub counted_end : (left all : ℕ) → length pairs ≤ i → left - length (names_of (drop i pairs)) ≡ all → left ≡ all
  counted_end left all past so_far = let none : length (names_of (drop i pairs)) ≡ 0 = ap length (kept_at_end names_of keeps_names pairs i past) in omega arith

-- one more that is the same
begins_more : (n : ℕ) (who : UniqueModel) (whos others : List UniqueModel) → BeginWith (suc n) (who ∷ whos) (who ∷ others) ↔ BeginWith n whos others
begins_more n who whos others = (λ h. (let le = h.0 in omega arith, ap (drop 1) h.1), λ h. (let le = h.0 in omega arith, ap (λ l. who ∷ l) h.1))

begins_one : (set : List UniqueModel) (end left next : ℕ) (o : Option UniqueModel) (rest : List UniqueModel)
    → 1 ≤ left → left ≤ end → Agrees left next o (slice_get set (end - left))
    → BeginWith left (option_to_list o ++ rest) (drop (end - left) set) ↔ BeginWith next rest (drop (end - next) set)
begins_one set end left next None rest least fits same = subst (λ n. BeginWith left rest (drop (end - left) set) ↔ BeginWith n rest (drop (end - n) set)) (sym same) (λ h. h, λ h. h)
begins_one set end zero next (Some who) rest least fits same = absurd (omega arith)
begins_one set end (suc left) next (Some who) rest least fits (fewer, found) =
    let is : left ≡ next = omega (arith, fewer) in
    let index : end - suc left + 1 ≡ end - left = omega arith in
    let whole : who ∷ drop (end - left) set ≡ drop (end - suc left) set = sym (drop_from set (end - suc left) ∙ (λ i. option_to_list (found i) ++ drop (index i) set)) in
    subst (λ others. BeginWith (suc left) (who ∷ rest) others ↔ BeginWith next rest (drop (end - next) set)) whole
    (subst (λ n. BeginWith (suc left) (who ∷ rest) (who ∷ drop (end - left) set) ↔ BeginWith n rest (drop (end - n) set)) is (begins_more left who rest (drop (end - left) set)))

-- with those that are left, a run is the same where it was before
module _ (set : List UniqueModel) (pairs : List (UniqueModel × Standing)) (i end left : ℕ) (o : Option UniqueModel) (is : option_to_list o ≡ names_of (option_to_list (slice_get pairs i))) where
  pub begins_next : (next : ℕ) (all : Type 0) → 1 ≤ left → left ≤ end → Agrees left next o (slice_get set (end - left))
      → BeginWith left (names_of (drop i pairs)) (drop (end - left) set) ↔ all → BeginWith next (names_of (drop (i + 1) pairs)) (drop (end - next) set) ↔ all
  begins_next next all least fits same so_far =
      let one = begins_one set end left next o (names_of (drop (i + 1) pairs)) least fits same in
      let here = kept_pair names_of keeps_names pairs i o is in
      (λ h. so_far.0 (subst (λ l. BeginWith left l (drop (end - left) set)) (sym here) (one.1 h)), λ a. one.0 (subst (λ l. BeginWith left l (drop (end - left) set)) here (so_far.1 a)))

  -- nor is it where another stands there
  pub begins_not : 1 ≤ left → Differs o (slice_get set (end - left)) → BeginWith left (names_of (drop i pairs)) (drop (end - left) set) → ⊥
  begins_not least differs h =
      let there = subst (λ l. BeginWith left l (drop (end - left) set)) (kept_pair names_of keeps_names pairs i o is) h in
      apart left o least differs (sym (ap (λ l. slice_get l 0) (there.1)))
    where
      apart : (left : ℕ) (o : Option UniqueModel) → 1 ≤ left → Differs o (slice_get set (end - left)) → slice_get (take left (option_to_list o ++ names_of (drop (i + 1) pairs))) 0 ≡ slice_get (take left (drop (end - left) set)) 0 → ⊥
      apart left None least differs first = differs
      apart zero (Some who) least differs first = absurd (omega arith)
      apart (suc left) (Some who) least differs first =
          let index : end - suc left + 0 ≡ end - suc left = omega arith in
          differs (sym (first ∙ got_in_take (suc left) 0 (drop (end - suc left) set) (omega arith) ∙ got_of_drop (end - suc left) 0 set ∙ ap (slice_get set) index))

pub agrees_fewer : (left next : ℕ) (o other : Option UniqueModel) → Agrees left next o other → next ≤ left
agrees_fewer left next None other is = omega (arith, is)
agrees_fewer left next (Some who) other is = omega (arith, is.0)

-- ---- the ring
pub run_to_end : (s : Standings) (after end : ℕ) → end ≡ finmap.len s → run after end (finmap.entries s) ≡ drop after (finmap.entries s)
run_to_end s after end is = ap (drop after) (take_all end (finmap.entries s) (let long = finmap.len-entries s in omega arith))

least_of : (n : ℕ) (xs : List UniqueModel) (k : ℕ) → k ≡ min n (length xs) → take k xs ≡ take n xs
least_of n xs k is = ap (λ m. take m xs) is ∙ take_min n xs

module _ (me : UniqueModel) (s : Standings) where
  -- a set that agrees with both runs, and has as many as both together, is the ring
  pub ring_found : (set : UniqueSet) (before after : List UniqueModel) (first last : ℕ)
      → side_pairs false me (finmap.entries s) ≡ before → side_pairs true me (finmap.entries s) ≡ after
      → last ≡ min most_watched (length after) → first ≡ min (most_watched - last) (length before) → how_many set ≡ first + last
      → take first (drop (first - first) (in_order set)) ≡ take first before → take last (drop (first + last - last) (in_order set)) ≡ take last after
      → set ≡ watch_ring me s
  ring_found set before after first last is_before is_after last_is first_is many first_same last_same =
      let w = in_order set in
      let long : length w ≡ first + last = length-in_order set ∙ many in
      let from_start : first - first ≡ 0 = omega arith in
      let from_first : first + last - last ≡ first = omega arith in
      let tail : length (drop first w) ≤ last = (let d = length-drop first w in omega arith) in
      let left : most_watched - last ≡ most_watched - length after = omega arith in
      let firsts : take first w ≡ take (most_watched - length after) before = ap (λ n. take first (drop n w)) (sym from_start) ∙ first_same ∙ least_of (most_watched - last) before first first_is ∙ ap (λ n. take n before) left in
      let lasts : drop first w ≡ take most_watched after = sym (take_all last (drop first w) tail) ∙ ap (λ n. take last (drop n w)) (sym from_first) ∙ last_same ∙ least_of most_watched after last last_is in
      sym (set_of-in_order set)
      ∙ ap set_of (sym (take-append-drop first w) ∙ (λ i. firsts i ++ lasts i))
      ∙ set_turned (take (most_watched - length after) before) (take most_watched after)
      ∙ ap set_of (sym (take-append most_watched after before) ∙ (λ i. take most_watched (sym is_after i ++ sym is_before i)))

  -- and the ring agrees with both
  pub ring_agrees : (set : UniqueSet) (before after : List UniqueModel) (first last : ℕ)
      → side_pairs false me (finmap.entries s) ≡ before → side_pairs true me (finmap.entries s) ≡ after
      → last ≡ min most_watched (length after) → first ≡ min (most_watched - last) (length before) → set ≡ watch_ring me s
      → (how_many set ≡ first + last) × BeginWith first before (drop (first - first) (in_order set)) × BeginWith last after (drop (first + last - last) (in_order set))
  ring_agrees set before after first last is_before is_after last_is first_is ring =
      let firsts = take first before in
      let lasts = take last after in
      let left : most_watched - length after ≡ most_watched - last = omega arith in
      let long_first : length firsts ≡ first = length-take-le first before (omega arith) in
      let long_last : length lasts ≡ last = length-take-le last after (omega arith) in
      let whole : in_order set ≡ firsts ++ lasts =
      ap in_order ring
      ∙ ring_in_order me s
      ∙ (λ i. take (most_watched - length (is_after i)) (is_before i) ++ take most_watched (is_after i))
      ∙ (λ i. take (left i) before ++ take most_watched after)
      ∙ sym (λ i. least_of (most_watched - last) before first first_is i ++ least_of most_watched after last last_is i) in
      let from_start : 0 ≡ first - first = omega arith in
      let from_first : length firsts ≡ first + last - last = omega arith in (
        sym (length-in_order set) ∙ ap length whole ∙ length-append firsts lasts ∙ (λ i. long_first i + long_last i),
        (omega arith, (λ i. take first (drop (sym from_start i) (whole i))) ∙ (λ i. take (sym long_first i) (firsts ++ lasts)) ∙ take-append_seam firsts lasts),
        (omega arith, (λ i. take last (drop (sym from_first i) (whole i))) ∙ ap (take last) (drop-append_seam firsts lasts) ∙ take_all last lasts (omega arith)),
      )

  -- it is made of both runs
  pub ring_made : (before after left : ℕ) (end : ℕ) (ring both : UniqueSet)
      → side_pairs false me (finmap.entries s) ≡ names_of (take before (finmap.entries s)) → side_pairs true me (finmap.entries s) ≡ names_of (drop after (finmap.entries s)) → end ≡ finmap.len s
      → left ≡ most_watched - length (names_of (run after end (finmap.entries s))) → ring ≡ fold with_one no_one (take most_watched (names_of (run after end (finmap.entries s))))
      → both ≡ fold with_one ring (take left (names_of (run 0 before (finmap.entries s)))) → both ≡ watch_ring me s
  ring_made before after left end ring both is_before is_after is_end fewer first whole =
      let same : names_of (run after end (finmap.entries s)) ≡ side_pairs true me (finmap.entries s) = ap names_of (run_to_end s after end is_end) ∙ sym is_after in
      whole
      ∙ ap (λ l. fold with_one ring (take left l)) (sym is_before)
      ∙ ring_walked me s left ring (fewer ∙ ap (λ l. most_watched - length l) same) (first ∙ ap (λ l. fold with_one no_one (take most_watched l)) same)

  -- whoever watches the ring, and nobody else, goes on so
  pub watches_on : (deadline : ℕ) (c : Counters) (set : UniqueSet) → set ≡ keys_of c → set ≡ watch_ring me s → watching me s deadline c ≡ c
  watches_on deadline c set keys ring = same_table _ _ (λ q.
      get-watching me s deadline c q
      ∙ ap (λ b. cond b (Some (counter c q)) (cond (is_silent deadline c q && is_member s q) (finmap.get c q) None)) (ap (λ t. has t q) (sym ring ∙ keys) ∙ has-keys_of c q)
      ∙ by_case (finmap.get c q) (is_silent deadline c q && is_member s q))
    where
      by_case : (o : Option ℕ) (t : Bool) → cond (is_some o) (Some (unwrap_or o 0)) (cond t o None) ≡ o
      by_case (Some n) t = refl
      by_case None true = refl
      by_case None false = refl

-- ---- where nobody is
-- where a run has no member, a pair of it is none
pub run_none : (from to i : ℕ) (pairs : List (UniqueModel × Standing)) (o : Option UniqueModel) → from ≤ i → i < to → option_to_list o ≡ names_of (option_to_list (slice_get pairs i)) → option_to_list o ≢ [] → names_of (run from to pairs) ≢ []
run_none from to i pairs o least lt is some none =
    let index : from + (i - from) ≡ i = omega arith in
    let here = kept_none names_of keeps_names (run from to pairs) (i - from) none in
    let there = ap (λ e. names_of (option_to_list e)) (got_of_drop from (i - from) (take to pairs) ∙ ap (slice_get (take to pairs)) index) in
    some (there_in to i pairs o lt is ∙ sym there ∙ here)

-- where the ring is nobody, no member is on either side
pub ring_none : (me : UniqueModel) (s : Standings) → watch_ring me s ≡ no_one → (side_pairs true me (finmap.entries s) ≡ []) × (side_pairs false me (finmap.entries s) ≡ [])
ring_none me s none =
    let after = side_pairs true me (finmap.entries s) in
    let before = side_pairs false me (finmap.entries s) in
    let nobody : take most_watched (after ++ before) ≡ [] = set_of_none (take most_watched (after ++ before)) none in (
      none_of_length after (omega (arith, ap length nobody, length-take most_watched (after ++ before), length-append after before)),
      none_of_length before (omega (arith, ap length nobody, length-take most_watched (after ++ before), length-append after before)),
    )

-- somebody is in a set that others join, or among these
pub some_of_both : (p : UniqueModel → Bool) (set others both : UniqueSet) → both ≡ fold with_one set (filter p (in_order others)) → both ≢ no_one → (set ≢ no_one) ⊎ (others ≢ no_one)
some_of_both p set others both is some =
    elim (in_order others) as (λ l. in_order others ≡ l → both ≡ fold with_one set (filter p l) → (set ≢ no_one) ⊎ (others ≢ no_one)) [
      | [] ↦ λ _ is. inl (λ none. some (is ∙ none))
      | who ∷ rest ↦ λ there _. inr (λ none. absurd (omega (arith, ap length there, length-in_order others, ap how_many none, finmap.len-empty unique_cmp (Unit {0}))))
    ] refl is
