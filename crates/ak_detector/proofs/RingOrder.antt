-- The ring in the order of processes: those before the node, and then those after it.
use Rattle.std.proofs.Common.{◌≡◌, ℕ, zero, suc, ◌-◌, ◌⊎◌, inl, inr, Bool, true, false, cond, T, List, [], ◌∷◌, ◌++◌, map, length, take, subst, refl, sym, ap, ◌∙◌}
use Rattle.std.proofs.lemmas.List.Folds.{list_any-append}
use Rattle.std.specs.List.{filter}
use Rattle.std.specs.declared.cmp.Ordering.{Ordering}
use Rattle.std.specs.declared.cmp.Ordering.TheVariants.{Less, Equal, Greater}
use Rattle.std.specs.Ordering.{is_lt, eq_by_cmp}
use Rattle.std.specs.FinMap as finmap
use Rattle.std.specs.FinMap.Entries.{below_all}
use Rattle.ak_address.specs.Unique.{UniqueModel, unique_cmp}
use Rattle.ak_address.specs.Uniques.{UniqueSet, in_order, set_of}
use Rattle.ak_address.proofs.OrderLemmas.{unique_total}
use Rattle.ak_address.proofs.Pairs.{both}
use Rattle.ak_address.proofs.DistinctLaws.{IsBelow, AreRising}
use Rattle.ak_address.proofs.UniquesLaws.{same_uniques}
use Rattle.ak_address.proofs.CountersLaws.{among, has-set_of, set_of-in_order}
use Rattle.ak_address.proofs.BoolLemmas.{or_turned}
use Rattle.ak_member.specs.declared.standing.Standing.{Standing}
use Rattle.ak_member.specs.declared.standing.Standing.TheVariants.{Member, Buried}
use Rattle.ak_member.specs.Standing.{Standings, member_pairs}
use Rattle.ak_member.proofs.MemberLemmas.{KeepsPairs, keeps_members, kept_rising}
use Rattle.ak_member.proofs.Folds.{keeps_mapped, keeps_filtered}
use Rattle.ak_detector.specs.Detector.{most_watched, watch_ring}
use Rattle.ak_detector.specs.Sides.{is_on_side, names_of, side_pairs}
use Rattle.ak_detector.proofs.DetectorLemmas.{take-append}

pub keeps_names : KeepsPairs names_of
keeps_names = keeps_mapped member_pairs keeps_members (λ pair. pair.0)

-- ---- processes in order
-- each of these is below a process
abbrev AreBelow : UniqueModel → List UniqueModel → Type 0
AreBelow u [] = Unit {0}
AreBelow u (who ∷ rest) = (unique_cmp who u ≡ Less) × AreBelow u rest

module _ (u : UniqueModel) where
  below_take : (n : ℕ) (whos : List UniqueModel) → IsBelow u whos → IsBelow u (take n whos)
  below_take zero whos h = tt
  below_take (suc n) [] h = tt
  below_take (suc n) (who ∷ whos) h = (h.0, below_take n whos h.1)

  are_below_take : (n : ℕ) (whos : List UniqueModel) → AreBelow u whos → AreBelow u (take n whos)
  are_below_take zero whos h = tt
  are_below_take (suc n) [] h = tt
  are_below_take (suc n) (who ∷ whos) h = (h.0, are_below_take n whos h.1)

  below_both : (whos others : List UniqueModel) → IsBelow u whos → IsBelow u others → IsBelow u (whos ++ others)
  below_both [] others h g = g
  below_both (who ∷ whos) others h g = (h.0, below_both whos others h.1 g)

  below_further : (v : UniqueModel) → unique_cmp v u ≡ Less → (whos : List UniqueModel) → IsBelow u whos → IsBelow v whos
  below_further v less [] h = tt
  below_further v less (who ∷ whos) h = (unique_total.trans v u who less h.0, below_further v less whos h.1)

rising_both : (u : UniqueModel) (whos others : List UniqueModel) → AreRising whos → AreBelow u whos → AreRising others → IsBelow u others → AreRising (whos ++ others)
rising_both u [] others first below last above = last
rising_both u (who ∷ whos) others first below last above = (
  below_both who whos others first.0 (below_further u who below.0 others above),
  rising_both u whos others first.1 below.1 last above,
)

rising_take : (n : ℕ) (whos : List UniqueModel) → AreRising whos → AreRising (take n whos)
rising_take zero whos h = tt
rising_take (suc n) [] h = tt
rising_take (suc n) (who ∷ whos) h = (below_take who n whos h.0, rising_take n whos h.1)

-- ---- a set has a list in order as it is
abbrev as_pairs : List UniqueModel → List (UniqueModel × Unit {0})
as_pairs [] = []
as_pairs (who ∷ whos) = (who, tt) ∷ as_pairs whos

names_back : (whos : List UniqueModel) → map (λ (e : UniqueModel × Unit {0}). e.0) (as_pairs whos) ≡ whos
names_back [] = refl
names_back (who ∷ whos) = ap (λ l. who ∷ l) (names_back whos)

pairs_below : (u : UniqueModel) (whos : List UniqueModel) → IsBelow u whos → T (below_all unique_cmp u (as_pairs whos))
pairs_below u [] h = tt
pairs_below u (who ∷ whos) h = both _ _ (subst (λ r. T (is_lt r)) (sym h.0) tt) (pairs_below u whos h.1)

pairs_rising : (whos : List UniqueModel) → AreRising whos → T (finmap.is_sorted unique_cmp (as_pairs whos))
pairs_rising [] h = tt
pairs_rising (who ∷ whos) h = both _ _ (pairs_below who whos h.0) (pairs_rising whos h.1)

rising_in_order : (whos : List UniqueModel) → AreRising whos → in_order (set_of whos) ≡ whos
rising_in_order whos rising =
    let set : UniqueSet = finmap.from_sorted (as_pairs whos) in
    let back : in_order set ≡ whos = ap (λ l. map (λ (e : UniqueModel × Unit {0}). e.0) l) (finmap.entries-from_sorted unique_cmp (as_pairs whos) (pairs_rising whos rising)) ∙ names_back whos in
    ap in_order (ap set_of (sym back) ∙ set_of-in_order set) ∙ back

-- ---- the two sides of the node
module _ (me : UniqueModel) where
  all_after : (whos : List UniqueModel) → IsBelow me (filter (is_on_side true me) whos)
  all_after [] = tt
  all_after (who ∷ whos) = next (unique_cmp me who) refl (all_after whos)
    where
      next : (r : Ordering) → unique_cmp me who ≡ r → IsBelow me (filter (is_on_side true me) whos) → IsBelow me (cond (is_lt r) (who ∷ filter (is_on_side true me) whos) (filter (is_on_side true me) whos))
      next Less is rest = (is, rest)
      next Equal is rest = rest
      next Greater is rest = rest

  all_before : (whos : List UniqueModel) → AreBelow me (filter (is_on_side false me) whos)
  all_before [] = tt
  all_before (who ∷ whos) = next (unique_cmp who me) refl (all_before whos)
    where
      next : (r : Ordering) → unique_cmp who me ≡ r → AreBelow me (filter (is_on_side false me) whos) → AreBelow me (cond (is_lt r) (who ∷ filter (is_on_side false me) whos) (filter (is_on_side false me) whos))
      next Less is rest = (is, rest)
      next Equal is rest = rest
      next Greater is rest = rest

  rising_side : (is_after : Bool) (s : Standings) → AreRising (side_pairs is_after me (finmap.entries s))
  rising_side is_after s = kept_rising (side_pairs is_after me) (keeps_filtered names_of keeps_names (is_on_side is_after me)) own (finmap.entries s) (finmap.entries_sorted s)
    where
      either : (who : UniqueModel) (b : Bool) → (cond b (who ∷ []) [] ≡ []) ⊎ (cond b (who ∷ []) [] ≡ who ∷ [])
      either who true = inr refl
      either who false = inl refl

      own : (pair : UniqueModel × Standing) → (side_pairs is_after me (pair ∷ []) ≡ []) ⊎ (side_pairs is_after me (pair ∷ []) ≡ pair.0 ∷ [])
      own (who, Member status number) = either who (is_on_side is_after me who)
      own (who, Buried confirmed) = inl refl

-- ---- the ring
pub set_turned : (xs ys : List UniqueModel) → set_of (xs ++ ys) ≡ set_of (ys ++ xs)
set_turned xs ys = same_uniques _ _ (λ q.
    has-set_of (xs ++ ys) q
    ∙ list_any-append (eq_by_cmp unique_cmp q) xs ys
    ∙ or_turned (among q xs) (among q ys)
    ∙ sym (has-set_of (ys ++ xs) q ∙ list_any-append (eq_by_cmp unique_cmp q) ys xs))

-- as many of those before the node as those after it leave, and then those after it
pub ring_in_order : (me : UniqueModel) (s : Standings)
    → in_order (watch_ring me s) ≡ take (most_watched - length (side_pairs true me (finmap.entries s))) (side_pairs false me (finmap.entries s)) ++ take most_watched (side_pairs true me (finmap.entries s))
ring_in_order me s =
    let before = side_pairs false me (finmap.entries s) in
    let after = side_pairs true me (finmap.entries s) in
    let left = most_watched - length after in
    ap in_order (ap set_of (take-append most_watched after before) ∙ set_turned (take most_watched after) (take left before))
    ∙ rising_in_order _
    (rising_both me (take left before) (take most_watched after)
    (rising_take left before (rising_side me false s)) (are_below_take me left before (all_before me (names_of (finmap.entries s))))
    (rising_take most_watched after (rising_side me true s)) (below_take me most_watched after (all_after me (names_of (finmap.entries s)))))
