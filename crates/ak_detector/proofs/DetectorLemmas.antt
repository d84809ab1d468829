-- What the walks of a ring and of a detector come to.
use Rattle.std.proofs.Common.{◌≡◌, ℕ, zero, suc, ◌+◌, ◌-◌, ◌≤◌, Bool, true, false, cond, ◌&&◌, ◌||◌, if◌then◌else◌, List, [], ◌∷◌, ◌++◌, map, min, length, take, drop, slice_get, nat_lt, Option, Some, None, is_some, unwrap_or, option_to_list, refl, sym, ap, ◌∙◌, arith}
use Rattle.std.specs.List.{fold, filter}
use Rattle.std.specs.FinMap as finmap
use Rattle.std.specs.Ordering.{is_eq, eq_by_cmp}
use Rattle.std.proofs.lemmas.List.{length-append}
use Rattle.std.proofs.lemmas.Bool.Decides.{nat_tests}
use Rattle.std.proofs.lemmas.List.Sums.{fold-append}
use Rattle.ak_address.specs.Unique.{UniqueModel, unique_cmp}
use Rattle.ak_address.specs.Uniques.{UniqueSet, no_one, has, with_one, in_order, set_of}
use Rattle.ak_address.specs.Changed.{keys_of}
use Rattle.ak_address.specs.Counters.{Counters, counter, with_each, above}
use Rattle.ak_address.proofs.TableLaws.{same_key, same_table, get-empty, get-insert}
use Rattle.ak_address.proofs.UniquesLaws.{same_uniques}
use Rattle.ak_address.proofs.ChangedLaws.{entries-changed, has-keys_of, changed-empty, changed-changed}
use Rattle.ak_address.proofs.CountersLaws.{among, among-filter, has-set_of, set_of-in_order, has-walked, set_walked, get-with_each, keys-with_each, passes, among_passing}
use Rattle.ak_member.specs.declared.standing.Standing.{Standing}
use Rattle.ak_member.specs.Standing.{Standings, is_member}
use Rattle.ak_member.proofs.MemberLemmas.{KeepsPairs, kept_pair, kept_at_end}
use Rattle.ak_member.proofs.Folds.{keeps_all, keeps_filtered, keeps_mapped}
use Rattle.ak_detector.specs.Detector.{most_watched, watch_ring, is_silent, silent, watching, heard, ticked}
use Rattle.ak_detector.specs.Sides.{side_pairs, above_pairs}

-- ---- what a walk keeps of each pair
pub keeps_above : (limit : ℕ) → KeepsPairs (above_pairs limit)
keeps_above limit = keeps_mapped (filter (λ (e : UniqueModel × ℕ). nat_lt limit e.1)) (keeps_filtered (λ xs. xs) keeps_all (λ e. nat_lt limit e.1)) (λ e. e.0)

pub keeps_those : (p : UniqueModel → Bool) → KeepsPairs (filter p)
keeps_those p = keeps_filtered (λ xs. xs) keeps_all p

-- ---- the ring
take-none : {X : Type 0} (n : ℕ) → take {A = X} n [] ≡ []
take-none zero = refl
take-none (suc n) = refl

pub take-append : {X : Type 0} (n : ℕ) (xs ys : List X) → take n (xs ++ ys) ≡ take n xs ++ take (n - length xs) ys
take-append zero xs ys = let none : 0 ≡ 0 - length xs = omega arith in ap (λ k. take k ys) none
take-append (suc n) [] ys = let all : suc n ≡ suc n - 0 = omega arith in ap (λ k. take k ys) all
take-append (suc n) (x ∷ xs) ys =
    let less : n - length xs ≡ suc n - suc (length xs) = omega arith in
    ap (λ l. x ∷ l) (take-append n xs ys ∙ ap (λ k. take n xs ++ take k ys) less)

-- as many of the first list as there are to take, and of the second what is left to take
pub taken_both : (n : ℕ) (xs ys : List UniqueModel) (s : UniqueSet) → fold with_one (fold with_one s (take n xs)) (take (n - length xs) ys) ≡ fold with_one s (take n (xs ++ ys))
taken_both n xs ys s = sym (ap (fold with_one s) (take-append n xs ys) ∙ fold-append with_one s (take n xs) (take (n - length xs) ys))

-- so many are left to take of those of the pairs that are left
pub record Taking (kept : List (UniqueModel × Standing) → List UniqueModel) (pairs : List (UniqueModel × Standing)) (left : ℕ) (s : UniqueSet) (most : ℕ) (all : UniqueSet) : Type 0 where
  pub left_is : left - length (kept pairs) ≡ most
  pub taken : fold with_one s (take left (kept pairs)) ≡ all

module _ (kept : List (UniqueModel × Standing) → List UniqueModel) (k : KeepsPairs kept) where
  pub taking_next : (pairs : List (UniqueModel × Standing)) (i left next : ℕ) (s t : UniqueSet) (most : ℕ) (all : UniqueSet) (o : Option UniqueModel)
      → option_to_list o ≡ kept (option_to_list (slice_get pairs i)) → next ≡ left - length (option_to_list o) → t ≡ fold with_one s (take left (option_to_list o))
      → Taking kept (drop i pairs) left s most all → Taking kept (drop (i + 1) pairs) next t most all
  taking_next pairs i left next s t most all o is fewer more so_far =
      let rest = kept (drop (i + 1) pairs) in
      let whole : kept (drop i pairs) ≡ option_to_list o ++ rest = kept_pair kept k pairs i o is in
      let long : length (kept (drop i pairs)) ≡ length (option_to_list o) + length rest = ap length whole ∙ length-append (option_to_list o) rest in
      let before = so_far.left_is in
      record {
        left_is = omega arith;
        taken =
            (λ j. fold with_one (more j) (take (fewer j) rest))
            ∙ taken_both left (option_to_list o) rest s
            ∙ ap (λ l. fold with_one s (take left l)) (sym whole)
            ∙ so_far.taken;
      }

  pub taking_end : (pairs : List (UniqueModel × Standing)) (i left : ℕ) (s : UniqueSet) (most : ℕ) (all : UniqueSet) → length pairs ≤ i → Taking kept (drop i pairs) left s most all → (left ≡ most) × (s ≡ all)
  taking_end pairs i left s most all past so_far =
      let none : kept (drop i pairs) ≡ [] = kept_at_end kept k pairs i past in
      let long : length (kept (drop i pairs)) ≡ 0 = ap length none in
      let before = so_far.left_is in
      (omega arith, sym (ap (λ l. fold with_one s (take left l)) none ∙ ap (fold with_one s) (take-none left)) ∙ so_far.taken)

pub ring_walked : (me : UniqueModel) (s : Standings) (left : ℕ) (ring : UniqueSet)
    → left ≡ most_watched - length (side_pairs true me (finmap.entries s)) → ring ≡ fold with_one no_one (take most_watched (side_pairs true me (finmap.entries s)))
    → fold with_one ring (take left (side_pairs false me (finmap.entries s))) ≡ watch_ring me s
ring_walked me s left ring fewer first =
    let after = side_pairs true me (finmap.entries s) in
    let before = side_pairs false me (finmap.entries s) in
    (λ j. fold with_one (first j) (take (fewer j) before))
    ∙ taken_both most_watched after before no_one
    ∙ set_walked (take most_watched (after ++ before))

-- ---- who is silent
abbrev pub is_silent_by : ℕ → Option ℕ → Bool
is_silent_by deadline None = false
is_silent_by deadline (Some n) = nat_lt deadline n

pub has-silent : (deadline : ℕ) (c : Counters) (q : UniqueModel) → has (silent deadline c) q ≡ is_silent_by deadline (finmap.get c q)
has-silent deadline c q = has-set_of (above deadline c) q ∙ among_passing (λ (e : UniqueModel × ℕ). nat_lt deadline e.1) c q ∙ by_pair (finmap.get c q)
  where
    by_pair : (o : Option ℕ) → passes (λ (e : UniqueModel × ℕ). nat_lt deadline e.1) q o ≡ is_silent_by deadline o
    by_pair None = refl
    by_pair (Some n) = refl

-- ---- who is watched
among_in : (s : UniqueSet) (q : UniqueModel) → among q (in_order s) ≡ has s q
among_in s q = sym (finmap.contains_key-keys s q)

pub watched_walked : (me : UniqueModel) (s : Standings) (deadline : ℕ) (c : Counters) (w : UniqueSet) → w ≡ fold with_one (watch_ring me s) (filter (is_member s) (in_order (silent deadline c)))
    → with_each c (in_order w) finmap.empty ≡ watching me s deadline c
watched_walked me s deadline c w is = same_table _ _ (λ q.
    get-with_each c (in_order w) finmap.empty q
    ∙ (λ j. cond (there q j) (Some (counter c q)) (get-empty {X = ℕ} q j))
    ∙ by_case (has (watch_ring me s) q) (finmap.get c q) (is_member s q)
    ∙ sym (get-with_each c (in_order (watch_ring me s)) (finmap.retain_keys c test) q
    ∙ (λ j. cond (among_in (watch_ring me s) q j) (Some (counter c q)) (finmap.get-retain_keys c test q (λ x tied. ap test (sym (same_key q x (ap is_eq tied)))) j))))
  where
    test : UniqueModel → Bool
    test who = is_silent deadline c who && is_member s who

    there : (q : UniqueModel) → among q (in_order w) ≡ (has (watch_ring me s) q || (is_silent_by deadline (finmap.get c q) && is_member s q))
    there q =
        among_in w q
        ∙ ap (λ t. has t q) is
        ∙ has-walked (watch_ring me s) (filter (is_member s) (in_order (silent deadline c))) q
        ∙ ap (λ b. has (watch_ring me s) q || b) (among-filter (is_member s) (in_order (silent deadline c)) q
        ∙ ap (λ b. b && is_member s q) (among_in (silent deadline c) q ∙ has-silent deadline c q))

    by_case : (r : Bool) (k : Option ℕ) (m : Bool)
        → cond (r || (is_silent_by deadline k && m)) (Some (unwrap_or k 0)) None ≡ cond r (Some (unwrap_or k 0)) (cond (nat_lt deadline (unwrap_or k 0) && m) k None)
    by_case true k m = refl
    by_case false None m = either (nat_lt deadline 0 && m)
      where
        either : (b : Bool) → ◌≡◌ {A = Option ℕ} None (cond b None None)
        either true = refl
        either false = refl
    by_case false (Some n) m = refl

-- ---- who is watched, in a set
pub keys-none : no_one ≡ keys_of (finmap.empty {X = ℕ} {R = unique_cmp})
keys-none = sym (changed-empty (λ (n : ℕ). tt))

pub keys-each : (c : Counters) (w : UniqueSet) (n : Counters) → n ≡ with_each c (in_order w) finmap.empty → w ≡ keys_of n
keys-each c w n is = sym (ap keys_of is ∙ keys-with_each c (in_order w) ∙ set_of-in_order w)

pub keys-ticked : (deadline : ℕ) (c : Counters) → keys_of (ticked deadline c) ≡ keys_of c
keys-ticked deadline c = changed-changed _ (λ (n : ℕ). tt) c

pub keys-heard : (who : UniqueModel) (c : Counters) → keys_of (heard who c) ≡ keys_of c
keys-heard who c = by_presence (finmap.contains_key c who) refl
  where
    stays : finmap.contains_key c who ≡ true → (q : UniqueModel) (t : Bool) → eq_by_cmp unique_cmp q who ≡ t → is_some (cond t (Some 0) (finmap.get c q)) ≡ finmap.contains_key c q
    stays there q true tied = sym (ap (finmap.contains_key c) (same_key q who tied) ∙ there)
    stays there q false apart = refl

    by_presence : (b : Bool) → finmap.contains_key c who ≡ b → keys_of (if b then finmap.insert c who 0 else c) ≡ keys_of c
    by_presence true there = same_uniques _ _ (λ q.
        has-keys_of (finmap.insert c who 0) q
        ∙ ap is_some (get-insert c who 0 q)
        ∙ stays there q (eq_by_cmp unique_cmp q who) refl
        ∙ sym (has-keys_of c q))
    by_presence false there = refl

pub pair_there : (o p : Option UniqueModel) → o ≡ p → option_to_list o ≡ option_to_list p
pair_there o p is = ap option_to_list is

-- ---- whom the next tick finds silent
module _ (deadline : ℕ) (least : 1 ≤ deadline) where
  above_next : (n : ℕ) → nat_lt deadline (min (n + 1) (deadline + 1)) ≡ nat_lt (deadline - 1) n
  above_next n = grind (arith, nat_tests)

  pairs_next : (es : List (UniqueModel × ℕ)) → above_pairs deadline (map (λ (e : UniqueModel × ℕ). (e.0, min (e.1 + 1) (deadline + 1))) es) ≡ above_pairs (deadline - 1) es
  pairs_next [] = refl
  pairs_next (e ∷ es) = (λ i. map (λ (x : UniqueModel × ℕ). x.0) (if above_next e.1 i then (e.0, min (e.1 + 1) (deadline + 1)) ∷ rest else rest)) ∙ by_case (nat_lt (deadline - 1) e.1) (pairs_next es)
    where
      rest : List (UniqueModel × ℕ)
      rest = filter (λ (x : UniqueModel × ℕ). nat_lt deadline x.1) (map (λ (x : UniqueModel × ℕ). (x.0, min (x.1 + 1) (deadline + 1))) es)

      by_case : (b : Bool) → above_pairs deadline (map (λ (x : UniqueModel × ℕ). (x.0, min (x.1 + 1) (deadline + 1))) es) ≡ above_pairs (deadline - 1) es → map (λ (x : UniqueModel × ℕ). x.0) (if b then (e.0, min (e.1 + 1) (deadline + 1)) ∷ rest else rest) ≡ map (λ (x : UniqueModel × ℕ). x.0) (if b then e ∷ filter (λ (x : UniqueModel × ℕ). nat_lt (deadline - 1) x.1) es else filter (λ (x : UniqueModel × ℕ). nat_lt (deadline - 1) x.1) es)
      by_case true later = ap (λ l. e.0 ∷ l) later
      by_case false later = later

  pub silent_by_next : (counters : Counters) → silent (deadline - 1) counters ≡ silent deadline (ticked deadline counters)
  silent_by_next counters = ap set_of (sym (ap (above_pairs deadline) (entries-changed (λ n. min (n + 1) (deadline + 1)) counters) ∙ pairs_next (finmap.entries counters)))
