-- What versions count after a merge and a bump, and the order that covering is.
use Rattle.std.proofs.Common.{◌≡◌, ◌≢◌, ℕ, zero, suc, ◌+◌, ◌<◌, ◌≤◌, max, leb, Bool, true, false, ◌↔◌, inl, inr, T, List, [], ◌∷◌, Option, Some, None, is_some, unwrap_or, slice_get, Result, Ok, Err, IfOk, OnOk, OnErr, refl, sym, ap, ◌∙◌, subst, arith, true≢false, leb-true, leb-false, le-leb, ◌⊎◌, if◌then◌else◌}
use Rattle.std.proofs.lemmas.Bool.{lt-leb, and_from}
use Rattle.std.specs.List.{list_all}
use Rattle.std.specs.FinMap as map
use Rattle.std.specs.Cmp.{first_so, second_so}
use Rattle.ak_address.specs.Pairs.{index}
use Rattle.ak_address.specs.Unique.{UniqueModel, unique_cmp}
use Rattle.ak_address.specs.Table.{merged_at}
use Rattle.ak_address.proofs.TableLaws.{same_table, get-empty, get-insert_here, get-insert_elsewhere, get-merged_tables, get_at, index_of_get, same_or_apart}
use Rattle.ak_address.proofs.TableLemmas.{has_no_place}
use Rattle.ak_clock.specs.declared.version.TheConstants.{BOUND}
use Rattle.ak_clock.specs.declared.version.Relation.{Relation}
use Rattle.ak_clock.specs.declared.version.Relation.TheVariants.{Same, Before, After, Concurrent}
use Rattle.ak_clock.specs.Version.{Counts, count, IsVersion, Covers, Relates, covers, relation_by, relation, merged, bumped, reaching}

-- ---- one process
max_at : (a b : Option ℕ) → unwrap_or (merged_at max a b) 0 ≡ max (unwrap_or a 0) (unwrap_or b 0)
max_at None b = omega arith
max_at (Some x) None = omega arith
max_at (Some x) (Some y) = refl

swapped : (a b : Option ℕ) → merged_at max a b ≡ merged_at max b a
swapped None None = refl
swapped None (Some y) = refl
swapped (Some x) None = refl
swapped (Some x) (Some y) = ap Some (omega arith)

grouped : (a b c : Option ℕ) → merged_at max (merged_at max a b) c ≡ merged_at max a (merged_at max b c)
grouped None b c = refl
grouped (Some x) None c = refl
grouped (Some x) (Some y) None = refl
grouped (Some x) (Some y) (Some z) = ap Some (omega arith)

twice : (a : Option ℕ) → merged_at max a a ≡ a
twice None = refl
twice (Some x) = ap Some (omega arith)

pub same_at : (a b : Option ℕ) → a ≢ Some 0 → b ≢ Some 0 → unwrap_or a 0 ≡ unwrap_or b 0 → a ≡ b
same_at None None p q e = refl
same_at None (Some y) p q e = absurd (q (ap Some (sym e)))
same_at (Some x) None p q e = absurd (p (ap Some e))
same_at (Some x) (Some y) p q e = ap Some e

pub no_zero_at : (a b : Option ℕ) → a ≢ Some 0 → b ≢ Some 0 → merged_at max a b ≢ Some 0
no_zero_at None b p q e = q e
no_zero_at (Some x) None p q e = p e
no_zero_at (Some x) (Some y) p q e = let zero_max : max x y ≡ 0 = ap (λ o. unwrap_or o 0) e in p (ap Some (omega arith))

-- ---- counts
pub count-empty : (u : UniqueModel) → count map.empty u ≡ 0
count-empty u = ap (λ o. unwrap_or o 0) (get-empty u)

pub count-merged : (v w : Counts) (u : UniqueModel) → count (merged v w) u ≡ max (count v u) (count w u)
count-merged v w u = ap (λ o. unwrap_or o 0) (get-merged_tables max v w u) ∙ max_at (map.get v u) (map.get w u)

pub count-bumped_author : (v : Counts) (u : UniqueModel) → count (bumped v u) u ≡ count v u + 1
count-bumped_author v u = ap (λ o. unwrap_or o 0) (get-insert_here v u (count v u + 1))

pub count-bumped_others : (v : Counts) (u q : UniqueModel) → q ≢ u → count (bumped v u) q ≡ count v q
count-bumped_others v u q apart = ap (λ o. unwrap_or o 0) (get-insert_elsewhere v u (count v u + 1) q apart)

-- two versions that count alike are equal
pub same_version : (v w : Counts) → IsVersion v → IsVersion w → ((u : UniqueModel) → count v u ≡ count w u) → v ≡ w
same_version v w p q is = same_table v w (λ u. same_at (map.get v u) (map.get w u) (p.no_zero u) (q.no_zero u) (is u))

-- ---- versions stay versions
pub empty_is_version : IsVersion map.empty
empty_is_version = record {
  no_zero = λ u e. subst T (ap is_some (sym e ∙ get-empty u)) tt;
  bounded = λ u. omega (arith, count-empty u);
}

pub merged_is_version : (v w : Counts) → IsVersion v → IsVersion w → IsVersion (merged v w)
merged_is_version v w p q = record {
  no_zero = λ u e. no_zero_at (map.get v u) (map.get w u) (p.no_zero u) (q.no_zero u) (sym (get-merged_tables max v w u) ∙ e);
  bounded = λ u. omega (arith, count-merged v w u, p.bounded u, q.bounded u);
}

-- after a merge that may have failed
pub still_version : {A E : Type 0} (r : Result A E) (n v w : Counts) → OnOk r (n ≡ merged v w) → OnErr r (n ≡ v) → IsVersion v → IsVersion w → IsVersion n
still_version (Ok x) n v w ok err p q = subst IsVersion (sym ok) (merged_is_version v w p q)
still_version (Err e) n v w ok err p q = subst IsVersion (sym err) p

pub bumped_is_version : (v : Counts) (a : UniqueModel) → IsVersion v → count v a < BOUND → IsVersion (bumped v a)
bumped_is_version v a p room = record { no_zero = no_zero; bounded = bounded }
  where
    no_zero : (u : UniqueModel) → map.get (bumped v a) u ≢ Some 0
    no_zero u e = elim (same_or_apart u a) [
      | inl same ↦
          let is : map.get (bumped v a) a ≡ Some 0 = subst (λ k. map.get (bumped v a) k ≡ Some 0) same e in
          let none : count (bumped v a) a ≡ 0 = ap (λ o. unwrap_or o 0) is in
          omega (arith, none, count-bumped_author v a)
      | inr apart ↦ p.no_zero u (sym (get-insert_elsewhere v a (count v a + 1) u apart) ∙ e)
    ]

    bounded : (u : UniqueModel) → count (bumped v a) u ≤ BOUND
    bounded u = elim (same_or_apart u a) [
      | inl same ↦ subst (λ k. count (bumped v a) k ≤ BOUND) (sym same) (omega (arith, count-bumped_author v a, room))
      | inr apart ↦ omega (arith, count-bumped_others v a u apart, p.bounded u)
    ]

-- ---- at least so many
reaching-by : Bool → Counts → UniqueModel → ℕ → Counts
reaching-by b v u n = if b then v else map.insert v u n

pub reaching-stays : (v : Counts) (u : UniqueModel) (n : ℕ) → n ≤ count v u → reaching v u n ≡ v
unfolding reaching-by
reaching-stays v u n le = ap (λ b. reaching-by b v u n) (le-leb n (count v u) le)

pub reaching-rises : (v : Counts) (u : UniqueModel) (n : ℕ) → count v u < n → reaching v u n ≡ map.insert v u n
unfolding reaching-by
reaching-rises v u n lt = ap (λ b. reaching-by b v u n) (lt-leb n (count v u) lt)

pub reaching-cases : (v : Counts) (u : UniqueModel) (n : ℕ) → (reaching v u n ≡ v) × (n ≤ count v u) ⊎ (reaching v u n ≡ map.insert v u n) × (count v u < n)
reaching-cases v u n =
    elim (leb n (count v u)) as (λ b. leb n (count v u) ≡ b → (reaching v u n ≡ v) × (n ≤ count v u) ⊎ (reaching v u n ≡ map.insert v u n) × (count v u < n)) [
      | true ↦ λ h. let le = leb-true n (count v u) h in inl (reaching-stays v u n le, le)
      | false ↦ λ h. let lt = leb-false n (count v u) h in inr (reaching-rises v u n lt, lt)
    ] refl

pub count-reaching_there : (v : Counts) (u : UniqueModel) (n : ℕ) → count (reaching v u n) u ≡ max n (count v u)
count-reaching_there v u n = elim (reaching-cases v u n) [
  | inl stays ↦ ap (λ (w : Counts). count w u) stays.0 ∙ omega (arith, stays.1)
  | inr rises ↦ ap (λ (w : Counts). count w u) rises.0 ∙ ap (λ o. unwrap_or o 0) (get-insert_here v u n) ∙ omega (arith, rises.1)
]

pub count-reaching_others : (v : Counts) (u q : UniqueModel) (n : ℕ) → q ≢ u → count (reaching v u n) q ≡ count v q
count-reaching_others v u q n apart = elim (reaching-cases v u n) [
  | inl stays ↦ ap (λ (w : Counts). count w q) stays.0
  | inr rises ↦ ap (λ (w : Counts). count w q) rises.0 ∙ ap (λ o. unwrap_or o 0) (get-insert_elsewhere v u n q apart)
]

-- a count above another is a count of a version
pub inserted_is_version : (v : Counts) (a : UniqueModel) (n : ℕ) → IsVersion v → count v a < n → n ≤ BOUND → IsVersion (map.insert v a n)
inserted_is_version v a n p lt le = record { no_zero = none; bounded = within }
  where
    none : (u : UniqueModel) → map.get (map.insert v a n) u ≢ Some 0
    none u e = elim (same_or_apart u a) [
      | inl same ↦
          let zero_count : count (map.insert v a n) u ≡ 0 = ap (λ o. unwrap_or o 0) e in
          let is : count (map.insert v a n) u ≡ n = ap (count (map.insert v a n)) same ∙ ap (λ o. unwrap_or o 0) (get-insert_here v a n) in
          omega (arith, zero_count, is, lt)
      | inr apart ↦ p.no_zero u (sym (get-insert_elsewhere v a n u apart) ∙ e)
    ]

    within : (u : UniqueModel) → count (map.insert v a n) u ≤ BOUND
    within u = elim (same_or_apart u a) [
      | inl same ↦
          let is : count (map.insert v a n) u ≡ n = ap (count (map.insert v a n)) same ∙ ap (λ o. unwrap_or o 0) (get-insert_here v a n) in
          omega (arith, is, le)
      | inr apart ↦
          let is : count (map.insert v a n) u ≡ count v u = ap (λ o. unwrap_or o 0) (get-insert_elsewhere v a n u apart) in
          omega (arith, is, p.bounded u)
    ]

pub reaching_is_version : (v : Counts) (a : UniqueModel) (n : ℕ) → IsVersion v → n ≤ BOUND → IsVersion (reaching v a n)
reaching_is_version v a n p le = elim (reaching-cases v a n) [
  | inl stays ↦ subst IsVersion (sym stays.0) p
  | inr rises ↦ subst IsVersion (sym rises.0) (inserted_is_version v a n p rises.1 le)
]

-- after a count that may not have been raised
pub still_reaching : {A E : Type 0} (r : Result A E) (n v : Counts) (u : UniqueModel) (m : ℕ) → OnOk r (n ≡ reaching v u m) → OnErr r (n ≡ v) → IsVersion v → m ≤ BOUND → IsVersion n
still_reaching (Ok x) n v u m ok err p le = subst IsVersion (sym ok) (reaching_is_version v u m p le)
still_reaching (Err e) n v u m ok err p le = subst IsVersion (sym err) p

pub still_bumped : {E : Type 0} (r : Result ℕ E) (n v : Counts) (u : UniqueModel) → IfOk r (λ m. (m ≡ count v u + 1) × (n ≡ bumped v u)) → OnErr r (n ≡ v) → IsVersion v → count v u < BOUND → IsVersion n
still_bumped (Ok x) n v u ok err p room = subst IsVersion (sym ok.1) (bumped_is_version v u p room)
still_bumped (Err e) n v u ok err p room = subst IsVersion (sym err) p

-- what a process has no place for
pub count_no_place : (v : Counts) (u : UniqueModel) (n : ℕ) → Err n ≡ index unique_cmp u (map.entries v) → count v u ≡ 0
count_no_place v u n is = ap (λ o. unwrap_or o 0) (has_no_place v u n is)

-- ---- covering is an order
pub covers_itself : (v : Counts) → Covers v v
covers_itself v u = omega arith

pub covers_along : (u v w : Counts) → Covers u v → Covers v w → Covers u w
covers_along u v w p q x = omega (arith, p x, q x)

pub covers_both_ways : (v w : Counts) → IsVersion v → IsVersion w → Covers v w → Covers w v → v ≡ w
covers_both_ways v w p q one other = same_version v w p q (λ u. omega (arith, one u, other u))

pub covers_equal : (v w : Counts) → v ≡ w → Covers v w
covers_equal v w same u = let e : count v u ≡ count w u = ap (λ x. count x u) same in omega arith

-- ---- the merge is the least version that covers both
pub merged_covers_first : (v w : Counts) → Covers (merged v w) v
merged_covers_first v w u = omega (arith, count-merged v w u)

pub merged_covers_second : (v w : Counts) → Covers (merged v w) w
merged_covers_second v w u = omega (arith, count-merged v w u)

pub merged_is_covered : (u v w : Counts) → Covers u v → Covers u w → Covers u (merged v w)
merged_is_covered u v w p q x = omega (arith, count-merged v w x, p x, q x)

-- what is covered already brings nothing
pub merged_covered : (v w : Counts) → IsVersion v → IsVersion w → Covers v w → v ≡ merged v w
merged_covered v w a b le = same_version v (merged v w) a (merged_is_version v w a b) (λ u. omega (arith, le u, count-merged v w u))

pub merged-comm : (v w : Counts) → merged v w ≡ merged w v
merged-comm v w = same_table _ _ (λ u. get-merged_tables max v w u ∙ swapped (map.get v u) (map.get w u) ∙ sym (get-merged_tables max w v u))

pub merged-assoc : (u v w : Counts) → merged (merged u v) w ≡ merged u (merged v w)
merged-assoc u v w = same_table _ _ (λ x.
    get-merged_tables max (merged u v) w x
    ∙ ap (λ a. merged_at max a (map.get w x)) (get-merged_tables max u v x)
    ∙ grouped (map.get u x) (map.get v x) (map.get w x)
    ∙ ap (merged_at max (map.get u x)) (sym (get-merged_tables max v w x))
    ∙ sym (get-merged_tables max u (merged v w) x))

pub merged-idem : (v : Counts) → merged v v ≡ v
merged-idem v = same_table _ _ (λ u. get-merged_tables max v v u ∙ twice (map.get v u))

pub bumped_covers : (v : Counts) (a : UniqueModel) → Covers (bumped v a) v
bumped_covers v a u = elim (same_or_apart u a) [
  | inl same ↦ subst (λ k. count v k ≤ count (bumped v a) k) (sym same) (omega (arith, count-bumped_author v a))
  | inr apart ↦ omega (arith, count-bumped_others v a u apart)
]

-- ---- the test of covering
module _ {A : Type 0} (p : A → Bool) where
  pub passes_at : (xs : List A) (i : ℕ) (x : A) → list_all p xs ≡ true → slice_get xs i ≡ Some x → p x ≡ true
  passes_at [] i x all is = absurd (true≢false (ap is_some (sym is)))
  passes_at (y ∷ xs) zero x all is = ap p (sym (ap (λ o. unwrap_or o y) is)) ∙ first_so _ _ all
  passes_at (y ∷ xs) (suc i) x all is = passes_at xs i x (second_so _ _ all) is

  pub all_pass : (xs : List A) → ((i : ℕ) (x : A) → slice_get xs i ≡ Some x → p x ≡ true) → list_all p xs ≡ true
  all_pass [] each = refl
  all_pass (y ∷ xs) each = and_from _ _ (each 0 y refl) (all_pass xs (λ i x is. each (suc i) x is))

pub covers_from_test : (v w : Counts) → covers v w ≡ true → Covers v w
unfolding covers
covers_from_test v w all u =
    elim (map.get w u) as (λ o. map.get w u ≡ o → unwrap_or o 0 ≤ count v u) [
      | None ↦ λ _. omega arith
      | Some n ↦ λ is.
          let there = index_of_get w u n is in
          leb-true n (count v u) (passes_at (λ (pair : UniqueModel × ℕ). leb pair.1 (count v pair.0)) (map.entries w) there.0 (u, n) all there.1)
    ] refl

pub test_from_covers : (v w : Counts) → Covers v w → covers v w ≡ true
unfolding covers
test_from_covers v w over = all_pass (λ (pair : UniqueModel × ℕ). leb pair.1 (count v pair.0)) (map.entries w) (λ i pair is.
    let here : count w pair.0 ≡ pair.1 = ap (λ o. unwrap_or o 0) (get_at w i pair is) in
    let least : pair.1 ≤ count v pair.0 = omega (arith, over pair.0) in
    le-leb pair.1 (count v pair.0) least)

test_is_false : (v w : Counts) → ¬ (Covers v w) → covers v w ≡ false
test_is_false v w never = elim (covers v w) as (λ b. covers v w ≡ b → b ≡ false) [ true ↦ λ is. absurd (never (covers_from_test v w is)) | false ↦ λ _. refl ] refl

not_covers : (v w : Counts) → covers v w ≡ false → ¬ (Covers v w)
not_covers v w is over = true≢false (sym (test_from_covers v w over) ∙ is)

-- ---- the four relations
module _ (v w : Counts) (p : IsVersion v) (q : IsVersion w) where
  pub relation_means : Relates (relation v w) v w
  relation_means =
      elim (covers v w) as (λ a. covers v w ≡ a → Relates (relation_by a (covers w v)) v w) [
        | true ↦ λ over. elim (covers w v) as (λ b. covers w v ≡ b → Relates (relation_by true b) v w) [
          | true ↦ λ under. covers_both_ways v w p q (covers_from_test v w over) (covers_from_test w v under)
          | false ↦ λ not_under. (covers_from_test v w over, λ same. not_covers w v not_under (covers_equal w v same))
        ] refl
        | false ↦ λ not_over. elim (covers w v) as (λ b. covers w v ≡ b → Relates (relation_by false b) v w) [
          | true ↦ λ under. (covers_from_test w v under, λ same. not_covers v w not_over (covers_equal v w same))
          | false ↦ λ not_under. (not_covers v w not_over, not_covers w v not_under)
        ] refl
      ] refl

  by_tests : (a b : Bool) → covers v w ≡ a → covers w v ≡ b → relation v w ≡ relation_by a b
  by_tests a b is are i = relation_by (is i) (are i)

  pub relation_from : (r : Relation) → Relates r v w → relation v w ≡ r
  relation_from Same same = by_tests true true (test_from_covers v w (covers_equal v w same)) (test_from_covers w v (covers_equal w v (sym same)))
  relation_from Before h = by_tests false true (test_is_false v w (λ over. h.1 (covers_both_ways v w p q over h.0))) (test_from_covers w v h.0)
  relation_from After h = by_tests true false (test_from_covers v w h.0) (test_is_false w v (λ under. h.1 (sym (covers_both_ways v w p q h.0 under))))
  relation_from Concurrent h = by_tests false false (test_is_false v w h.0) (test_is_false w v h.1)

  pub relation_exact : (r : Relation) → (relation v w ≡ r) ↔ Relates r v w
  relation_exact r = (λ is. subst (λ r. Relates r v w) is relation_means, relation_from r)

-- a stored count is from 1 to BOUND
pub stored_count : (v : Counts) (u : UniqueModel) (n : ℕ) → IsVersion v → map.get v u ≡ Some n → (1 ≤ n) × (n ≤ BOUND)
stored_count v u n p is =
    let here : count v u ≡ n = ap (λ o. unwrap_or o 0) is in
    let stored : n ≢ 0 = λ zeros. p.no_zero u (is ∙ ap Some zeros) in
    (omega arith, omega (arith, p.bounded u))
