-- What a change of the sorted list that underlies a table makes of the table.
use Rattle.std.proofs.Common.{◌≡◌, ℕ, Bool, true, false, cond, not, T, IsTrue, List, [], ◌∷◌, ◌++◌, ◌<◌, length, set, insert, get_or, slice_get, option_map, is_some, None, Result, Ok, Err, MatchResult, refl, sym, ap, ◌∙◌, subst, arith}
use Rattle.std.proofs.lemmas.Option.{slice_get-get_or}
use Rattle.std.proofs.lemmas.List.Edits.{insert_end}
use Rattle.std.specs.Ordering.{is_eq, eq_by_cmp}
use Rattle.std.specs.Cmp.{alike_right, eq_by_cmp_equiv}
use Rattle.std.specs.FinMap as map
use Rattle.std.specs.FinMap.Entries.{where_key, find-where_key, is_sorted-where_key}
use Rattle.ak_address.specs.Unique.{UniqueModel, unique_cmp}
use Rattle.ak_address.specs.Table.{merged_tables, with_pairs}
use Rattle.ak_address.specs.Pairs.{index, woven}
use Rattle.ak_address.proofs.OrderLemmas.{unique_total, unique_exact}
use Rattle.ak_address.proofs.Pairs.{Stands, Goes, known, sorted_woven}
use Rattle.ak_address.proofs.TableLaws.{is_true, true_is, same_table, none_of_length, entries-empty, no_pairs, pairs_of, pairs_found, pairs_sorted, pairs_back, woven_merged, get-remove}

turned : {A : Type 0} (b : Bool) (x y : A) → cond (not b) x y ≡ cond b y x
turned true x y = refl
turned false x y = refl

-- a list that has an index has a pair
first_pair : {A : Type 0} (es : List A) (n : ℕ) → n < length es → A
first_pair [] n lt = absurd (omega arith)
first_pair (e ∷ es) n lt = e

-- a list in order that is seen as a table
pub record Underlies {X : Type 0} (es : List (UniqueModel × X)) (m : map.FinMap unique_cmp X) : Type 0 where
  pub in_order : IsTrue (map.is_sorted unique_cmp es)
  pub seen : map.from_sorted es ≡ m

module _ {X : Type 0} where
  pub underlies_pairs : (es : List (UniqueModel × X)) (m : map.FinMap unique_cmp X) → map.entries m ≡ es → Underlies es m
  underlies_pairs es m is = subst (λ l. Underlies l m) is (record { in_order = pairs_sorted m; seen = pairs_back m })

  module _ (es : List (UniqueModel × X)) (m : map.FinMap unique_cmp X) (b : Underlies es m) where
    pub pairs : map.entries m ≡ es
    pairs = pairs_of es b.in_order m b.seen

    -- the table is empty exactly where the list is
    pub none_in : m ≡ map.empty → length es ≡ 0
    none_in is = ap length (sym pairs) ∙ ap (λ t. length (map.entries t)) is ∙ ap length entries-empty

    pub none_of : length es ≡ 0 → m ≡ map.empty
    none_of e = sym b.seen ∙ ap (λ l. map.from_sorted {R = unique_cmp} l) (none_of_length es e) ∙ no_pairs

    pub found_in : (q : UniqueModel) → map.find unique_cmp q es ≡ map.get m q
    found_in q = pairs_found es b.in_order m b.seen q

    pub underlies_put : (q : UniqueModel) (v : X) (fs : List (UniqueModel × X)) → map.put unique_cmp q v es ≡ fs → Underlies fs (map.insert m q v)
    underlies_put q v fs is = underlies_pairs fs _ (map.entries-insert unique_total m q v ∙ ap (map.put unique_cmp q v) pairs ∙ is)

    -- a new value at the index of a key
    pub underlies_renewed : (q k : UniqueModel) (v : X) (d : UniqueModel × X) (n : ℕ) → Stands unique_cmp q es n → k ≡ (get_or es n d).0 → Underlies (set es n (k, v)) (map.insert m q v)
    underlies_renewed q k v d n s is = underlies_put q v _ (s.put_there v ∙ ap (λ k. set es n (k, v)) (sym (is ∙ s.held d)))

    pub has_at_index : (q : UniqueModel) (n : ℕ) → Stands unique_cmp q es n → true ≡ map.contains_key m q
    has_at_index q n s =
        ap is_some (ap (option_map (λ e. e.1)) (sym (slice_get-get_or es n (first_pair es n s.in_range) s.in_range)) ∙ sym s.found ∙ found_in q)

    pub underlies_without : (q : UniqueModel) (fs : List (UniqueModel × X)) → where_key unique_cmp (λ x. not (eq_by_cmp unique_cmp q x)) es ≡ fs → Underlies fs (map.remove m q)
    underlies_without q fs is =
        let p : UniqueModel → Bool = λ x. not (eq_by_cmp unique_cmp q x) in
        let in_order : T (map.is_sorted unique_cmp (where_key unique_cmp p es)) = is_sorted-where_key unique_cmp p es (is_true _ b.in_order) in
        subst (λ l. Underlies l (map.remove m q)) is (record {
          in_order = true_is _ in_order;
          seen = same_table _ _ (λ x.
              map.get-from_sorted unique_cmp (where_key unique_cmp p es) x in_order
              ∙ find-where_key unique_cmp p x (λ y t. ap (λ r. not (is_eq r)) (sym (alike_right unique_total x y q t))) es
              ∙ turned (eq_by_cmp unique_cmp q x) _ _
              ∙ ap (λ t. cond t None (map.find unique_cmp x es)) ((eq_by_cmp_equiv unique_total).symm q x)
              ∙ ap (cond (eq_by_cmp unique_cmp x q) None) (found_in x)
              ∙ sym (get-remove m q x));
        })

    -- what a search says of a key
    known_in : (q : UniqueModel) (fs : List (UniqueModel × X)) (r : Result ℕ ℕ) → fs ≡ es → r ≡ index unique_cmp q fs → MatchResult r (Stands unique_cmp q es) (Goes unique_cmp q es)
    known_in q fs r same is = known unique_cmp unique_total unique_exact q es (is_true _ b.in_order) r (is ∙ ap (index unique_cmp q) same)

    pub stands_at : (q : UniqueModel) (fs : List (UniqueModel × X)) (n : ℕ) → fs ≡ es → Ok n ≡ index unique_cmp q fs → Stands unique_cmp q es n
    stands_at q fs n same is = known_in q fs (Ok n) same is

    pub goes_at : (q : UniqueModel) (fs : List (UniqueModel × X)) (n : ℕ) → fs ≡ es → Err n ≡ index unique_cmp q fs → Goes unique_cmp q es n
    goes_at q fs n same is = known_in q fs (Err n) same is

    -- a new pair at the place where it goes
    pub underlies_placed : (q : UniqueModel) (v : X) (n : ℕ) (fs : List (UniqueModel × X)) → Err n ≡ index unique_cmp q (map.entries m) → fs ≡ insert es n (q, v) → Underlies fs (map.insert m q v)
    underlies_placed q v n fs goes is = underlies_put q v fs ((goes_at q _ n pairs goes).put_there v ∙ sym is)

    -- where that is the end, it is pushed
    pub underlies_pushed : (q : UniqueModel) (v : X) (n : ℕ) (fs : List (UniqueModel × X)) → Err n ≡ index unique_cmp q (map.entries m) → n ≡ length es → fs ≡ es ++ (q, v) ∷ [] → Underlies fs (map.insert m q v)
    underlies_pushed q v n fs goes at_end is = underlies_placed q v n fs goes (is ∙ sym (ap (λ n. insert es n (q, v)) at_end ∙ insert_end es (q, v)))

    pub absent_in : (q : UniqueModel) (n : ℕ) → Goes unique_cmp q es n → map.get m q ≡ None
    absent_in q n g = sym (found_in q) ∙ g.absent

  -- a table that has no process brings nothing
  pub merged_with_none : (f : X → X → X) (m n : map.FinMap unique_cmp X) → n ≡ map.empty → m ≡ merged_tables f m n
  unfolding merged_tables
  merged_with_none f m n is = sym (ap (merged_tables f m) is ∙ ap (with_pairs f m) entries-empty)

  pub underlies_merged : (f : X → X → X) (es fs : List (UniqueModel × X)) (m n : map.FinMap unique_cmp X) → Underlies es m → Underlies fs n → (ws : List (UniqueModel × X)) → ws ≡ woven unique_cmp f es fs → Underlies ws (merged_tables f m n)
  underlies_merged f es fs m n b d ws is =
      let ups = pairs es m b in
      let downs = pairs fs n d in
      let whole : ws ≡ woven unique_cmp f (map.entries m) (map.entries n) = is ∙ (λ i. woven unique_cmp f (sym ups i) (sym downs i)) in
      subst (λ l. Underlies l (merged_tables f m n)) (sym whole) (record { in_order = in_order_of m n; seen = woven_merged f m n })
    where
      in_order_of : (m n : map.FinMap unique_cmp X) → IsTrue (map.is_sorted unique_cmp (woven unique_cmp f (map.entries m) (map.entries n)))
      in_order_of m n = true_is _ (sorted_woven unique_cmp f unique_total (map.entries m) (map.entries_sorted m) (map.entries n) (map.entries_sorted n))

  -- ---- what the place of a key in a table says of it
  module _ (m : map.FinMap unique_cmp X) (q : UniqueModel) (n : ℕ) where
    pub stands_in : Ok n ≡ index unique_cmp q (map.entries m) → Stands unique_cmp q (map.entries m) n
    stands_in is = known unique_cmp unique_total unique_exact q (map.entries m) (map.entries_sorted m) (Ok n) is

    pub goes_in : Err n ≡ index unique_cmp q (map.entries m) → Goes unique_cmp q (map.entries m) n
    goes_in is = known unique_cmp unique_total unique_exact q (map.entries m) (map.entries_sorted m) (Err n) is

    pub get_at_place : Ok n ≡ index unique_cmp q (map.entries m) → map.get m q ≡ option_map (λ e. e.1) (slice_get (map.entries m) n)
    get_at_place is = map.get-entries m q ∙ (stands_in is).found

    pub place_in_range : Ok n ≡ index unique_cmp q (map.entries m) → n < map.len m
    place_in_range is = omega (arith, (stands_in is).in_range, map.len-entries m)

    pub has_place : Ok n ≡ index unique_cmp q (map.entries m) → map.contains_key m q ≡ true
    has_place is = ap is_some (get_at_place is ∙ ap (option_map (λ e. e.1)) (slice_get-get_or (map.entries m) n (first_pair (map.entries m) n (stands_in is).in_range) (stands_in is).in_range))

    pub has_no_place : Err n ≡ index unique_cmp q (map.entries m) → map.get m q ≡ None
    has_no_place is = map.get-entries m q ∙ (goes_in is).absent
