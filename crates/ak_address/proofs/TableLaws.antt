-- What a table over processes answers: at each key after a change and after a merge, and at each index.
use Rattle.std.proofs.Common.{◌≡◌, ℕ, ◌<◌, Bool, true, false, cond, T, IsTrue, List, [], ◌∷◌, length, slice_get, Option, Some, None, ◌≢◌, ◌⊎◌, inl, inr, refl, sym, ap, ◌∙◌, subst, arith}
use Rattle.std.specs.declared.cmp.Ordering.TheVariants.{Less, Equal, Greater}
use Rattle.std.specs.Ordering.{is_eq, eq_by_cmp}
use Rattle.std.specs.Cmp.{tied_itself}
use Rattle.std.specs.FinMap as map
use Rattle.ak_address.specs.Unique.{UniqueModel, unique_cmp}
use Rattle.ak_address.specs.Table.{merged_at, value_with, with_pairs, merged_tables}
use Rattle.ak_address.specs.Pairs.{woven}
use Rattle.ak_address.proofs.OrderLemmas.{unique_total, unique_exact}
use Rattle.ak_address.proofs.Pairs.{first, second, find_below, find_at, rises, index_of_found, find_woven, sorted_woven}

-- ---- keys
pub key_itself : (q : UniqueModel) → eq_by_cmp unique_cmp q q ≡ true
key_itself q = ap is_eq (tied_itself unique_total q)

pub same_key : (q k : UniqueModel) → eq_by_cmp unique_cmp q k ≡ true → q ≡ k
same_key q k h =
    elim (unique_cmp q k) as (λ r. unique_cmp q k ≡ r → is_eq r ≡ true → q ≡ k) [
      | Less ↦ λ _ no. absurd (subst T (sym no) tt)
      | Equal ↦ λ tied _. unique_exact q k tied
      | Greater ↦ λ _ no. absurd (subst T (sym no) tt)
    ] refl h

pub other_key : (q k : UniqueModel) → q ≢ k → eq_by_cmp unique_cmp q k ≡ false
other_key q k apart =
    elim (eq_by_cmp unique_cmp q k) as (λ b. eq_by_cmp unique_cmp q k ≡ b → b ≡ false) [ true ↦ λ h. absurd (apart (same_key q k h)) | false ↦ λ _. refl ] refl

pub same_or_apart : (q k : UniqueModel) → (q ≡ k) ⊎ (q ≢ k)
same_or_apart q k =
    elim (eq_by_cmp unique_cmp q k) as (λ b. eq_by_cmp unique_cmp q k ≡ b → (q ≡ k) ⊎ (q ≢ k)) [
      | true ↦ λ h. inl (same_key q k h)
      | false ↦ λ h. inr (λ same. subst T (sym (key_itself q) ∙ ap (eq_by_cmp unique_cmp q) same ∙ h) tt)
    ] refl

pub is_true : (b : Bool) → b ≡ true → T b
is_true b e = subst T (sym e) tt

pub true_is : (b : Bool) → T b → b ≡ true
true_is true h = refl
true_is false h = absurd h

pub none_of_length : {A : Type 0} (es : List A) → length es ≡ 0 → es ≡ []
none_of_length [] e = refl
none_of_length (x ∷ es) e = absurd (omega arith)

module _ {X : Type 0} where
  -- ---- at each key
  pub get-empty : (q : UniqueModel) → map.get (map.empty {X = X} {R = unique_cmp}) q ≡ None
  get-empty q = map.get-empty unique_cmp q

  pub get-insert : (m : map.FinMap unique_cmp X) (k : UniqueModel) (v : X) (q : UniqueModel) → map.get (map.insert m k v) q ≡ cond (eq_by_cmp unique_cmp q k) (Some v) (map.get m q)
  get-insert m k v q = map.get-insert unique_total m k v q

  pub get-insert_here : (m : map.FinMap unique_cmp X) (k : UniqueModel) (v : X) → map.get (map.insert m k v) k ≡ Some v
  get-insert_here m k v = get-insert m k v k ∙ ap (λ b. cond b (Some v) (map.get m k)) (key_itself k)

  pub get-insert_elsewhere : (m : map.FinMap unique_cmp X) (k : UniqueModel) (v : X) (q : UniqueModel) → q ≢ k → map.get (map.insert m k v) q ≡ map.get m q
  get-insert_elsewhere m k v q apart = get-insert m k v q ∙ ap (λ b. cond b (Some v) (map.get m q)) (other_key q k apart)

  pub get-remove : (m : map.FinMap unique_cmp X) (k q : UniqueModel) → map.get (map.remove m k) q ≡ cond (eq_by_cmp unique_cmp q k) None (map.get m q)
  get-remove m k q = map.get-remove unique_total m k q

  pub get-remove_here : (m : map.FinMap unique_cmp X) (k : UniqueModel) → map.get (map.remove m k) k ≡ None
  get-remove_here m k = get-remove m k k ∙ ap (λ b. cond b None (map.get m k)) (key_itself k)

  pub get-remove_elsewhere : (m : map.FinMap unique_cmp X) (k q : UniqueModel) → q ≢ k → map.get (map.remove m k) q ≡ map.get m q
  get-remove_elsewhere m k q apart = get-remove m k q ∙ ap (λ b. cond b None (map.get m q)) (other_key q k apart)

  -- two tables that answer alike at each key are equal
  pub same_table : (m n : map.FinMap unique_cmp X) → ((q : UniqueModel) → map.get m q ≡ map.get n q) → m ≡ n
  same_table m n is = map.same_map unique_total unique_exact m n is

  -- ---- the pairs
  pub entries-empty : map.entries (map.empty {X = X} {R = unique_cmp}) ≡ []
  entries-empty = none_of_length _ (sym (map.len-entries map.empty) ∙ map.len-empty unique_cmp X)

  pub entries-insert : (m : map.FinMap unique_cmp X) (k : UniqueModel) (v : X) → map.entries (map.insert m k v) ≡ map.put unique_cmp k v (map.entries m)
  entries-insert m k v = map.entries-insert unique_total m k v

  pub entries-insert-empty : (k : UniqueModel) (v : X) → map.entries (map.insert (map.empty {X = X} {R = unique_cmp}) k v) ≡ (k, v) ∷ []
  entries-insert-empty k v = entries-insert map.empty k v ∙ ap (map.put unique_cmp k v) entries-empty

  -- the pair at an index is what the table has at its key
  pub get_at : (m : map.FinMap unique_cmp X) (index : ℕ) (pair : UniqueModel × X) → slice_get (map.entries m) index ≡ Some pair → map.get m pair.0 ≡ Some pair.1
  get_at m index pair is = map.get-entries m pair.0 ∙ find_at unique_cmp unique_total (map.entries m) index pair (map.entries_sorted m) is

  -- what the table has at a key stands at some index
  pub index_of_get : (m : map.FinMap unique_cmp X) (q : UniqueModel) (v : X) → map.get m q ≡ Some v → (index : ℕ) × (slice_get (map.entries m) index ≡ Some (q, v))
  index_of_get m q v is = index_of_found unique_cmp unique_exact q v (map.entries m) (sym (map.get-entries m q) ∙ is)

  -- the keys of indices strictly rise
  pub keys_rise : (m : map.FinMap unique_cmp X) (i j : ℕ) (d e : UniqueModel × X) → i < j → slice_get (map.entries m) i ≡ Some d → slice_get (map.entries m) j ≡ Some e → unique_cmp d.0 e.0 ≡ Less
  keys_rise m i j d e lt is js = rises unique_cmp unique_total (map.entries m) i j d e (map.entries_sorted m) lt is js

  -- ---- joins
  module _ (f : X → X → X) where
    with_value : (a : Option X) (y : X) → Some (value_with f a y) ≡ merged_at f a (Some y)
    with_value None y = refl
    with_value (Some x) y = refl

    merged_none : (a : Option X) → merged_at f a None ≡ a
    merged_none None = refl
    merged_none (Some x) = refl

    -- at the key of a pair that is not among the later pairs
    with_pair : (m n : map.FinMap unique_cmp X) (k q : UniqueModel) (y : X) (b : Option X) (t : Bool)
        → eq_by_cmp unique_cmp q k ≡ t → map.get n k ≡ map.get m k → map.get n q ≡ merged_at f (map.get m q) b
        → cond t (Some (value_with f (map.get n k) y)) (map.get n q) ≡ merged_at f (map.get m q) (cond t (Some y) b)
    with_pair m n k q y b true tied here there = with_value (map.get n k) y ∙ ap (λ a. merged_at f a (Some y)) (here ∙ ap (map.get m) (sym (same_key q k tied)))
    with_pair m n k q y b false tied here there = there

    get-with_pairs : (m : map.FinMap unique_cmp X) (es : List (UniqueModel × X)) → T (map.is_sorted unique_cmp es) → (q : UniqueModel) → map.get (with_pairs f m es) q ≡ merged_at f (map.get m q) (map.find unique_cmp q es)
    get-with_pairs m [] h q = sym (merged_none (map.get m q))
    get-with_pairs m (e ∷ es) h q =
        let n = with_pairs f m es in
        let rest = get-with_pairs m es (second _ _ h) in
        let here : map.get n e.0 ≡ map.get m e.0 = rest e.0 ∙ ap (merged_at f (map.get m e.0)) (find_below unique_cmp unique_total e.0 es (first _ _ h)) ∙ merged_none (map.get m e.0) in
        get-insert n e.0 (value_with f (map.get n e.0) e.1) q ∙ with_pair m n e.0 q e.1 (map.find unique_cmp q es) (eq_by_cmp unique_cmp q e.0) refl here (rest q)

    -- at each key, the merge has what the two tables say of it together
    pub get-merged_tables : (m n : map.FinMap unique_cmp X) (q : UniqueModel) → map.get (merged_tables f m n) q ≡ merged_at f (map.get m q) (map.get n q)
    unfolding merged_tables
    get-merged_tables m n q = get-with_pairs m (map.entries n) (map.entries_sorted n) q ∙ ap (merged_at f (map.get m q)) (sym (map.get-entries n q))

    -- the pairs of the merge are those of both, woven
    pub woven_merged : (m n : map.FinMap unique_cmp X) → map.from_sorted {R = unique_cmp} (woven unique_cmp f (map.entries m) (map.entries n)) ≡ merged_tables f m n
    woven_merged m n =
        let xs = map.entries m in
        let ys = map.entries n in
        let sorted = sorted_woven unique_cmp f unique_total xs (map.entries_sorted m) ys (map.entries_sorted n) in
        same_table _ _ (λ q.
        map.get-from_sorted unique_cmp (woven unique_cmp f xs ys) q sorted
        ∙ find_woven unique_cmp f unique_total q xs (map.entries_sorted m) ys (map.entries_sorted n)
        ∙ (λ i. merged_at f (sym (map.get-entries m q) i) (sym (map.get-entries n q) i))
        ∙ sym (get-merged_tables m n q))

  -- ---- what the sorted list that underlies a table says of it
  pub pairs_of : (es : List (UniqueModel × X)) → IsTrue (map.is_sorted unique_cmp es) → (m : map.FinMap unique_cmp X) → map.from_sorted es ≡ m → map.entries m ≡ es
  pairs_of es sorted m is = ap map.entries (sym is) ∙ map.entries-from_sorted unique_cmp es (is_true _ sorted)

  pub pairs_found : (es : List (UniqueModel × X)) → IsTrue (map.is_sorted unique_cmp es) → (m : map.FinMap unique_cmp X) → map.from_sorted es ≡ m → (q : UniqueModel) → map.find unique_cmp q es ≡ map.get m q
  pairs_found es sorted m is q = sym (map.get-from_sorted unique_cmp es q (is_true _ sorted)) ∙ ap (λ n. map.get n q) is

  pub pairs_counted : (es : List (UniqueModel × X)) → IsTrue (map.is_sorted unique_cmp es) → (m : map.FinMap unique_cmp X) → map.from_sorted es ≡ m → length es ≡ map.len m
  pairs_counted es sorted m is = ap length (sym (pairs_of es sorted m is)) ∙ sym (map.len-entries m)

  pub no_pairs : map.from_sorted {X = X} {R = unique_cmp} [] ≡ map.empty
  no_pairs = same_table _ _ (λ q. map.get-from_sorted unique_cmp [] q tt ∙ sym (get-empty q))

  pub pairs_sorted : (m : map.FinMap unique_cmp X) → IsTrue (map.is_sorted unique_cmp (map.entries m))
  pairs_sorted m = true_is _ (map.entries_sorted m)

  -- the table of its own pairs is the table itself
  pub pairs_back : (m : map.FinMap unique_cmp X) → map.from_sorted (map.entries m) ≡ m
  pairs_back m = map.same_entries_map _ _ (map.entries-from_sorted unique_cmp (map.entries m) (map.entries_sorted m))
