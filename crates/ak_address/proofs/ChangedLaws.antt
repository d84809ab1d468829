-- What a table answers whose values are changed, each by itself.
use Rattle.std.proofs.Common.{◌≡◌, Bool, true, false, cond, T, List, [], ◌∷◌, map, Option, Some, None, is_some, option_map, refl, sym, ap, ◌∙◌}
use Rattle.std.specs.Ordering.{eq_by_cmp, is_lt}
use Rattle.std.specs.FinMap as finmap
use Rattle.std.specs.FinMap.Entries.{below_all}
use Rattle.ak_address.specs.Unique.{UniqueModel, unique_cmp}
use Rattle.ak_address.specs.Uniques.{in_order, has}
use Rattle.ak_address.specs.Changed.{changed, keys_of}
use Rattle.ak_address.proofs.Pairs.{both, first, second}
use Rattle.ak_address.proofs.TableLaws.{is_true, true_is, same_table, get-empty, get-insert, pairs_of}
use Rattle.ak_address.proofs.TableLemmas.{Underlies}

module _ {X Y : Type 0} (f : X → Y) where
  abbrev pub rows_changed : List (UniqueModel × X) → List (UniqueModel × Y)
  rows_changed es = map (λ (e : UniqueModel × X). (e.0, f e.1)) es

  below_changed : (k : UniqueModel) (es : List (UniqueModel × X)) → T (below_all unique_cmp k es) → T (below_all unique_cmp k (rows_changed es))
  below_changed k [] h = h
  below_changed k (e ∷ es) h = both (is_lt (unique_cmp k e.0)) (below_all unique_cmp k (rows_changed es)) (first _ _ h) (below_changed k es (second _ _ h))

  pub sorted_changed : (es : List (UniqueModel × X)) → T (finmap.is_sorted unique_cmp es) → T (finmap.is_sorted unique_cmp (rows_changed es))
  sorted_changed [] h = h
  sorted_changed (e ∷ es) h = both (below_all unique_cmp e.0 (rows_changed es)) (finmap.is_sorted unique_cmp (rows_changed es)) (below_changed e.0 es (first _ _ h)) (sorted_changed es (second _ _ h))

  mapped : (b : Bool) (x : X) (a : Option X) → cond b (Some (f x)) (option_map f a) ≡ option_map f (cond b (Some x) a)
  mapped true x a = refl
  mapped false x a = refl

  find_changed : (q : UniqueModel) (es : List (UniqueModel × X)) → finmap.find unique_cmp q (rows_changed es) ≡ option_map f (finmap.find unique_cmp q es)
  find_changed q [] = refl
  find_changed q (e ∷ es) = ap (cond (eq_by_cmp unique_cmp q e.0) (Some (f e.1))) (find_changed q es) ∙ mapped (eq_by_cmp unique_cmp q e.0) e.1 (finmap.find unique_cmp q es)

  -- the pairs, and what stands at a key
  pub entries-changed : (m : finmap.FinMap unique_cmp X) → finmap.entries (changed f m) ≡ rows_changed (finmap.entries m)
  entries-changed m = finmap.entries-from_sorted unique_cmp (rows_changed (finmap.entries m)) (sorted_changed (finmap.entries m) (finmap.entries_sorted m))

  pub get-changed : (m : finmap.FinMap unique_cmp X) (q : UniqueModel) → finmap.get (changed f m) q ≡ option_map f (finmap.get m q)
  get-changed m q =
      finmap.get-from_sorted unique_cmp (rows_changed (finmap.entries m)) q (sorted_changed (finmap.entries m) (finmap.entries_sorted m))
      ∙ find_changed q (finmap.entries m)
      ∙ ap (option_map f) (sym (finmap.get-entries m q))

  -- a changed table has a key where the table has it
  same_presence : (a : Option X) → is_some (option_map f a) ≡ is_some a
  same_presence None = refl
  same_presence (Some x) = refl

  pub contains_key-changed : (m : finmap.FinMap unique_cmp X) (q : UniqueModel) → finmap.contains_key (changed f m) q ≡ finmap.contains_key m q
  contains_key-changed m q = ap is_some (get-changed m q) ∙ same_presence (finmap.get m q)

  pub changed-empty : changed f finmap.empty ≡ finmap.empty
  changed-empty = same_table _ _ (λ q. get-changed finmap.empty q ∙ ap (option_map f) (get-empty q) ∙ sym (get-empty q))

  pub changed-insert : (m : finmap.FinMap unique_cmp X) (k : UniqueModel) (x : X) → changed f (finmap.insert m k x) ≡ finmap.insert (changed f m) k (f x)
  changed-insert m k x = same_table _ _ (λ q.
      get-changed (finmap.insert m k x) q
      ∙ ap (option_map f) (get-insert m k x q)
      ∙ sym (mapped (eq_by_cmp unique_cmp q k) x (finmap.get m q))
      ∙ ap (cond (eq_by_cmp unique_cmp q k) (Some (f x))) (sym (get-changed m q))
      ∙ sym (get-insert (changed f m) k (f x) q))

  -- the list that a changed table stands on
  pub behind_changed : (es : List (UniqueModel × X)) (m : finmap.FinMap unique_cmp X) → Underlies es m → (fs : List (UniqueModel × Y)) → fs ≡ rows_changed es → Underlies fs (changed f m)
  behind_changed es m b fs is = record {
    in_order = ap (finmap.is_sorted unique_cmp) is ∙ true_is _ (sorted_changed es (is_true _ b.in_order));
    seen = ap finmap.from_sorted (is ∙ ap rows_changed (sym (pairs_of es b.in_order m b.seen)));
  }

-- two changes, one after the other
module _ {X Y Z : Type 0} (f : X → Y) (g : Y → Z) where
  both_mapped : (a : Option X) → option_map g (option_map f a) ≡ option_map (λ x. g (f x)) a
  both_mapped None = refl
  both_mapped (Some x) = refl

  pub changed-changed : (m : finmap.FinMap unique_cmp X) → changed g (changed f m) ≡ changed (λ x. g (f x)) m
  changed-changed m = same_table _ _ (λ q.
      get-changed g (changed f m) q
      ∙ ap (option_map g) (get-changed f m q)
      ∙ both_mapped (finmap.get m q)
      ∙ sym (get-changed (λ x. g (f x)) m q))

-- ---- the keys of a table
module _ {X : Type 0} where
  keys_alike : (es : List (UniqueModel × X)) → map (λ (e : UniqueModel × Unit {0}). e.0) (rows_changed (λ (x : X). tt) es) ≡ map (λ (e : UniqueModel × X). e.0) es
  keys_alike [] = refl
  keys_alike (e ∷ es) = ap (λ ks. e.0 ∷ ks) (keys_alike es)

  pub in_order-keys_of : (m : finmap.FinMap unique_cmp X) → in_order (keys_of m) ≡ finmap.keys m
  in_order-keys_of m = ap (map (λ (e : UniqueModel × Unit {0}). e.0)) (entries-changed (λ (x : X). tt) m) ∙ keys_alike (finmap.entries m)

  pub has-keys_of : (m : finmap.FinMap unique_cmp X) (q : UniqueModel) → has (keys_of m) q ≡ finmap.contains_key m q
  has-keys_of m q = contains_key-changed (λ (x : X). tt) m q
