-- Joins of tables keep the laws of the merges of their values, and one more row of a table is a row more of a merge.
use Rattle.std.proofs.Common.{◌≡◌, ◌≢◌, Bool, true, false, cond, Option, Some, None, refl, sym, ap, ◌∙◌}
use Rattle.std.specs.Ordering.{eq_by_cmp}
use Rattle.std.specs.FinMap as map
use Rattle.ak_address.specs.Unique.{UniqueModel, unique_cmp}
use Rattle.ak_address.specs.Table.{merged_at, value_with, merged_tables}
use Rattle.ak_address.proofs.TableLaws.{same_table, same_key, get-merged_tables, get-empty, get-insert, get-insert_here, get-insert_elsewhere}

-- the table with this value of a key merged with what is there
abbrev pub with_known : {X : Type 0} → (X → X → X) → map.FinMap unique_cmp X → UniqueModel → X → map.FinMap unique_cmp X
with_known f m k x = map.insert m k (value_with f (map.get m k) x)

module _ {X : Type 0} (f : X → X → X) where
  -- ---- of one key
  swapped_at : (a b : Option X) → ((x y : X) → a ≡ Some x → b ≡ Some y → f x y ≡ f y x) → merged_at f a b ≡ merged_at f b a
  swapped_at None None swap = refl
  swapped_at None (Some y) swap = refl
  swapped_at (Some x) None swap = refl
  swapped_at (Some x) (Some y) swap = ap Some (swap x y refl refl)

  grouped_at : ((x y z : X) → f (f x y) z ≡ f x (f y z)) → (a b c : Option X) → merged_at f (merged_at f a b) c ≡ merged_at f a (merged_at f b c)
  grouped_at group None b c = refl
  grouped_at group (Some x) None c = refl
  grouped_at group (Some x) (Some y) None = refl
  grouped_at group (Some x) (Some y) (Some z) = ap Some (group x y z)

  twice_at : ((x : X) → f x x ≡ x) → (a : Option X) → merged_at f a a ≡ a
  twice_at same None = refl
  twice_at same (Some x) = ap Some (same x)

  -- ---- of tables
  -- two tables whose values join alike either way at each key
  pub merged_either_way : (m n : map.FinMap unique_cmp X) → ((q : UniqueModel) (x y : X) → map.get m q ≡ Some x → map.get n q ≡ Some y → f x y ≡ f y x) → merged_tables f m n ≡ merged_tables f n m
  merged_either_way m n swap =
      same_table _ _ (λ q. get-merged_tables f m n q ∙ swapped_at (map.get m q) (map.get n q) (swap q) ∙ sym (get-merged_tables f n m q))

  pub merged_commutative : ((x y : X) → f x y ≡ f y x) → (m n : map.FinMap unique_cmp X) → merged_tables f m n ≡ merged_tables f n m
  merged_commutative swap m n = merged_either_way m n (λ q x y _ _. swap x y)

  pub merged_associative : ((x y z : X) → f (f x y) z ≡ f x (f y z)) → (l m n : map.FinMap unique_cmp X) → merged_tables f (merged_tables f l m) n ≡ merged_tables f l (merged_tables f m n)
  merged_associative group l m n =
      same_table _ _ (λ q.
      get-merged_tables f (merged_tables f l m) n q
      ∙ ap (λ a. merged_at f a (map.get n q)) (get-merged_tables f l m q)
      ∙ grouped_at group (map.get l q) (map.get m q) (map.get n q)
      ∙ ap (merged_at f (map.get l q)) (sym (get-merged_tables f m n q))
      ∙ sym (get-merged_tables f l (merged_tables f m n) q))

  pub merged_idempotent : ((x : X) → f x x ≡ x) → (m : map.FinMap unique_cmp X) → merged_tables f m m ≡ m
  merged_idempotent same m = same_table _ _ (λ q. get-merged_tables f m m q ∙ twice_at same (map.get m q))

  -- ---- one value more
  pub get-with_known_here : (m : map.FinMap unique_cmp X) (k : UniqueModel) (x : X) → map.get (with_known f m k x) k ≡ Some (value_with f (map.get m k) x)
  get-with_known_here m k x = get-insert_here m k (value_with f (map.get m k) x)

  pub get-with_known_elsewhere : (m : map.FinMap unique_cmp X) (k q : UniqueModel) (x : X) → q ≢ k → map.get (with_known f m k x) q ≡ map.get m q
  get-with_known_elsewhere m k q x apart = get-insert_elsewhere m k (value_with f (map.get m k) x) q apart

  -- a value more of a key is a merge with the table of that value alone
  one_more_at : (b : Bool) (a c : Option X) (x : X) → (b ≡ true → c ≡ a) → cond b (Some (value_with f a x)) c ≡ merged_at f c (cond b (Some x) None)
  one_more_at true None c x same = ap (λ a. merged_at f a (Some x)) (sym (same refl))
  one_more_at true (Some y) c x same = ap (λ a. merged_at f a (Some x)) (sym (same refl))
  one_more_at false a None x same = refl
  one_more_at false a (Some y) x same = refl

  pub known_is_merged : (m : map.FinMap unique_cmp X) (k : UniqueModel) (x : X) → with_known f m k x ≡ merged_tables f m (map.insert map.empty k x)
  known_is_merged m k x =
      same_table _ _ (λ q.
      get-insert m k (value_with f (map.get m k) x) q
      ∙ one_more_at (eq_by_cmp unique_cmp q k) (map.get m k) (map.get m q) x (λ tied. ap (map.get m) (same_key q k tied))
      ∙ ap (merged_at f (map.get m q)) (sym (get-insert map.empty k x q ∙ ap (cond (eq_by_cmp unique_cmp q k) (Some x)) (get-empty q)))
      ∙ sym (get-merged_tables f m (map.insert map.empty k x) q))

  module _ (swap : (x y : X) → f x y ≡ f y x) (group : (x y z : X) → f (f x y) z ≡ f x (f y z)) where
    -- what is added to a merge is added to one of the two
    added_to_one : (m n o : map.FinMap unique_cmp X) → merged_tables f (merged_tables f m n) o ≡ merged_tables f (merged_tables f m o) n
    added_to_one m n o = merged_associative group m n o ∙ ap (merged_tables f m) (merged_commutative swap n o) ∙ sym (merged_associative group m o n)

    pub known_to_one : (m n : map.FinMap unique_cmp X) (k : UniqueModel) (x : X) → with_known f (merged_tables f m n) k x ≡ merged_tables f (with_known f m k x) n
    known_to_one m n k x =
        known_is_merged (merged_tables f m n) k x ∙ added_to_one m n (map.insert map.empty k x) ∙ ap (λ l. merged_tables f l n) (sym (known_is_merged m k x))

    -- or to both
    pub known_to_both : ((x : X) → f x x ≡ x) → (m n : map.FinMap unique_cmp X) (k : UniqueModel) (x : X) → with_known f (merged_tables f m n) k x ≡ merged_tables f (with_known f m k x) (with_known f n k x)
    known_to_both same m n k x =
        let o = map.insert map.empty k x in
        known_to_one m n k x
        ∙ ap (λ l. merged_tables f l n) (known_is_merged m k x ∙ ap (merged_tables f m) (sym (merged_idempotent same o)) ∙ sym (merged_associative group m o o))
        ∙ merged_associative group (merged_tables f m o) o n
        ∙ ap (merged_tables f (merged_tables f m o)) (merged_commutative swap o n)
        ∙ (λ i. merged_tables f (sym (known_is_merged m k x) i) (sym (known_is_merged n k x) i))
