-- What a set of processes has after a change, and at each index.
use Rattle.std.proofs.Common.{◌≡◌, ℕ, Bool, true, false, cond, ◌&&◌, ◌||◌, List, [], ◌∷◌, length, slice_get, Option, Some, None, is_some, unwrap_or, option_map, refl, sym, ap, ◌∙◌, true≢false}
use Rattle.std.specs.Ordering.{eq_by_cmp}
use Rattle.std.specs.FinMap as map
use Rattle.std.specs.List.{list_any}
use Rattle.std.proofs.lemmas.Option.{slice_get-map}
use Rattle.std.proofs.lemmas.List.{length-map}
use Rattle.ak_address.specs.Unique.{UniqueModel, unique_cmp}
use Rattle.ak_address.specs.Table.{merged_at}
use Rattle.ak_address.specs.Uniques.{UniqueSet, no_one, has, with_one, those, in_order, union, set_of, how_many}
use Rattle.ak_address.proofs.OrderLemmas.{unique_exact}
use Rattle.ak_address.proofs.TableLaws.{same_key, same_table, get-empty, get-insert, get_at, index_of_get, get-merged_tables}

-- nothing is all that can stand at a process
found_there : (a : Option (Unit {0})) → is_some a ≡ true → a ≡ Some tt
found_there None h = absurd (true≢false (sym h))
found_there (Some u) h = refl

alike : (a b : Option (Unit {0})) → is_some a ≡ is_some b → a ≡ b
alike None None h = refl
alike None (Some u) h = absurd (true≢false (sym h))
alike (Some u) None h = absurd (true≢false h)
alike (Some u) (Some v) h = refl

put_in : (b : Bool) (a : Option (Unit {0})) → is_some (cond b (Some tt) a) ≡ (b || is_some a)
put_in true a = refl
put_in false a = refl

passed : (b : Bool) (a : Option (Unit {0})) → is_some (cond b a None) ≡ (is_some a && b)
passed true None = refl
passed true (Some u) = refl
passed false None = refl
passed false (Some u) = refl

pub has-no_one : (q : UniqueModel) → has no_one q ≡ false
has-no_one q = ap is_some (get-empty q)

pub has-with_one : (s : UniqueSet) (k q : UniqueModel) → has (with_one s k) q ≡ (eq_by_cmp unique_cmp q k || has s q)
has-with_one s k q = ap is_some (get-insert s k tt q) ∙ put_in (eq_by_cmp unique_cmp q k) (map.get s q)

pub has-those : (s : UniqueSet) (p : UniqueModel → Bool) (q : UniqueModel) → has (those s p) q ≡ (has s q && p q)
has-those s p q = ap is_some (map.get-retain_keys s p q (λ x t. ap p (sym (unique_exact q x t)))) ∙ passed (p q) (map.get s q)

-- two sets of the same processes are equal
pub same_uniques : (s t : UniqueSet) → ((q : UniqueModel) → has s q ≡ has t q) → s ≡ t
same_uniques s t is = same_table s t (λ q. alike (map.get s q) (map.get t q) (is q))

absorbed : (s : UniqueSet) (k q : UniqueModel) (b : Bool) → has s k ≡ true → eq_by_cmp unique_cmp q k ≡ b → has s q ≡ (b || has s q)
absorbed s k q true there tied = ap (has s) (same_key q k tied) ∙ there
absorbed s k q false there apart = refl

-- a process that is there changes nothing
pub with_present : (s : UniqueSet) (k : UniqueModel) → has s k ≡ true → s ≡ with_one s k
with_present s k there = same_uniques s (with_one s k) (λ q. absorbed s k q (eq_by_cmp unique_cmp q k) there refl ∙ sym (has-with_one s k q))

pair_named : (a : Option (UniqueModel × Unit {0})) (u : UniqueModel) → option_map (λ pair. pair.0) a ≡ Some u → a ≡ Some (u, tt)
pair_named None u is = absurd (true≢false (sym (ap is_some is)))
pair_named (Some pair) u is = ap (λ o. Some (unwrap_or o pair.0, tt)) is

pair_at : (s : UniqueSet) (index : ℕ) (u : UniqueModel) → slice_get (in_order s) index ≡ Some u → slice_get (map.entries s) index ≡ Some (u, tt)
pair_at s index u is = pair_named _ u (sym (slice_get-map (λ pair. pair.0) (map.entries s) index) ∙ is)

-- the process at an index is in the set
pub has_at : (s : UniqueSet) (index : ℕ) (u : UniqueModel) → slice_get (in_order s) index ≡ Some u → has s u ≡ true
has_at s index u is = ap is_some (get_at s index (u, tt) (pair_at s index u is))

-- each process of the set stands at some index
pub index_of_has : (s : UniqueSet) (u : UniqueModel) → has s u ≡ true → (index : ℕ) × (slice_get (in_order s) index ≡ Some u)
index_of_has s u h =
    let p = index_of_get s u tt (found_there (map.get s u) h) in
    (p.0, slice_get-map (λ pair. pair.0) (map.entries s) p.0 ∙ ap (option_map (λ pair. pair.0)) p.1)

either : (a b : Option (Unit {0})) → is_some (merged_at (λ _ _. tt) a b) ≡ (is_some a || is_some b)
either None b = refl
either (Some u) None = refl
either (Some u) (Some v) = refl

pub has-union : (s t : UniqueSet) (q : UniqueModel) → has (union s t) q ≡ (has s q || has t q)
unfolding union
has-union s t q = ap is_some (get-merged_tables (λ _ _. tt) s t q) ∙ either (map.get s q) (map.get t q)

-- a set made of a list has its processes
pub has-set_of : (whos : List UniqueModel) (q : UniqueModel) → has (set_of whos) q ≡ list_any (eq_by_cmp unique_cmp q) whos
has-set_of [] q = has-no_one q
has-set_of (who ∷ whos) q = has-with_one (set_of whos) who q ∙ ap (λ b. eq_by_cmp unique_cmp q who || b) (has-set_of whos q)

-- a set has as many processes as there are in its order
pub length-in_order : (s : UniqueSet) → length (in_order s) ≡ how_many s
length-in_order s = length-map (map.entries s) _ ∙ sym (map.len-entries s)
