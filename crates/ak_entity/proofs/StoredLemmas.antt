-- A tree from vectors of bytes, seen as a finite map from ids.
use Rattle.std.proofs.Common.{◌≡◌, ℕ, Bool, true, false, cond, T, not, ◌==◌, length, List, [], ◌∷◌, Some, is_some, Vec, IsTrue, refl, sym, ap, ◌∙◌, true≢false}
use Rattle.std.specs.Global.{Global}
use Rattle.std.specs.List.{filter}
use Rattle.std.specs.FinMap as finmap
use Rattle.std.specs.FinMap.{find, put, is_sorted}
use Rattle.std.specs.FinMap.Entries.{by_order, below_all, is_sorted-put}
use Rattle.std.specs.Ordering.{is_eq, match_ordering}
use Rattle.std.specs.declared.cmp.Ordering.{Ordering}
use Rattle.std.specs.declared.cmp.Ordering.TheVariants.{Less, Equal, Greater}
use Rattle.std.specs.BTreeMap.{is_at, insert_entry}
use Rattle.std.specs.Map.{lookup, set_value}
use Rattle.std.proofs.lemmas.Cmp.{nat_list_cmp_total}
use Rattle.ak_address.proofs.Pairs.{both, first, second, find_below, below_less}
use Rattle.ak_address.proofs.TableLaws.{is_true, true_is}
use Rattle.ak_entity.specs.Active.{ActiveEntity, ActiveEntities, entity_cmp}
use Rattle.ak_entity.specs.Entities.{is_elsewhere, without_shard}
use Rattle.ak_entity.specs.Stored.{pairs_of}

abbrev Stored : Type 0
Stored = List (Vec ℕ Global × ActiveEntity)

-- how an id compares with the keys
abbrev against : List ℕ → Vec ℕ Global → Ordering
against id key = entity_cmp id key.items

abbrev keys_cmp : Vec ℕ Global → Vec ℕ Global → Ordering
keys_cmp a b = entity_cmp a.items b.items

pub found : (id : List ℕ) (es : Stored) → lookup (is_at (against id)) es ≡ find entity_cmp id (pairs_of es)
found id [] = refl
found id (e ∷ es) = ap (λ rest. cond (is_eq (entity_cmp id e.0.items)) (Some e.1) rest) (found id es)

inserted : (key : Vec ℕ Global) (active : ActiveEntity) (es : Stored) → pairs_of (insert_entry keys_cmp es key active) ≡ put entity_cmp key.items active (pairs_of es)
inserted key active [] = refl
inserted key active (e ∷ es) = go (entity_cmp key.items e.0.items) (inserted key active es)
  where
    go : (o : Ordering) → pairs_of (insert_entry keys_cmp es key active) ≡ put entity_cmp key.items active (pairs_of es)
        → pairs_of (match_ordering o ((key, active) ∷ e ∷ es) ((e.0, active) ∷ es) (e ∷ insert_entry keys_cmp es key active))
        ≡ by_order o ((key.items, active) ∷ (e.0.items, e.1) ∷ pairs_of es) ((e.0.items, active) ∷ pairs_of es) ((e.0.items, e.1) ∷ put entity_cmp key.items active (pairs_of es))
    go Less rest = refl
    go Equal rest = refl
    go Greater rest = ap (λ xs. (e.0.items, e.1) ∷ xs) rest

pub inserted_into : (key : Vec ℕ Global) (active : ActiveEntity) (es fs after : Stored) → fs ≡ es → after ≡ insert_entry keys_cmp fs key active → pairs_of after ≡ put entity_cmp key.items active (pairs_of es)
inserted_into key active es fs after same is = ap pairs_of (is ∙ ap (λ xs. insert_entry keys_cmp xs key active) same) ∙ inserted key active es

pub replaced : (id : List ℕ) (active : ActiveEntity) (es : Stored) → T (is_sorted entity_cmp (pairs_of es)) → is_some (find entity_cmp id (pairs_of es)) ≡ true
    → pairs_of (set_value (is_at (against id)) es active) ≡ put entity_cmp id active (pairs_of es)
replaced id active [] h is = absurd (true≢false (sym is))
replaced id active (e ∷ es) h is = go (entity_cmp id e.0.items) refl (replaced id active es (second _ _ h)) is
  where
    go : (o : Ordering) → entity_cmp id e.0.items ≡ o
        → (is_some (find entity_cmp id (pairs_of es)) ≡ true → pairs_of (set_value (is_at (against id)) es active) ≡ put entity_cmp id active (pairs_of es))
        → is_some (cond (is_eq o) (Some e.1) (find entity_cmp id (pairs_of es))) ≡ true
        → pairs_of (cond (is_eq o) ((e.0, active) ∷ es) (e ∷ set_value (is_at (against id)) es active))
        ≡ by_order o ((id, active) ∷ (e.0.items, e.1) ∷ pairs_of es) ((e.0.items, active) ∷ pairs_of es) ((e.0.items, e.1) ∷ put entity_cmp id active (pairs_of es))
    go Less less rest is =
        absurd (true≢false (sym is ∙ ap is_some (find_below entity_cmp nat_list_cmp_total id (pairs_of es) (below_less entity_cmp nat_list_cmp_total id e.0.items (pairs_of es) less (first _ _ h)))))
    go Equal equal rest is = refl
    go Greater greater rest is = ap (λ xs. (e.0.items, e.1) ∷ xs) (rest is)

-- ---- a list of pairs in order, as a map
module _ (stored : Stored) (sorted : IsTrue (is_sorted entity_cmp (pairs_of stored))) (m : ActiveEntities) (is : finmap.from_sorted (pairs_of stored) ≡ m) where
  h : T (is_sorted entity_cmp (pairs_of stored))
  h = is_true _ sorted

  pub stored_pairs : finmap.entries m ≡ pairs_of stored
  stored_pairs = ap finmap.entries (sym is) ∙ finmap.entries-from_sorted entity_cmp (pairs_of stored) h

  pub stored_get : (id : List ℕ) → lookup (is_at (against id)) stored ≡ finmap.get m id
  stored_get id = found id stored ∙ sym (finmap.get-from_sorted entity_cmp (pairs_of stored) id h) ∙ ap (λ n. finmap.get n id) is

  -- what was put there in place of what there was, or as a new one
  module _ (id : List ℕ) (active : ActiveEntity) (after : Stored) (put_there : pairs_of after ≡ put entity_cmp id active (pairs_of stored)) where
    pub put_sorted : IsTrue (is_sorted entity_cmp (pairs_of after))
    put_sorted = ap (is_sorted entity_cmp) put_there ∙ true_is _ (is_sorted-put entity_cmp nat_list_cmp_total id active (pairs_of stored) h)

    pub put_is : finmap.from_sorted (pairs_of after) ≡ finmap.insert m id active
    put_is = finmap.same_entries_map (finmap.from_sorted (pairs_of after)) (finmap.insert m id active) (
        finmap.entries-from_sorted entity_cmp (pairs_of after) (is_true _ put_sorted) ∙ put_there
        ∙ ap (put entity_cmp id active) (sym stored_pairs)
        ∙ sym (finmap.entries-insert nat_list_cmp_total m id active)
        )

  -- with an active one written in place of what was there
  pub written : (id : List ℕ) (active before : ActiveEntity) → lookup (is_at (against id)) stored ≡ Some before → pairs_of (set_value (is_at (against id)) stored active) ≡ put entity_cmp id active (pairs_of stored)
  written id active before is_there = replaced id active stored h (ap is_some (sym (found id stored) ∙ is_there))

pub nothing_stored : finmap.from_sorted {R = entity_cmp} [] ≡ finmap.empty {X = ActiveEntity}
nothing_stored =
    let m : ActiveEntities = finmap.from_sorted [] in
    finmap.empty_of_len m (finmap.len-entries m ∙ ap length (finmap.entries-from_sorted {X = ActiveEntity} entity_cmp [] tt))

-- ---- those of another shard
pub elsewhere_pairs : (shard : ℕ) (es : Stored) → pairs_of (filter (λ (e : Vec ℕ Global × ActiveEntity). not (e.1.shard == shard)) es) ≡ filter (is_elsewhere shard) (pairs_of es)
elsewhere_pairs shard [] = refl
elsewhere_pairs shard (e ∷ es) = go (not (e.1.shard == shard)) (elsewhere_pairs shard es)
  where
    go : (b : Bool) → pairs_of (filter (λ (e : Vec ℕ Global × ActiveEntity). not (e.1.shard == shard)) es) ≡ filter (is_elsewhere shard) (pairs_of es)
        → pairs_of (cond b (e ∷ filter (λ (e : Vec ℕ Global × ActiveEntity). not (e.1.shard == shard)) es) (filter (λ (e : Vec ℕ Global × ActiveEntity). not (e.1.shard == shard)) es))
        ≡ cond b ((e.0.items, e.1) ∷ filter (is_elsewhere shard) (pairs_of es)) (filter (is_elsewhere shard) (pairs_of es))
    go true rest = ap (λ xs. (e.0.items, e.1) ∷ xs) rest
    go false rest = rest

module _ {K X : Type 0} (R : K → K → Ordering) (p : K × X → Bool) where
  below_filter : (k : K) (es : List (K × X)) → T (below_all R k es) → T (below_all R k (filter p es))
  below_filter k [] h = tt
  below_filter k (e ∷ es) h = go (p e) (below_filter k es (second _ _ h))
    where
      go : (b : Bool) → T (below_all R k (filter p es)) → T (below_all R k (cond b (e ∷ filter p es) (filter p es)))
      go true rest = both _ _ (first _ _ h) rest
      go false rest = rest

  pub sorted_filter : (es : List (K × X)) → T (is_sorted R es) → T (is_sorted R (filter p es))
  sorted_filter [] h = tt
  sorted_filter (e ∷ es) h = go (p e) (sorted_filter es (second _ _ h))
    where
      go : (b : Bool) → T (is_sorted R (filter p es)) → T (is_sorted R (cond b (e ∷ filter p es) (filter p es)))
      go true rest = both _ _ (below_filter e.0 es (first _ _ h)) rest
      go false rest = rest

module _ (stored : Stored) (sorted : IsTrue (is_sorted entity_cmp (pairs_of stored))) (m : ActiveEntities) (is : finmap.from_sorted (pairs_of stored) ≡ m) (shard : ℕ) (after : Stored)
    (rest : after ≡ filter (λ (e : Vec ℕ Global × ActiveEntity). not (e.1.shard == shard)) stored) where
  left : pairs_of after ≡ filter (is_elsewhere shard) (pairs_of stored)
  left = ap pairs_of rest ∙ elsewhere_pairs shard stored

  pub rest_sorted : IsTrue (is_sorted entity_cmp (pairs_of after))
  rest_sorted = ap (is_sorted entity_cmp) left ∙ true_is _ (sorted_filter entity_cmp (is_elsewhere shard) (pairs_of stored) (is_true _ sorted))

  pub rest_is : finmap.from_sorted (pairs_of after) ≡ without_shard m shard
  rest_is = ap finmap.from_sorted (left ∙ ap (filter (is_elsewhere shard)) (sym (stored_pairs stored sorted m is)))
