-- Tables written out as their pairs: what the calls of a table give is so written out too, so `simp listed` evaluates them.
use Rattle.std.proofs.Common.{◌≡◌, Bool, true, false, List, [], ◌∷◌, length, map, Some, None, refl, sym, ap, ◌∙◌, subst, cond, is_eq}
use Rattle.std.specs.FinMap as finmap
use Rattle.std.specs.List.{filter}
use Rattle.std.specs.Prelude.{T}
use Rattle.ak_address.specs.Unique.{UniqueModel, unique_cmp}
use Rattle.ak_address.specs.Uniques.{UniqueSet}
use Rattle.ak_address.proofs.OrderLemmas.{unique_total, unique_exact}
use Rattle.ak_address.proofs.TableLaws.{same_key}

abbrev pub table : {X : Type 0} → List (UniqueModel × X) → finmap.FinMap unique_cmp X
table es = finmap.from_sorted es

abbrev pub set : List UniqueModel → UniqueSet
set whos = table (map (λ (who : UniqueModel). (who, tt)) whos)

module _ {X : Type 0} where
  abbrev pub is_ordered : List (UniqueModel × X) → Bool
  is_ordered es = finmap.is_sorted unique_cmp es

  in_order : (es : List (UniqueModel × X)) → is_ordered es ≡ true → T (finmap.is_sorted unique_cmp es)
  in_order es ordered = subst T (sym ordered) tt

  pub entries_listed : (es : List (UniqueModel × X)) → is_ordered es ≡ true → finmap.entries (table es) ≡ es
  entries_listed es ordered = finmap.entries-from_sorted unique_cmp es (in_order es ordered)

  pub get_listed : (es : List (UniqueModel × X)) (q : UniqueModel) → is_ordered es ≡ true → finmap.get (table es) q ≡ finmap.find unique_cmp q es
  get_listed es q ordered = finmap.get-from_sorted unique_cmp es q (in_order es ordered)

  pub len_listed : (es : List (UniqueModel × X)) → is_ordered es ≡ true → finmap.len (table es) ≡ length es
  len_listed es ordered = finmap.len-entries (table es) ∙ ap length (entries_listed es ordered)

  pub empty_listed : finmap.empty {R = unique_cmp} ≡ table {X = X} []
  empty_listed = sym (finmap.empty_of_len (table []) (len_listed [] refl))

  pub insert_listed : (es : List (UniqueModel × X)) (k : UniqueModel) (v : X) → is_ordered es ≡ true → is_ordered (finmap.put unique_cmp k v es) ≡ true
      → finmap.insert (table es) k v ≡ table (finmap.put unique_cmp k v es)
  insert_listed es k v ordered ordered_then =
      finmap.same_entries_map (finmap.insert (table es) k v) (table (finmap.put unique_cmp k v es))
      (finmap.entries-insert unique_total (table es) k v ∙ ap (finmap.put unique_cmp k v) (entries_listed es ordered) ∙ sym (entries_listed (finmap.put unique_cmp k v es) ordered_then))

  -- ---- the pairs whose keys pass a test
  abbrev pub kept : (UniqueModel → Bool) → List (UniqueModel × X) → List (UniqueModel × X)
  kept p es = filter (λ (e : UniqueModel × X). p e.0) es

  find_kept : (p : UniqueModel → Bool) (q : UniqueModel) (es : List (UniqueModel × X)) → finmap.find unique_cmp q (kept p es) ≡ cond (p q) (finmap.find unique_cmp q es) None
  find_kept p q [] = by_test (p q)
    where
      by_test : (b : Bool) → finmap.find {X = X} unique_cmp q [] ≡ cond b (finmap.find {X = X} unique_cmp q []) None
      by_test true = refl
      by_test false = refl
  find_kept p q (e ∷ es) = by_tests (find_kept p q es) (p e.0) (is_eq (unique_cmp q e.0)) refl refl
    where
      by_tests : finmap.find unique_cmp q (kept p es) ≡ cond (p q) (finmap.find unique_cmp q es) None → (b t : Bool) → p e.0 ≡ b → is_eq (unique_cmp q e.0) ≡ t
          → finmap.find unique_cmp q (cond b (e ∷ kept p es) (kept p es)) ≡ cond (p q) (cond t (Some e.1) (finmap.find unique_cmp q es)) None
      by_tests rest true true passes tied = ap (λ t. cond t (Some e.1) (finmap.find unique_cmp q (kept p es))) tied ∙ ap (λ b. cond b (Some e.1) None) (sym (ap p (same_key q e.0 tied) ∙ passes))
      by_tests rest true false passes tied = ap (λ t. cond t (Some e.1) (finmap.find unique_cmp q (kept p es))) tied ∙ rest
      by_tests rest false true passes tied =
          rest ∙ ap (λ b. cond b (finmap.find unique_cmp q es) None) (ap p (same_key q e.0 tied) ∙ passes) ∙ ap (λ b. cond b (Some e.1) None) (sym (ap p (same_key q e.0 tied) ∙ passes))
      by_tests rest false false passes tied = rest

  pub retain_listed : (es : List (UniqueModel × X)) (p : UniqueModel → Bool) → is_ordered es ≡ true → is_ordered (kept p es) ≡ true → finmap.retain_keys (table es) p ≡ table (kept p es)
  retain_listed es p ordered ordered_then =
      finmap.same_map unique_total unique_exact (finmap.retain_keys (table es) p) (table (kept p es))
      (λ q. finmap.get-retain_keys (table es) p q (λ x tied. ap p (sym (unique_exact q x tied)))
      ∙ ap (λ o. cond (p q) o None) (get_listed es q ordered) ∙ sym (get_listed (kept p es) q ordered_then ∙ find_kept p q es))

pub ruleset listed = (entries_listed, get_listed, len_listed, insert_listed, empty_listed, retain_listed)
