-- Entries in a map from shards: one is written, one is looked up, and shards are added in their order.
use Rattle.std.proofs.Common.{◌≡◌, ℕ, zero, suc, ◌+◌, ◌<◌, ◌≤◌, cond, List, [], ◌∷◌, ◌++◌, length, drop, set, get_or, slice_get, replicate, nat_eq, Some, refl, sym, ap, ◌∙◌, add-one, arith}
use Rattle.std.proofs.lemmas.Bool.{ne_eqb}
use Rattle.std.proofs.lemmas.List.{map-append}
use Rattle.std.specs.List.{range_with_len}
use Rattle.std.specs.Map.{keys_of, values_of}
use Rattle.indexmap.specs.IndexMap.{insert_entry, set_value_at}
use Rattle.ak_address.proofs.Pairs.{not_None, same_Some}
use Rattle.ak_coordinator.specs.Table.{ShardEntry, ShardTable}
use Rattle.ak_coordinator.specs.Coordinator.{entry_of}

-- a value that is written at an index is written in the list of the values
pub values_written : {X : Type 0} (es : List (ℕ × X)) (i : ℕ) (w : X) → values_of (set_value_at es i w) ≡ set (values_of es) i w
values_written [] i w = refl
values_written (e ∷ es) zero w = refl
values_written (e ∷ es) (suc i) w = ap (λ l. e.1 ∷ l) (values_written es i w)

-- what is known of a shard is at its index
pub entry_there : (table : ShardTable) (shard : ℕ) (entry : ShardEntry) → shard < length table → entry ≡ entry_of table shard → slice_get table shard ≡ Some entry
entry_there [] shard entry lt is = absurd (omega arith)
entry_there (e ∷ es) zero entry lt is = ap Some (sym is)
entry_there (e ∷ es) (suc shard) entry lt is = entry_there es shard entry (omega arith) is

-- what is at an index is what is known of the shard
pub entry_is : (table : ShardTable) (shard : ℕ) (entry : ShardEntry) → slice_get table shard ≡ Some entry → entry ≡ entry_of table shard
entry_is [] shard entry there = absurd (not_None entry (sym there))
entry_is (e ∷ es) zero entry there = sym (same_Some e entry there)
entry_is (e ∷ es) (suc shard) entry there = entry_is es shard entry there

-- ---- shards that are added in their order
-- a shard that is not there goes last
added_last : {X : Type 0} (from : ℕ) (es : List (ℕ × X)) (n shard : ℕ) (x : X) → keys_of es ≡ range_with_len from n → from + n ≤ shard → insert_entry nat_eq es shard x ≡ es ++ (shard, x) ∷ []
added_last from [] n shard x keys le = refl
added_last from (e ∷ es) zero shard x keys le = absurd (let many = ap length keys in omega arith)
added_last from (e ∷ es) (suc n) shard x keys le =
    let first : e.0 ≡ from = ap (λ ks. get_or ks 0 0) keys in
    ap (λ b. cond b ((e.0, x) ∷ es) (e ∷ insert_entry nat_eq es shard x)) (ne_eqb shard e.0 (λ same. omega (arith, same, first, le)))
    ∙ ap (λ l. e ∷ l) (added_last (from + 1) es n shard x (ap (drop 1) keys) (omega arith))

range_next : (from n : ℕ) → range_with_len from n ++ (from + n) ∷ [] ≡ range_with_len from (suc n)
range_next from zero = ap (λ k. k ∷ []) (let e : from + zero ≡ from = omega arith in e)
range_next from (suc n) = ap (λ l. from ∷ l) (ap (λ k. range_with_len (from + 1) n ++ k ∷ []) (let e : from + suc n ≡ from + 1 + n = omega arith in e) ∙ range_next (from + 1) n)

replicate_next : {X : Type 0} (n : ℕ) (x : X) → replicate n x ++ x ∷ [] ≡ replicate (suc n) x
replicate_next zero x = refl
replicate_next (suc n) x = ap (λ l. x ∷ l) (replicate_next n x)

module _ {X : Type 0} (es after : List (ℕ × X)) (shard : ℕ) (x : X) (keys : keys_of es ≡ range_with_len 0 shard) (is : after ≡ insert_entry nat_eq es shard x) where
  added : after ≡ es ++ (shard, x) ∷ []
  added = is ∙ added_last 0 es shard shard x keys (omega arith)

  pub added_keys : keys_of after ≡ range_with_len 0 (shard + 1)
  added_keys =
      ap keys_of added
      ∙ map-append (λ e. e.0) es ((shard, x) ∷ [])
      ∙ ap (λ ks. ks ++ shard ∷ []) keys
      ∙ ap (λ k. range_with_len 0 shard ++ k ∷ []) (let e : shard ≡ 0 + shard = omega arith in e)
      ∙ range_next 0 shard
      ∙ ap (range_with_len 0) (sym (add-one shard))

  pub added_values : values_of es ≡ replicate shard x → values_of after ≡ replicate (shard + 1) x
  added_values values =
      ap values_of added
      ∙ map-append (λ e. e.1) es ((shard, x) ∷ [])
      ∙ ap (λ vs. vs ++ x ∷ []) values
      ∙ replicate_next shard x
      ∙ ap (λ n. replicate n x) (sym (add-one shard))
