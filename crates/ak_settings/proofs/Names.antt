-- Names of types, of which none stands twice.
use Rattle.std.proofs.Common.{◌≡◌, ◌≢◌, ℕ, nat_eq, nat_le, ◌*◌, ◌≤◌, true, ◌&&◌, List, [], ◌∷◌, length, subst, refl, arith}
use Rattle.std.proofs.lemmas.Bool.{and_parts, and_from}
use Rattle.std.proofs.lemmas.Bool.Decides.{nat_tests}
use Rattle.std.proofs.lemmas.Slice.Eq.{bytes_eq-Decides}
use Rattle.std.specs.Prelude.{◌↔◌, IsTrue}
use Rattle.std.specs.Cmp.Lexicographic.{pointwise}
use Rattle.std.specs.List.{AllByRecursion, AllPairs, Contains, list_all}
use Rattle.ak_address.proofs.Elements.{any_found, any_there}
use Rattle.ak_shard_id.specs.Division.{is_type_name}
use Rattle.ak_settings.specs.Settings.{AreTypes, MayBeTypes, may_be_types, is_text_among, all_texts_differ}
use Rattle.ak_settings.proofs.Different.{pairs_more, more_pairs, nothing_twice}

-- a text is among some where it is one of them
pub text_among_means : (texts : List (List ℕ)) (text : List ℕ) → IsTrue (is_text_among texts text) ↔ Contains texts text
text_among_means texts text = (
  λ is. let found = any_found (λ each. pointwise nat_eq each text) texts is in subst (Contains texts) ((bytes_eq-Decides found.0 text).0 found.2) found.1,
  λ there. any_there (λ each. pointwise nat_eq each text) texts text there ((bytes_eq-Decides text text).1 refl),
)

pub texts_apart : (texts : List (List ℕ)) → all_texts_differ texts ≡ true → AllPairs (λ a b. a ≢ b) texts
texts_apart [] is = nothing_twice
texts_apart (text ∷ others) is = pairs_more is_text_among text_among_means text others (all_texts_differ others) (texts_apart others) is

pub apart_texts : (texts : List (List ℕ)) → AllPairs (λ a b. a ≢ b) texts → all_texts_differ texts ≡ true
apart_texts [] pairs = refl
apart_texts (text ∷ others) pairs = more_pairs is_text_among text_among_means text others (all_texts_differ others) (apart_texts others) pairs

pub texts_differ_means : (texts : List (List ℕ)) → IsTrue (all_texts_differ texts) ↔ AllPairs (λ a b. a ≢ b) texts
texts_differ_means texts = (texts_apart texts, apart_texts texts)

-- each of them is the name of a type
pub each_named : (types : List (List ℕ)) → list_all is_type_name types ≡ true → AllByRecursion (λ name. IsTrue (is_type_name name)) types
each_named [] is = tt
each_named (name ∷ names) is = let (here, rest) = and_parts (is_type_name name) (list_all is_type_name names) is in (here, each_named names rest)

pub named_each : (types : List (List ℕ)) → AllByRecursion (λ name. IsTrue (is_type_name name)) types → list_all is_type_name types ≡ true
named_each [] all = refl
named_each (name ∷ names) all = and_from (is_type_name name) (list_all is_type_name names) all.0 (named_each names all.1)

-- few names of types, with few shards
pub may_be_means : (shards : ℕ) (types : List (List ℕ)) → IsTrue (may_be_types shards types) ↔ MayBeTypes shards types
may_be_means shards types = (
  λ is.
      let (both, within) = and_parts (nat_le (length types) 8 && list_all is_type_name types) (nat_le (length types * shards) 1000) is in
      let (few, names) = and_parts (nat_le (length types) 8) (list_all is_type_name types) both in
      record { few = le_of (length types) 8 few; names = each_named types names; within = le_of (length types * shards) 1000 within },
  λ may.
      and_from (nat_le (length types) 8 && list_all is_type_name types) (nat_le (length types * shards) 1000)
      (and_from (nat_le (length types) 8) (list_all is_type_name types) (of_le (length types) 8 may.few) (named_each types may.names)) (of_le (length types * shards) 1000 may.within),
)
  where
    le_of : (a b : ℕ) → nat_le a b ≡ true → a ≤ b
    le_of a b e = grind (arith, nat_tests)

    of_le : (a b : ℕ) → a ≤ b → nat_le a b ≡ true
    of_le a b e = grind (arith, nat_tests)

-- names that may be types are types where none stands twice
pub types_of : (shards : ℕ) (types : List (List ℕ)) → MayBeTypes shards types → AllPairs (λ a b. a ≢ b) types → AreTypes shards types
types_of shards types may different = record { few = may.few; names = may.names; different = different; within = may.within }

-- no types are types
pub no_types : (shards : ℕ) → AreTypes shards []
no_types shards = record { few = omega (arith); names = tt; different = nothing_twice; within = omega (arith) }
