-- The first key of a table that none may have is the least, since its keys ascend.
use Rattle.std.proofs.Common.{◌≡◌, ℕ, false, List, [], ◌∷◌, Option, Some, None, String, Global, Less, string_bytes, nat_cmp, refl, sym, ◌∙◌, cond, inl, inr}
use Rattle.std.proofs.lemmas.Bool.{cases_Bool}
use Rattle.std.proofs.lemmas.Option.{same_Some}
use Rattle.std.specs.Cmp.Lexicographic.{slice_cmp}
use Rattle.std.specs.List.{AllByRecursion}
use Rattle.std.specs.List.Sorted.{IsStrictlySortedBy}
use Rattle.std.specs.String.{string_cmp}
use Rattle.std.specs.Map.{keys_of}
use Rattle.toml.specs.View.{members_view}
use Rattle.toml.proofs.Views.{Entry}
use Rattle.ak_config.specs.Configuration.{is_key, lesser, least_unknown}

-- the least unknown key of a list of keys
abbrev pub least_in : List (String Global) → Option (List ℕ)
least_in [] = None
least_in (k ∷ ks) = cond (is_key (string_bytes k)) (least_in ks) (Some (lesser (string_bytes k) (least_in ks)))

pub least_of_keys : (es : List Entry) → least_unknown (members_view es) ≡ least_in (keys_of es)
least_of_keys [] = refl
least_of_keys (e ∷ es) = rw (least_of_keys es) refl

lesser_first : (k : List ℕ) (o : Option (List ℕ)) → ((l : List ℕ) → o ≡ Some l → slice_cmp nat_cmp k l ≡ Less) → lesser k o ≡ k
lesser_first k None h = refl
lesser_first k (Some l) h = rw (h l refl) refl

above : (k : String Global) (ks : List (String Global)) (l : List ℕ) → AllByRecursion (λ y. string_cmp k y ≡ Less) ks → IsStrictlySortedBy string_cmp ks → least_in ks ≡ Some l → slice_cmp nat_cmp (string_bytes k) l ≡ Less
unfolding IsStrictlySortedBy
above k [] l below sorted is = cc
above k (x ∷ xs) l below sorted is =
    elim (cases_Bool (is_key (string_bytes x))) [
      | inl known ↦ above k xs l below.1 sorted.1 (rw known at is)
      | inr unknown ↦
          let here : Some (lesser (string_bytes x) (least_in xs)) ≡ Some l = rw unknown at is in
          let first = lesser_first (string_bytes x) (least_in xs) (λ m e. above x xs m sorted.0 sorted.1 e) in
          let same : string_bytes x ≡ l = sym first ∙ same_Some _ _ here in
          rw (← same) below.0
    ]

-- the first of ascending keys is the least where none may have it
pub first_is_least : (k : String Global) (ks : List (String Global)) → IsStrictlySortedBy string_cmp (k ∷ ks) → is_key (string_bytes k) ≡ false → least_in (k ∷ ks) ≡ Some (string_bytes k)
unfolding IsStrictlySortedBy
first_is_least k ks sorted unknown =
    rw (unknown, lesser_first (string_bytes k) (least_in ks) (λ l e. above k ks l sorted.0 sorted.1 e)) refl
