-- A walk along the rows of a table that takes in what it keeps of each row, one after the other.
use Rattle.std.proofs.Common.{◌≡◌, ℕ, zero, suc, ◌+◌, ◌≤◌, Bool, ◌||◌, true≢false, List, [], ◌∷◌, map, length, drop, slice_get, Option, option_to_list, refl, sym, ap, ◌∙◌, arith}
use Rattle.std.specs.List.{fold, filter}
use Rattle.std.proofs.lemmas.List.Sums.{fold-append}
use Rattle.std.proofs.lemmas.List.Elements.{filter-append}
use Rattle.std.proofs.lemmas.List.{map-append, length-append}
use Rattle.ak_address.specs.Unique.{UniqueModel}
use Rattle.ak_address.specs.Uniques.{no_one, has, set_of}
use Rattle.ak_address.proofs.TableLaws.{none_of_length, key_itself}
use Rattle.ak_address.proofs.UniquesLaws.{has-no_one, has-with_one}
use Rattle.ak_member.proofs.MemberLemmas.{KeepsPairs, kept_pair, kept_at_end}

module _ {X Y S : Type 0} (kept : List X → List Y) (k : KeepsPairs kept) (step : S → Y → S) where
  pub fold_next : (xs : List X) (i : ℕ) (s next all : S) (o : Option Y) → option_to_list o ≡ kept (option_to_list (slice_get xs i)) → next ≡ fold step s (option_to_list o)
      → fold step s (kept (drop i xs)) ≡ all → fold step next (kept (drop (i + 1) xs)) ≡ all
  fold_next xs i s next all o is taken so_far =
      let rest = kept (drop (i + 1) xs) in
      ap (λ n. fold step n rest) taken
      ∙ sym (ap (fold step s) (kept_pair kept k xs i o is) ∙ fold-append step s (option_to_list o) rest)
      ∙ so_far

  pub fold_end : (xs : List X) (i : ℕ) (s all : S) → length xs ≤ i → fold step s (kept (drop i xs)) ≡ all → s ≡ all
  fold_end xs i s all past so_far = sym (ap (fold step s) (kept_at_end kept k xs i past)) ∙ so_far

-- what passes a test among what is kept, and what is made of each
module _ {X Y : Type 0} (kept : List X → List Y) (k : KeepsPairs kept) where
  pub keeps_filtered : (p : Y → Bool) → KeepsPairs (λ xs. filter p (kept xs))
  keeps_filtered p = record {
    none = ap (filter p) k.none;
    more = λ x xs. ap (filter p) (k.more x xs) ∙ filter-append p (kept (x ∷ [])) (kept xs);
  }

  pub keeps_mapped : {Z : Type 0} (f : Y → Z) → KeepsPairs (λ xs. map f (kept xs))
  keeps_mapped f = record {
    none = ap (map f) k.none;
    more = λ x xs. ap (map f) (k.more x xs) ∙ map-append f (kept (x ∷ [])) (kept xs);
  }

pub keeps_all : {X : Type 0} → KeepsPairs {X = X} {Y = X} (λ xs. xs)
keeps_all = record { none = refl; more = λ x xs. refl }

-- where nothing is kept of a list, nothing is kept of a pair of it
pub kept_none : {X Y : Type 0} (kept : List X → List Y) → KeepsPairs kept → (xs : List X) (i : ℕ) → kept xs ≡ [] → kept (option_to_list (slice_get xs i)) ≡ []
kept_none kept k [] i none = k.none
kept_none kept k (x ∷ xs) zero none =
    none_of_length _ (omega (arith, ap length (sym (k.more x xs) ∙ none), length-append (kept (x ∷ [])) (kept xs)))
kept_none kept k (x ∷ xs) (suc i) none =
    kept_none kept k xs i (none_of_length _ (omega (arith, ap length (sym (k.more x xs) ∙ none), length-append (kept (x ∷ [])) (kept xs))))

-- nobody is in the list where nobody is in its set
pub set_of_none : (whos : List UniqueModel) → set_of whos ≡ no_one → whos ≡ []
set_of_none [] none = refl
set_of_none (who ∷ whos) none =
    absurd (true≢false (sym (has-with_one (set_of whos) who who ∙ ap (λ b. b || has (set_of whos) who) (key_itself who)) ∙ ap (λ s. has s who) none ∙ has-no_one who))
