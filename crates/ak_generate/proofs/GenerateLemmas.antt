-- Who is chosen among those that run, whether an address is in use, and that a listed address is one.
use Rattle.std.proofs.Common.{◌≡◌, ◌≢◌, ℕ, zero, suc, ◌+◌, ◌<◌, ◌≤◌, ◌%◌, Bool, cond, nat_lt, true, false, ◌||◌, ◌&&◌, IsTrue, List, [], ◌∷◌, length, drop, get_or, slice_get, Option, None, Some, IsSome, is_some, inl, inr, refl, sym, ap, ◌∙◌, subst, arith, true≢false, option_map}
use Rattle.std.specs.List.{list_any}
use Rattle.std.proofs.Math.Nat.{mod-lt}
use Rattle.std.proofs.lemmas.Fmt.{decimal_digit}
use Rattle.std.proofs.lemmas.Option.{slice_get_cases, slice_get_past}
use Rattle.rand_pcg.specs.Lcg.{Lcg}
use Rattle.ak_address.specs.Unique.{AddressModel, UniqueModel, IsAddress, is_host_byte}
use Rattle.ak_address.specs.Uniques.{UniqueSet, in_order, how_many}
use Rattle.ak_address.proofs.UniquesLaws.{length-in_order}
use Rattle.ak_settings.specs.Settings.{IsListing, IsSettings}
use Rattle.ak_settings.proofs.Names.{no_types}
use Rattle.ak_generate.specs.Fixed.{address, addresses, fixed}
use Rattle.ak_generate.specs.Generated.{chosen, is_at, is_in_use, opening, later, next_event}
use Rattle.ak_generate.specs.Words.{Words}
use Rattle.ak_generate.specs.declared.sight.Sight.{Sight}

-- ---- who is chosen
pub nobody_chosen : (word : ℕ) (s : UniqueSet) → how_many s ≡ 0 → chosen word s ≡ None
nobody_chosen word s none = let same = length-in_order s in slice_get_past (in_order s) (word % how_many s) (omega arith)

pub somebody_chosen : (word : ℕ) (s : UniqueSet) → how_many s ≢ 0 → (who : UniqueModel) × (chosen word s ≡ Some who)
somebody_chosen word s some = elim (slice_get_cases (in_order s) (word % how_many s)).1 [
  | inl there ↦ (there.0, there.2)
  | inr past ↦
      let same = length-in_order s in
      let most : 0 < how_many s = omega arith in
      let lt = mod-lt word {m = how_many s} most in
      let le = past.0 in absurd (omega arith)
]

pub somebody_copied : {Z : Type 0} (f : Z → UniqueModel) (r : Option Z) (who : UniqueModel) → option_map f r ≡ Some who → IsSome r
somebody_copied f None who is = absurd (true≢false (sym (ap is_some is)))
somebody_copied f (Some z) who is = refl

-- ---- whether an address is in use
pub next_of : (i : ℕ) → suc i ≡ i + 1
next_of i = omega arith

module _ (at : AddressModel) where
  abbrev here : UniqueModel → Bool
  here who = is_at at (Some who)

  found_from : (xs : List UniqueModel) (i : ℕ) → is_at at (slice_get xs i) ≡ true → list_any here (drop i xs) ≡ true
  found_from [] i is = absurd (true≢false (sym is))
  found_from (x ∷ xs) zero is = ap (λ b. b || list_any here xs) is
  found_from (x ∷ xs) (suc i) is = found_from xs i is

  passed_over : (xs : List UniqueModel) (i : ℕ) → is_at at (slice_get xs i) ≡ false → list_any here (drop (suc i) xs) ≡ list_any here (drop i xs)
  passed_over [] zero is = refl
  passed_over [] (suc i) is = refl
  passed_over (x ∷ xs) zero is = sym (ap (λ b. b || list_any here xs) is)
  passed_over (x ∷ xs) (suc i) is = passed_over xs i is

  all_passed : (xs : List UniqueModel) (i : ℕ) → length xs ≤ i → list_any here (drop i xs) ≡ false
  all_passed [] zero le = refl
  all_passed [] (suc i) le = refl
  all_passed (x ∷ xs) zero le = absurd (omega arith)
  all_passed (x ∷ xs) (suc i) le = all_passed xs i (omega arith)

  pub one_is_found : (s : UniqueSet) (i : ℕ) → list_any here (drop i (in_order s)) ≡ is_in_use at s → is_at at (slice_get (in_order s) i) ≡ true → true ≡ is_in_use at s
  one_is_found s i so_far is = sym (found_from (in_order s) i is) ∙ so_far

  pub one_is_passed : (s : UniqueSet) (i : ℕ) → list_any here (drop i (in_order s)) ≡ is_in_use at s → is_at at (slice_get (in_order s) i) ≡ false → list_any here (drop (i + 1) (in_order s)) ≡ is_in_use at s
  one_is_passed s i so_far is = ap (λ n. list_any here (drop n (in_order s))) (sym (next_of i)) ∙ passed_over (in_order s) i is ∙ so_far

  pub none_is_found : (s : UniqueSet) (i : ℕ) → how_many s ≤ i → list_any here (drop i (in_order s)) ≡ is_in_use at s → false ≡ is_in_use at s
  none_is_found s i past so_far = let same = length-in_order s in sym (all_passed (in_order s) i (omega arith)) ∙ so_far

-- ---- a copied generator
abbrev lcg : ℕ → ℕ → Lcg
lcg state increment = record { state = state; increment = increment }

pub same_words : (a b c d : ℕ) → a ≡ c → b ≡ d → lcg a b ≡ lcg c d
same_words a b c d state increment = ap (λ s. lcg s b) state ∙ ap (lcg c) increment

-- ---- listed addresses
abbrev with_digits : List ℕ → AddressModel
with_digits digits = record { host = 110 ∷ digits; port = 1 }

digit_of_host : (d : ℕ) → d < 10 → is_host_byte (48 + d) ≡ true
digit_of_host zero lt = refl
digit_of_host (suc zero) lt = refl
digit_of_host (suc (suc zero)) lt = refl
digit_of_host (suc (suc (suc zero))) lt = refl
digit_of_host (suc (suc (suc (suc zero)))) lt = refl
digit_of_host (suc (suc (suc (suc (suc zero))))) lt = refl
digit_of_host (suc (suc (suc (suc (suc (suc zero)))))) lt = refl
digit_of_host (suc (suc (suc (suc (suc (suc (suc zero))))))) lt = refl
digit_of_host (suc (suc (suc (suc (suc (suc (suc (suc zero)))))))) lt = refl
digit_of_host (suc (suc (suc (suc (suc (suc (suc (suc (suc zero))))))))) lt = refl
digit_of_host (suc (suc (suc (suc (suc (suc (suc (suc (suc (suc d)))))))))) lt = absurd (omega arith)

one_digit : (d : ℕ) → d < 10 → IsAddress (with_digits ((48 + d) ∷ []))
one_digit d lt = record {
  host = record { not_empty = omega arith; short = omega arith; letters = subst (λ b. IsTrue (b && true)) (sym (digit_of_host d lt)) refl };
  port = omega arith;
  port_fits = omega arith;
}

pub address_is_one : (number : ℕ) → number < 10 → IsAddress (address number)
address_is_one number lt = subst (λ digits. IsAddress (with_digits digits)) (sym (decimal_digit number lt)) (one_digit number lt)

-- ---- the fixed settings
-- the first byte of the number in a host
abbrev pub number_at : AddressModel → ℕ
number_at a = get_or a.host 1 0

pub number_of : (number : ℕ) → number < 10 → number_at (address number) ≡ 48 + number
number_of number lt = ap (λ digits. get_or (110 ∷ digits) 1 0) (decimal_digit number lt)

number_at_index : (i : ℕ) (d : AddressModel) → i < 5 → number_at (get_or addresses i d) ≡ 49 + i
number_at_index zero d lt = number_of 1 (omega arith)
number_at_index (suc zero) d lt = number_of 2 (omega arith)
number_at_index (suc (suc zero)) d lt = number_of 3 (omega arith)
number_at_index (suc (suc (suc zero))) d lt = number_of 4 (omega arith)
number_at_index (suc (suc (suc (suc zero)))) d lt = number_of 5 (omega arith)
number_at_index (suc (suc (suc (suc (suc i))))) d lt = absurd (omega arith)

listed_apart : (i j : ℕ) (d : AddressModel) → i < j → j < 5 → get_or addresses i d ≡ get_or addresses j d → ⊥
listed_apart i j d lt within same =
    let at_i = number_at_index i d (omega arith) in
    let at_j = number_at_index j d within in
    let both = ap number_at same in omega arith

fixed_listing : IsListing addresses
fixed_listing = record {
  count = record { from = omega arith; to = omega arith };
  addresses = (address_is_one 1 (omega arith), (address_is_one 2 (omega arith), (address_is_one 3 (omega arith), (address_is_one 4 (omega arith), (address_is_one 5 (omega arith), tt)))));
  different = listed_apart;
}

pub fixed_are_settings : IsSettings fixed
fixed_are_settings = record {
  listed = fixed_listing;
  strategy = record { from = omega arith; to = omega arith };
  margin = record { from = omega arith; to = omega arith };
  deadline = record { from = omega arith; to = omega arith };
  stable = record { from = omega arith; to = omega arith };
  shards = record { from = omega arith; to = omega arith };
  buffer = record { from = omega arith; to = omega arith };
  threshold = record { from = omega arith; to = omega arith };
  limit = record { from = omega arith; to = omega arith };
  weakly = omega arith;
  role = record { listing = fixed_listing; among = λ a there. there };
  types = no_types 10;
}

-- ---- the next event
pub later_is_next : (given : ℕ) (s : Sight) (w : Words) → 10 ≤ given → later s w ≡ next_event given s w
later_is_next given s w past = ap (λ b. cond b (slice_get opening given) (later s w)) (sym (not_below given past))
  where
    not_below : (given : ℕ) → 10 ≤ given → nat_lt given 10 ≡ false
    not_below given past = grind arith
