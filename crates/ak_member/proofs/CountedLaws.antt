-- How many addresses some of the counted members have, along the pairs.
use Rattle.std.proofs.Common.{◌≡◌, ℕ, ◌+◌, ◌≤◌, Bool, true, false, cond, T, List, [], ◌∷◌, map, length, drop, slice_get, Some, None, option_to_list, Contains, ◌∙◌, ◌⊎◌, inl, inr, refl, sym, ap, subst, arith}
use Rattle.std.specs.FinMap.{is_sorted}
use Rattle.std.specs.List.{filter}
use Rattle.ak_address.specs.Unique.{AddressModel, UniqueModel, unique_cmp}
use Rattle.ak_address.proofs.Elements.{contains_first, contains_rest}
use Rattle.ak_address.specs.Distinct.{AddressCountModel, none_counted, counted_with, distinct, addresses_of}
use Rattle.ak_address.proofs.DistinctLaws.{Counting, counting_start, counting_one, counting_end, counted_few}
use Rattle.ak_member.specs.declared.standing.Standing.{Standing}
use Rattle.ak_member.specs.declared.standing.Standing.TheVariants.{Member, Buried}
use Rattle.ak_member.specs.Age.{counts, has_role}
use Rattle.ak_member.proofs.MemberLemmas.{KeepsPairs, keeps_filtered, keeps_mapped, kept_pair, kept_at_end, kept_rising}
use Rattle.ak_member.proofs.OldestLaws.{counted_among, keeps_counted}

-- one pair is kept with its process, or not at all
abbrev pub KeepsProcess : (List (UniqueModel × Standing) → List (UniqueModel × ℕ)) → Type 0
KeepsProcess kept = (pair : UniqueModel × Standing) → (kept (pair ∷ []) ≡ []) ⊎ ((number : ℕ) × (kept (pair ∷ []) ≡ (pair.0, number) ∷ []))

pub counted_process : KeepsProcess counted_among
counted_process (who, Buried confirmed) = inl refl
counted_process (who, Member status number) = by_status (counts status)
  where
    by_status : (b : Bool) → (◌≡◌ {A = List (UniqueModel × ℕ)} (cond b ((who, number) ∷ []) []) []) ⊎ ((n : ℕ) × (◌≡◌ {A = List (UniqueModel × ℕ)} (cond b ((who, number) ∷ []) []) ((who, n) ∷ [])))
    by_status true = inr (number, refl)
    by_status false = inl refl

-- so it is with those that pass a test
pub filtered_process : (kept : List (UniqueModel × Standing) → List (UniqueModel × ℕ)) → KeepsProcess kept → (p : UniqueModel × ℕ → Bool) → KeepsProcess (λ pairs. filter p (kept pairs))
filtered_process kept own p pair = elim (own pair) [ inl none ↦ inl (ap (filter p) none) | inr one ↦ by_test one.0 (p (pair.0, one.0)) (ap (filter p) one.1) ]
  where
    by_test : (n : ℕ) (b : Bool) → filter p (kept (pair ∷ [])) ≡ cond b ((pair.0, n) ∷ []) [] → (filter p (kept (pair ∷ [])) ≡ []) ⊎ ((number : ℕ) × (filter p (kept (pair ∷ [])) ≡ (pair.0, number) ∷ []))
    by_test n true is = inr (n, is)
    by_test n false is = inl is

-- the addresses of the processes of pairs
same_addresses : (pairs : List (UniqueModel × ℕ)) → addresses_of (map (λ (pair : UniqueModel × ℕ). pair.0) pairs) ≡ map (λ (pair : UniqueModel × ℕ). pair.0.address) pairs
same_addresses [] = refl
same_addresses (pair ∷ pairs) = ap (λ l. pair.0.address ∷ l) (same_addresses pairs)

module _ (kept : List (UniqueModel × Standing) → List (UniqueModel × ℕ)) where
  -- the processes of those that are kept
  abbrev pub processes_among : List (UniqueModel × Standing) → List UniqueModel
  processes_among pairs = map (λ (pair : UniqueModel × ℕ). pair.0) (kept pairs)

  -- a count of those before this pair, that comes to the total at the end
  pub record CountedTo (c : AddressCountModel) (es : List (UniqueModel × Standing)) (i total : ℕ) : Type 0 where
    pub few : c.count ≤ i
    pub counting : Counting c (processes_among (drop i es)) total

  module _ (k : KeepsPairs kept) where
    keeps_processes : KeepsPairs processes_among
    keeps_processes = keeps_mapped kept k (λ (pair : UniqueModel × ℕ). pair.0)

    pub counted_start : KeepsProcess kept → (c : AddressCountModel) (es : List (UniqueModel × Standing)) → T (is_sorted unique_cmp es) → c ≡ none_counted
        → CountedTo c es 0 (distinct (map (λ (pair : UniqueModel × ℕ). pair.0.address) (kept es)))
    counted_start own c es sorted is =
        subst (λ c. CountedTo c es 0 (distinct (map (λ (pair : UniqueModel × ℕ). pair.0.address) (kept es)))) (sym is) (record {
          few = omega arith;
          counting =
              subst (Counting none_counted (processes_among es)) (ap distinct (same_addresses (kept es)))
              (counting_start (processes_among es) (kept_rising processes_among keeps_processes own_process es sorted));
        })
      where
        own_process : (pair : UniqueModel × Standing) → (processes_among (pair ∷ []) ≡ []) ⊎ (processes_among (pair ∷ []) ≡ pair.0 ∷ [])
        own_process pair = elim (own pair) [
          | inl none ↦ inl (ap (map (λ (pair : UniqueModel × ℕ). pair.0)) none)
          | inr one ↦ inr (ap (map (λ (pair : UniqueModel × ℕ). pair.0)) one.1)
        ]

    pub counted_one : (r : UniqueModel × ℕ) (c next : AddressCountModel) (es : List (UniqueModel × Standing)) (i total : ℕ)
        → r ∷ [] ≡ kept (option_to_list (slice_get es i)) → next ≡ counted_with c r.0 → CountedTo c es i total → CountedTo next es (i + 1) total
    counted_one r c next es i total is next_is so_far =
        subst (λ c. CountedTo c es (i + 1) total) (sym next_is) (record {
          few = let more = counted_few c r.0 in let few = so_far.few in omega arith;
          counting = counting_one c r.0 (processes_among (drop i es)) (processes_among (drop (i + 1) es)) total (ap (map (λ (pair : UniqueModel × ℕ). pair.0)) (kept_pair kept k es i (Some r) is)) so_far.counting;
        })

    pub counted_passed : (c next : AddressCountModel) (es : List (UniqueModel × Standing)) (i total : ℕ)
        → [] ≡ kept (option_to_list (slice_get es i)) → next ≡ c → CountedTo c es i total → CountedTo next es (i + 1) total
    counted_passed c next es i total is next_is so_far =
        subst (λ c. CountedTo c es (i + 1) total) (sym next_is) (record {
          few = let few = so_far.few in omega arith;
          counting = subst (λ us. Counting c us total) (ap (map (λ (pair : UniqueModel × ℕ). pair.0)) (kept_pair kept k es i None is)) so_far.counting;
        })

    pub counted_end : (c : AddressCountModel) (es : List (UniqueModel × Standing)) (i total : ℕ) → length es ≤ i → CountedTo c es i total → c.count ≡ total
    counted_end c es i total past so_far = counting_end c (processes_among (drop i es)) total (kept_at_end processes_among keeps_processes es i past) so_far.counting

-- ---- those that have the role
abbrev pub role_among : List AddressModel → List (UniqueModel × Standing) → List (UniqueModel × ℕ)
role_among role pairs = filter (has_role role) (counted_among pairs)

pub keeps_role : (role : List AddressModel) → KeepsPairs (role_among role)
keeps_role role = keeps_filtered counted_among keeps_counted (has_role role)

pub role_process : (role : List AddressModel) → KeepsProcess (role_among role)
role_process role = filtered_process counted_among counted_process (has_role role)

-- where all of them have it, they are all the counted ones
pub all_have_role : (role : List AddressModel) (ms : List (UniqueModel × ℕ)) → ((m : UniqueModel × ℕ) → Contains ms m → has_role role m ≡ true) → filter (has_role role) ms ≡ ms
all_have_role role [] each = refl
all_have_role role (m ∷ ms) each =
    ap (λ b. cond b (m ∷ filter (has_role role) ms) (filter (has_role role) ms)) (each m (contains_first m ms))
    ∙ ap (λ l. m ∷ l) (all_have_role role ms (λ n there. each n (contains_rest m n ms there)))
