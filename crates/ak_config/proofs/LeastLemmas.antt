-- The least unknown key of a document stands in it, and is above no other.
use Rattle.std.proofs.Common.{◌≡◌, ◌≢◌, ℕ, true, false, List, Option, Some, None, Ordering, Less, Equal, Greater, nat_cmp, refl, sym, ap, ◌∙◌, subst, inl, inr}
use Rattle.std.proofs.lemmas.Bool.{cases_Bool, false≢true}
use Rattle.std.proofs.lemmas.Cmp.{nat_list_cmp_total}
use Rattle.std.specs.Cmp.{tied_itself}
use Rattle.std.specs.Cmp.Lexicographic.{slice_cmp}
use Rattle.std.specs.Ordering.{match_ordering, ordering_reverse}
use Rattle.toml.specs.Data.{Data, Members, no_members, member}
use Rattle.ak_config.specs.Configuration.{is_key, lesser, least_unknown}
use Rattle.ak_config.specs.Keys.{HasKey, IsLeastUnknown}

abbrev by_bytes : List ℕ → List ℕ → Ordering
by_bytes k l = slice_cmp nat_cmp k l

not_above_itself : (k : List ℕ) → by_bytes k k ≢ Greater
not_above_itself k above = let tied = tied_itself nat_list_cmp_total k in let e : Equal ≡ Greater = sym tied ∙ above in cc

-- a key that is above another is not below it
reverse_not : (m k : List ℕ) → by_bytes k m ≡ Greater → by_bytes m k ≢ Greater
reverse_not m k is above =
    let e : Less ≡ Greater = sym (nat_list_cmp_total.antisymm m k ∙ ap ordering_reverse is) ∙ above in cc

-- a key below one that is not above a third is not above the third
below_both : (k m l : List ℕ) → by_bytes k m ≡ Less → by_bytes m l ≢ Greater → by_bytes k l ≢ Greater
below_both k m l below rest above =
    elim (slice_cmp nat_cmp m l) as (λ r. by_bytes m l ≡ r → ⊥) [
      | Less ↦ λ is. (let e : Less ≡ Greater = sym (nat_list_cmp_total.trans k m l below is) ∙ above in cc)
      | Equal ↦ λ is.
          (let turned : by_bytes k l ≡ by_bytes k m = nat_list_cmp_total.antisymm k l ∙ ap ordering_reverse (sym (nat_list_cmp_total.congr m l k is)) ∙ sym (nat_list_cmp_total.antisymm k m) in
          let e : Less ≡ Greater = sym below ∙ sym turned ∙ above in cc)
      | Greater ↦ λ is. rest is
    ] refl

-- what is known of the least of some keys, where there is one
IsLeastOf : Members → Option (List ℕ) → Type 0
IsLeastOf t None = (l : List ℕ) → HasKey t l → is_key l ≡ false → ⊥
IsLeastOf t (Some k) = IsLeastUnknown t k

one_more : (k : List ℕ) (value : Data) (others : Members) (o : Option (List ℕ)) → is_key k ≡ false → IsLeastOf others o → IsLeastUnknown (member k value others) (lesser k o)
unfolding IsLeastOf
one_more k value others None unknown none =
    record {
      stands = inl refl;
      unknown = unknown;
      least = λ l has other above. elim has [ inl same ↦ not_above_itself k (rw (← same) at above) | inr later ↦ none l later other ];
    }
one_more k value others (Some m) unknown rest =
    elim (slice_cmp nat_cmp k m) as (λ r. by_bytes k m ≡ r → IsLeastUnknown (member k value others) (match_ordering r k k m)) [
      | Less ↦ λ is. record {
        stands = inl refl;
        unknown = unknown;
        least = λ l has other above. elim has [ inl same ↦ not_above_itself k (rw (← same) at above) | inr later ↦ below_both k m l is (rest.least l later other) above ];
      }
      | Equal ↦ λ is. record {
        stands = inl refl;
        unknown = unknown;
        least = λ l has other above. elim has [ inl same ↦ not_above_itself k (rw (← same) at above) | inr later ↦ rest.least l later other (sym (nat_list_cmp_total.congr k m l is) ∙ above) ];
      }
      | Greater ↦ λ is. record {
        stands = inr rest.stands;
        unknown = rest.unknown;
        least = λ l has other above. elim has [
          | inl same ↦ reverse_not m k is (rw (← same) at above)
          | inr later ↦ rest.least l later other above
        ];
      }
    ] refl

clash : (k l : List ℕ) → k ≡ l → is_key k ≡ true → is_key l ≡ false → ⊥
clash k l same known other = false≢true (sym other ∙ ap is_key (sym same) ∙ known)

known_more : (k : List ℕ) (value : Data) (others : Members) (o : Option (List ℕ)) → is_key k ≡ true → IsLeastOf others o → IsLeastOf (member k value others) o
unfolding IsLeastOf
known_more k value others None known rest =
    λ l has other. elim has [ inl same ↦ clash k l same known other | inr later ↦ rest l later other ]
known_more k value others (Some m) known rest =
    record {
      stands = inr rest.stands;
      unknown = rest.unknown;
      least = λ l has other. elim has [ inl same ↦ absurd (clash k l same known other) | inr later ↦ rest.least l later other ];
    }

least_of : (t : Members) → IsLeastOf t (least_unknown t)
unfolding IsLeastOf
least_of no_members = λ l has other. has
least_of (member k value others) =
    elim (cases_Bool (is_key k)) [
      | inl known ↦ rw known (known_more k value others (least_unknown others) known (least_of others))
      | inr unknown ↦ rw unknown (one_more k value others (least_unknown others) unknown (least_of others))
    ]

pub least_is : (t : Members) (k : List ℕ) → least_unknown t ≡ Some k → IsLeastUnknown t k
unfolding IsLeastOf
least_is t k is = subst (IsLeastOf t) is (least_of t)
