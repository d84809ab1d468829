-- The list of counted members has members that count.
use Rattle.std.proofs.Common.{◌≡◌, ℕ, nat_lt, Bool, true, false, not, inl, inr, if◌then◌else◌, List, [], ◌∷◌, map, Option, None, Some, is_some, option_map, Contains, refl, subst, sym, ap}
use Rattle.ak_address.specs.Unique.{UniqueModel}
use Rattle.ak_address.proofs.Elements.{contains_first, contains_rest, first_or_rest, contains_nothing}
use Rattle.ak_member.specs.declared.status.Status.{Status}
use Rattle.ak_member.specs.Standing.{Standings, members_of}
use Rattle.ak_member.specs.Age.{counts, counted_pairs, older_pair, least_pair, oldest, IsCounted}
use Rattle.ak_node.specs.Node.{is_empty}
use Rattle.ak_member.proofs.MembersLaws.{members_have}

abbrev HasCounted : List (UniqueModel × (Status × ℕ)) → UniqueModel × ℕ → Type 0
HasCounted members pair = (status : Status) × Contains members (pair.0, (status, pair.1)) × (counts status ≡ true)

counted_in : (members : List (UniqueModel × (Status × ℕ))) (pair : UniqueModel × ℕ) → Contains (counted_pairs members) pair → HasCounted members pair
counted_in [] pair there = absurd (contains_nothing pair there)
counted_in (member ∷ members) pair there = next (counts member.1.0) refl (λ later. counted_in members pair later) there
  where
    next : (b : Bool) → counts member.1.0 ≡ b → (Contains (counted_pairs members) pair → HasCounted members pair) → Contains (if b then (member.0, member.1.1) ∷ counted_pairs members else counted_pairs members) pair → HasCounted (member ∷ members) pair
    next false is rest there = let h = rest there in (h.0, contains_rest member _ members h.1, h.2)
    next true is rest there = elim (first_or_rest (member.0, member.1.1) pair (counted_pairs members) there) [
      | inl same ↦ (member.1.0, subst (λ (q : UniqueModel × ℕ). Contains (member ∷ members) (q.0, (member.1.0, q.1))) (sym same) (contains_first member members), is)
      | inr later ↦ let h = rest later in (h.0, contains_rest member _ members h.1, h.2)
    ]

pub counted_have : (s : Standings) (pair : UniqueModel × ℕ) → Contains (counted_pairs (members_of s)) pair → IsCounted s pair.0 pair.1
counted_have s pair there = let h = counted_in (members_of s) pair there in (h.0, members_have s (pair.0, (h.0, pair.1)) h.1, h.2)

-- nobody counts exactly where there is no oldest
has_older : (pair : UniqueModel × ℕ) (later : Option (UniqueModel × ℕ)) → is_some (option_map (λ (p : UniqueModel × ℕ). p.0) (older_pair pair later)) ≡ true
has_older pair None = refl
has_older pair (Some later) = by_test (nat_lt later.1 pair.1)
  where
    by_test : (b : Bool) → is_some (option_map (λ (p : UniqueModel × ℕ). p.0) (if b then Some later else Some pair)) ≡ true
    by_test true = refl
    by_test false = refl

some_counts : (pairs : List (UniqueModel × ℕ)) → not (is_some (option_map (λ (p : UniqueModel × ℕ). p.0) (least_pair pairs))) ≡ is_empty (map (λ (p : UniqueModel × ℕ). p.0) pairs)
some_counts [] = refl
some_counts (pair ∷ pairs) = ap not (has_older pair (least_pair pairs))

pub nobody_counts : (s : Standings) → not (is_some (oldest s)) ≡ is_empty (map (λ (p : UniqueModel × ℕ). p.0) (counted_pairs (members_of s)))
nobody_counts s = some_counts (counted_pairs (members_of s))
