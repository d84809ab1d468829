-- The members of a view, as its list of them and as its table has them.
use Rattle.std.proofs.Common.{◌≡◌, ℕ, inl, inr, T, List, [], ◌∷◌, Option, Some, None, slice_get, option_to_list, Contains, refl, sym, ap, ◌∙◌, subst}
use Rattle.std.proofs.lemmas.Option.{none-some}
use Rattle.std.specs.FinMap as map
use Rattle.std.specs.FinMap.Entries.{below_all}
use Rattle.ak_address.specs.Unique.{UniqueModel, unique_cmp}
use Rattle.ak_address.proofs.Pairs.{first, second, both}
use Rattle.ak_address.proofs.TableLaws.{get_at, index_of_get}
use Rattle.ak_member.specs.declared.status.Status.{Status}
use Rattle.ak_member.specs.declared.standing.Standing.{Standing}
use Rattle.ak_member.specs.declared.standing.Standing.TheVariants.{Member, Buried}
use Rattle.ak_member.specs.Standing.{Standings, as_member, member_of, pair_of, member_pairs, members_of}
use Rattle.ak_address.proofs.Elements.{contains_first, contains_rest, first_or_rest, contains_nothing, contains_at, index_of}

abbrev MemberPair : Type 0
MemberPair = UniqueModel × (Status × ℕ)

pairs_have : (es : List (UniqueModel × Standing)) (m : MemberPair) → Contains (member_pairs es) m → (x : Standing) × Contains es (m.0, x) × (as_member x ≡ Some m.1)
pairs_have [] m there = absurd (contains_nothing m there)
pairs_have ((who, Member status number) ∷ es) m there =
    elim (first_or_rest (who, (status, number)) m (member_pairs es) there) [
      | inl same ↦ (
        Member status number,
        subst (λ k. Contains ((who, Member status number) ∷ es) (k, Member status number)) (sym (ap (λ (r : MemberPair). r.0) same)) (contains_first _ es),
        ap (λ (r : MemberPair). Some r.1) (sym same),
      )
      | inr later ↦ let h = pairs_have es m later in (h.0, contains_rest _ _ es h.1, h.2)
    ]
pairs_have ((who, Buried confirmed) ∷ es) m there = let h = pairs_have es m there in (h.0, contains_rest _ _ es h.1, h.2)

have_pairs : (es : List (UniqueModel × Standing)) (who : UniqueModel) (x : Standing) (m : Status × ℕ) → Contains es (who, x) → as_member x ≡ Some m → Contains (member_pairs es) (who, m)
have_pairs [] who x m there is = absurd (contains_nothing _ there)
have_pairs ((k, y) ∷ es) who x m there is =
    elim (first_or_rest (k, y) (who, x) es there) [
      | inl same ↦ here (as_member y) (ap as_member (sym (ap (λ (r : UniqueModel × Standing). r.1) same)) ∙ is) (ap (λ (r : UniqueModel × Standing). r.0) same)
      | inr later ↦ further (as_member y) (have_pairs es who x m later is)
    ]
  where
    here : (o : Option (Status × ℕ)) → o ≡ Some m → who ≡ k → Contains (pair_of k o (member_pairs es)) (who, m)
    here o is same =
        subst (λ p. Contains (pair_of k p (member_pairs es)) (who, m)) (sym is) (subst (λ q. Contains ((k, m) ∷ member_pairs es) (q, m)) (sym same) (contains_first (k, m) (member_pairs es)))

    further : (o : Option (Status × ℕ)) → Contains (member_pairs es) (who, m) → Contains (pair_of k o (member_pairs es)) (who, m)
    further None h = h
    further (Some r) h = contains_rest (k, r) (who, m) (member_pairs es) h

-- a pair of the list is what the table has of its process, and what the table has is in the list
pub members_have : (s : Standings) (m : MemberPair) → Contains (members_of s) m → member_of (map.get s m.0) ≡ Some m.1
members_have s m there =
    let h = pairs_have (map.entries s) m there in
    let at = index_of (map.entries s) (m.0, h.0) h.1 in
    ap member_of (get_at s at.0 (m.0, h.0) at.1) ∙ h.2

pub have_members : (s : Standings) (who : UniqueModel) (m : Status × ℕ) → member_of (map.get s who) ≡ Some m → Contains (members_of s) (who, m)
have_members s who m is = by_case (map.get s who) refl is
  where
    by_case : (o : Option Standing) → map.get s who ≡ o → member_of o ≡ Some m → Contains (members_of s) (who, m)
    by_case None at is = absurd (none-some m is)
    by_case (Some x) at is = let h = index_of_get s who x at in have_pairs (map.entries s) who x m (contains_at (map.entries s) h.0 (who, x) h.1) is

-- whoever stands as a member at a pair is one
pub member_at_pair : (s : Standings) (pair : ℕ) (m : MemberPair) → m ∷ [] ≡ member_pairs (option_to_list (slice_get (map.entries s) pair)) → member_of (map.get s m.0) ≡ Some m.1
member_at_pair s pair m is = by_pair (slice_get (map.entries s) pair) refl (pairs_have (option_to_list (slice_get (map.entries s) pair)) m (subst (λ l. Contains l m) is (contains_first m [])))
  where
    by_pair : (o : Option (UniqueModel × Standing)) → slice_get (map.entries s) pair ≡ o → (x : Standing) × Contains (option_to_list o) (m.0, x) × (as_member x ≡ Some m.1) → member_of (map.get s m.0) ≡ Some m.1
    by_pair None at h = absurd (contains_nothing (m.0, h.0) h.1)
    by_pair (Some e) at h = elim (first_or_rest e (m.0, h.0) [] h.1) [
      | inl same ↦ ap (λ (k : UniqueModel × Standing). member_of (map.get s k.0)) same ∙ ap member_of (get_at s pair e at) ∙ ap (λ (k : UniqueModel × Standing). as_member k.1) (sym same) ∙ h.2
      | inr rest ↦ absurd (contains_nothing (m.0, h.0) rest)
    ]

-- the members are in the order of processes
below_members : (who : UniqueModel) (es : List (UniqueModel × Standing)) → T (below_all unique_cmp who es) → T (below_all unique_cmp who (member_pairs es))
below_members who [] below = below
below_members who ((k, Member status number) ∷ es) below = both _ _ (first _ _ below) (below_members who es (second _ _ below))
below_members who ((k, Buried confirmed) ∷ es) below = below_members who es (second _ _ below)

sorted_members : (es : List (UniqueModel × Standing)) → T (map.is_sorted unique_cmp es) → T (map.is_sorted unique_cmp (member_pairs es))
sorted_members [] sorted = sorted
sorted_members ((k, Member status number) ∷ es) sorted = both _ _ (below_members k es (first _ _ sorted)) (sorted_members es (second _ _ sorted))
sorted_members ((k, Buried confirmed) ∷ es) sorted = sorted_members es (second _ _ sorted)

pub members_sorted : (s : Standings) → T (map.is_sorted unique_cmp (members_of s))
members_sorted s = sorted_members (map.entries s) (map.entries_sorted s)
