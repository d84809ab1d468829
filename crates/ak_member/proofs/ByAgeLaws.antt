-- The counted members with their indices, and what a sort makes of them.
use Rattle.std.proofs.Common.{◌≡◌, ◌≢◌, ℕ, zero, suc, ◌+◌, ◌<◌, ◌≤◌, Bool, true, false, cond, eqb, IsTrue, List, [], ◌∷◌, ◌++◌, map, length, drop, get_or, slice_get, Option, Some, None, option_map, option_to_list, Contains, ◌⊎◌, inl, inr, refl, sym, ap, ◌∙◌, subst, append_assoc, append-nil, arith, true≢false}
use Rattle.std.proofs.lemmas.List.{length-append}
use Rattle.std.proofs.lemmas.Bool.{ne_eqb, eq-eqb}
use Rattle.std.proofs.lemmas.Option.{none-some, same_Some, slice_get-map, slice_get-get_or, slice_get_within, get_or_from_slice_get}
use Rattle.std.proofs.lemmas.List.Sorted.{IsPermutation-sym, Contains-permutation, ranks_by, sorted_far}
use Rattle.std.proofs.lemmas.Map.Keys.{IsDistinct-IsPermutation, IsDistinct-from_apart, apart_from_distinct}
use Rattle.std.proofs.lemmas.Cmp.{nat_cmp_total, nat_eq_equiv, on_total, then_total, by_ranked, ranked}
use Rattle.std.specs.declared.cmp.Ordering.{Ordering}
use Rattle.std.specs.Cmp.{IsTotalOrder}
use Rattle.std.specs.List.{IsDistinct}
use Rattle.std.specs.List.Sorted.{IsPermutation, IsSorted}
use Rattle.std.specs.Ordering.{is_lt, nat_cmp, ordering_then}
use Rattle.ak_address.specs.Unique.{UniqueModel}
use Rattle.ak_member.specs.declared.status.Status.{Status}
use Rattle.ak_member.specs.declared.standing.Standing.{Standing}
use Rattle.ak_member.specs.Standing.{Standings, member_pairs, members_of}
use Rattle.ak_member.specs.Age.{counts, counted_pairs, IsCountedAt, IsOlder, IsByAge}
use Rattle.ak_member.specs.Indices.{indexed_from}
use Rattle.ak_address.proofs.Elements.{contains_at, index_of}
use Rattle.ak_member.proofs.MemberLemmas.{keeps_members, kept_pair, kept_at_end}

abbrev MemberPair : Type 0
MemberPair = UniqueModel × (Status × ℕ)

-- ---- along the pairs
indexed_more : (index : ℕ) (m : MemberPair) (rest : List MemberPair) → indexed_from index (m ∷ rest) ≡ indexed_from index (m ∷ []) ++ indexed_from (index + 1) rest
indexed_more index m rest =
    elim (counts m.1.0) as (λ b. cond b ((m.1.1, index) ∷ indexed_from (index + 1) rest) (indexed_from (index + 1) rest) ≡ cond b ((m.1.1, index) ∷ []) [] ++ indexed_from (index + 1) rest) [ true ↦ refl | false ↦ refl ]

pub indexed_next : (m : MemberPair) (es : List (UniqueModel × Standing)) (i index : ℕ) (done : List (ℕ × ℕ)) (all : List (ℕ × ℕ))
    → m ∷ [] ≡ member_pairs (option_to_list (slice_get es i)) → done ++ indexed_from index (member_pairs (drop i es)) ≡ all
    → (done ++ indexed_from index (m ∷ [])) ++ indexed_from (index + 1) (member_pairs (drop (i + 1) es)) ≡ all
indexed_next m es i index done all is so_far =
    append_assoc done _ _
    ∙ ap (λ l. done ++ l) (sym (indexed_more index m (member_pairs (drop (i + 1) es))) ∙ ap (indexed_from index) (sym (kept_pair member_pairs keeps_members es i (Some m) is)))
    ∙ so_far

pub indexed_passed : (es : List (UniqueModel × Standing)) (i index : ℕ) (done : List (ℕ × ℕ)) (all : List (ℕ × ℕ))
    → [] ≡ member_pairs (option_to_list (slice_get es i)) → done ++ indexed_from index (member_pairs (drop i es)) ≡ all → done ++ indexed_from index (member_pairs (drop (i + 1) es)) ≡ all
indexed_passed es i index done all is so_far = ap (λ l. done ++ indexed_from index l) (sym (kept_pair member_pairs keeps_members es i None is)) ∙ so_far

pub indexed_end : (es : List (UniqueModel × Standing)) (i index : ℕ) (done : List (ℕ × ℕ)) (all : List (ℕ × ℕ)) → length es ≤ i → done ++ indexed_from index (member_pairs (drop i es)) ≡ all → done ≡ all
indexed_end es i index done all past so_far =
    sym (append-nil done) ∙ ap (λ l. done ++ indexed_from index l) (sym (kept_at_end member_pairs keeps_members es i past)) ∙ so_far

-- where a pair is reached whose member counts, there is one
pub indexed_some : (m : MemberPair) (es : List (UniqueModel × Standing)) (i index : ℕ) (done : List (ℕ × ℕ)) (all : List (ℕ × ℕ))
    → m ∷ [] ≡ member_pairs (option_to_list (slice_get es i)) → done ++ indexed_from index (member_pairs (drop i es)) ≡ all → IsTrue (counts m.1.0) → all ≢ []
indexed_some m es i index done all is so_far counted none =
    let here : indexed_from index (m ∷ []) ≡ (m.1.1, index) ∷ [] = ap (λ b. cond b ((m.1.1, index) ∷ []) []) counted in
    let whole = ap (λ l. (done ++ l) ++ indexed_from (index + 1) (member_pairs (drop (i + 1) es))) (sym here) ∙ indexed_next m es i index done all is so_far ∙ none in
    absurd (omega (arith, (length-append done ((m.1.1, index) ∷ [])), length-append (done ++ (m.1.1, index) ∷ []) (indexed_from (index + 1) (member_pairs (drop (i + 1) es))), ap length whole))

-- where nobody counts, there is none
pub indexed_none : (index : ℕ) (ms : List MemberPair) → counted_pairs ms ≡ [] → indexed_from index ms ≡ []
indexed_none index [] none = refl
indexed_none index (m ∷ ms) none =
    elim (counts m.1.0) as (λ b. cond b ((m.0, m.1.1) ∷ counted_pairs ms) (counted_pairs ms) ≡ [] → cond b ((m.1.1, index) ∷ indexed_from (index + 1) ms) (indexed_from (index + 1) ms) ≡ []) [
      | true ↦ λ some. absurd (omega (arith, ap length some))
      | false ↦ λ none. indexed_none (index + 1) ms none
    ] none

-- ---- what stands in the list of numbers and indices
-- at an index there is a counted member with this number
abbrev CountedAt : List MemberPair → ℕ → ℕ → Type 0
CountedAt ms index number = (who : UniqueModel) × (status : Status) × (slice_get ms index ≡ Some (who, (status, number))) × IsTrue (counts status)

-- the index is so many after the first, and a counted member with this number is there
abbrev IndexedAt : ℕ → List MemberPair → ℕ × ℕ → Type 0
IndexedAt start ms pair = (j : ℕ) × (pair.1 ≡ start + j) × CountedAt ms j pair.0

abbrev after : (b : Bool) → ℕ × ℕ → List (ℕ × ℕ) → List (ℕ × ℕ)
after b pair rest = cond b (pair ∷ rest) rest

later_index : (start : ℕ) (m : MemberPair) (ms : List MemberPair) (pair : ℕ × ℕ) → IndexedAt (start + 1) ms pair → IndexedAt start (m ∷ ms) pair
later_index start m ms pair p = (suc p.0, p.1 ∙ omega arith, p.2)

indexed_is : (start : ℕ) (ms : List MemberPair) (i : ℕ) (pair : ℕ × ℕ) → slice_get (indexed_from start ms) i ≡ Some pair → IndexedAt start ms pair
indexed_is start [] i pair is = absurd (none-some pair is)
indexed_is start (m ∷ ms) i pair is =
    elim (counts m.1.0) as (λ b. counts m.1.0 ≡ b → slice_get (after b (m.1.1, start) (indexed_from (start + 1) ms)) i ≡ Some pair → IndexedAt start (m ∷ ms) pair) [
      | true ↦ λ counted.
          elim i as (λ i. slice_get ((m.1.1, start) ∷ indexed_from (start + 1) ms) i ≡ Some pair → IndexedAt start (m ∷ ms) pair) [
            | zero ↦ λ is. subst (IndexedAt start (m ∷ ms)) (same_Some (m.1.1, start) pair is) (0, omega arith, (m.0, m.1.0, refl, counted))
            | suc k ↦ λ is. later_index start m ms pair (indexed_is (start + 1) ms k pair is)
          ]
      | false ↦ λ counted is. later_index start m ms pair (indexed_is (start + 1) ms i pair is)
    ] refl is

abbrev indexed : ℕ → ℕ → Option (ℕ × ℕ)
indexed number index = Some (number, index)

indexed_at : (start : ℕ) (ms : List MemberPair) (j number : ℕ) → CountedAt ms j number → (i : ℕ) × (slice_get (indexed_from start ms) i ≡ indexed number (start + j))
indexed_at start [] j number c = absurd (none-some (c.0, (c.1, number)) c.2)
indexed_at start (m ∷ ms) zero number c =
    let same : m ≡ (c.0, (c.1, number)) = same_Some m (c.0, (c.1, number)) c.2 in
    let counted : counts m.1.0 ≡ true = ap (λ (m : MemberPair). counts m.1.0) same ∙ c.3 in
    let first : start ≡ start + 0 = omega arith in
    (0, ap (λ b. slice_get (after b (m.1.1, start) (indexed_from (start + 1) ms)) 0) counted ∙ (λ i. indexed (same i).1.1 (first i)))
indexed_at start (m ∷ ms) (suc j) number c =
    let r = indexed_at (start + 1) ms j number c in
    let later : (start + 1) + j ≡ start + suc j = omega arith in
    let is = r.1 ∙ ap (indexed number) later in
    elim (counts m.1.0) as (λ b. (i : ℕ) × (slice_get (after b (m.1.1, start) (indexed_from (start + 1) ms)) i ≡ indexed number (start + suc j))) [ true ↦ (suc r.0, is) | false ↦ (r.0, is) ]

one_number : (ms : List MemberPair) (j m n : ℕ) → CountedAt ms j m → CountedAt ms j n → m ≡ n
one_number ms j m n a b = ap (λ p. p.1.1) (same_Some (a.0, (a.1, m)) (b.0, (b.1, n)) (sym a.2 ∙ b.2))

-- indices rise
abbrev Rises : List (ℕ × ℕ) → Type 0
Rises pairs = (i j : ℕ) (r q : ℕ × ℕ) → i < j → slice_get pairs i ≡ Some r → slice_get pairs j ≡ Some q → r.1 < q.1

rises_first : (pair : ℕ × ℕ) (pairs : List (ℕ × ℕ)) → ((j : ℕ) (q : ℕ × ℕ) → slice_get pairs j ≡ Some q → pair.1 < q.1) → Rises pairs → Rises (pair ∷ pairs)
rises_first pair pairs above rest zero zero r q lt is js = absurd (omega arith)
rises_first pair pairs above rest zero (suc j) r q lt is js = subst (λ (r : ℕ × ℕ). r.1 < q.1) (same_Some pair r is) (above j q js)
rises_first pair pairs above rest (suc i) zero r q lt is js = absurd (omega arith)
rises_first pair pairs above rest (suc i) (suc j) r q lt is js = rest i j r q (omega arith) is js

indexed_rise : (start : ℕ) (ms : List MemberPair) → Rises (indexed_from start ms)
indexed_rise start [] = λ i j r q lt is js. absurd (none-some r is)
indexed_rise start (m ∷ ms) =
    let rest = indexed_rise (start + 1) ms in
    elim (counts m.1.0) as (λ b. Rises (after b (m.1.1, start) (indexed_from (start + 1) ms))) [
      | true ↦ rises_first (m.1.1, start) (indexed_from (start + 1) ms) (λ j q js. let p = indexed_is (start + 1) ms j q js in let e = p.1 in omega arith) rest
      | false ↦ rest
    ]

-- ---- what a sort makes of it
abbrev by_number : ℕ × ℕ → ℕ × ℕ → Ordering
by_number r q = ordering_then (nat_cmp r.0 q.0) (nat_cmp r.1 q.1)

by_number_total : IsTotalOrder by_number
by_number_total = then_total (on_total (λ r. r.0) nat_cmp_total) (on_total (λ r. r.1) nat_cmp_total)

abbrev same_index : ℕ × ℕ → ℕ × ℕ → Bool
same_index r q = eqb r.1 q.1

indexed_apart : (ms : List MemberPair) → IsDistinct same_index (indexed_from 0 ms)
indexed_apart ms =
    let pairs = indexed_from 0 ms in
    IsDistinct-from_apart same_index pairs (λ i j d lt within.
    ne_eqb _ _ (λ same.
    let above = indexed_rise 0 ms i j (get_or pairs i d) (get_or pairs j d) lt (slice_get-get_or pairs i d (omega arith)) (slice_get-get_or pairs j d within) in
    omega arith))

-- of two pairs that are in order, and differ in the index
in_order : (n m p q : ℕ) → is_lt (ordering_then (nat_cmp m n) (nat_cmp q p)) ≡ false → p ≢ q → (n < m) ⊎ ((n ≡ m) × (p < q))
in_order n m p q sorted other =
    by_ranked (m < n) (m ≡ n) (n < m) (nat_cmp m n) (ranked m n (nat_cmp m n) refl)
    (λ is lt. absurd (true≢false (sym (ap (λ o. is_lt (ordering_then o (nat_cmp q p))) is) ∙ sorted)))
    (λ is tied.
    let indices : is_lt (nat_cmp q p) ≡ false = sym (ap (λ o. is_lt (ordering_then o (nat_cmp q p))) is) ∙ sorted in
    by_ranked (q < p) (q ≡ p) (p < q) (nat_cmp q p) (ranked q p (nat_cmp q p) refl)
    (λ is lt. absurd (true≢false (sym (ap is_lt is) ∙ indices)))
    (λ is same. absurd (other (sym same)))
    (λ is above. inr (sym tied, above)))
    (λ is above. inl above)

of_pair : (o : Option (ℕ × ℕ)) (p : ℕ) → option_map (λ pair. pair.1) o ≡ Some p → (pair : ℕ × ℕ) × (o ≡ Some pair) × (pair.1 ≡ p)
of_pair None p is = absurd (none-some p is)
of_pair (Some pair) p is = (pair, refl, same_Some pair.1 p is)

module _ (s : Standings) (pairs sorted : List (ℕ × ℕ)) (all : pairs ≡ indexed_from 0 (members_of s)) (moved : IsPermutation pairs sorted) (in_order_all : IsSorted by_number sorted) where
  abbrev indices : List ℕ
  indices = map (λ pair. pair.1) sorted

  counted_pair : (k : ℕ) (pair : ℕ × ℕ) → slice_get sorted k ≡ Some pair → IsCountedAt s pair.1 pair.0
  counted_pair k pair is =
      let at = index_of pairs pair (Contains-permutation sorted pairs pair (IsPermutation-sym pairs sorted moved) (contains_at sorted k pair is)) in
      let p = indexed_is 0 (members_of s) at.0 pair (ap (λ l. slice_get l at.0) (sym all) ∙ at.1) in
      let index : p.0 ≡ pair.1 = (let e = p.1 in omega arith) in
      subst (λ j. CountedAt (members_of s) j pair.0) index p.2

  -- the pair of an index
  pair_of_index : (k index : ℕ) → slice_get indices k ≡ Some index → (pair : ℕ × ℕ) × (slice_get sorted k ≡ Some pair) × (pair.1 ≡ index)
  pair_of_index k index is = of_pair (slice_get sorted k) index (sym (slice_get-map (λ pair. pair.1) sorted k) ∙ is)

  to_member : (index : ℕ) → Contains indices index → (number : ℕ) × IsCountedAt s index number
  to_member index c =
      let at = index_of indices index c in
      let pair = pair_of_index at.0 index at.1 in
      (pair.0.0, subst (λ j. CountedAt (members_of s) j pair.0.0) pair.2 (counted_pair at.0 pair.0 pair.1))

  from_member : (index : ℕ) → (number : ℕ) × IsCountedAt s index number → Contains indices index
  from_member index c =
      let p = indexed_at 0 (members_of s) index c.0 c.1 in
      let at = index_of sorted (c.0, 0 + index) (Contains-permutation pairs sorted (c.0, 0 + index) moved (contains_at pairs p.0 (c.0, 0 + index) (ap (λ l. slice_get l p.0) all ∙ p.1))) in
      let same : 0 + index ≡ index = omega arith in
      contains_at indices at.0 index (slice_get-map (λ pair. pair.1) sorted at.0 ∙ ap (option_map (λ pair. pair.1)) at.1 ∙ ap Some same)

  apart_sorted : IsDistinct same_index sorted
  apart_sorted = IsDistinct-IsPermutation same_index (λ r q. nat_eq_equiv.symm r.1 q.1) pairs sorted moved (subst (IsDistinct same_index) (sym all) (indexed_apart (members_of s)))

  rise : (i j p q : ℕ) → i < j → slice_get indices i ≡ Some p → slice_get indices j ≡ Some q → IsOlder s p q
  rise i j p q lt is js = λ n m one other.
      let a = pair_of_index i p is in
      let b = pair_of_index j q js in
      let within = slice_get_within sorted j b.0 b.1 in
      let here = get_or_from_slice_get sorted i a.0 a.0 a.1 in
      let there = get_or_from_slice_get sorted j b.0 a.0 b.1 in
      let far : is_lt (by_number b.0 a.0) ≡ false =
      (λ i. is_lt (by_number (sym there i) (sym here i))) ∙ sorted_far (λ r t. is_lt (by_number r t)) (ranks_by by_number_total (λ r. r)) sorted in_order_all i j a.0 (omega arith) within in
      let apart : same_index a.0 b.0 ≡ false = (λ i. same_index (sym here i) (sym there i)) ∙ apart_from_distinct same_index sorted i j a.0 apart_sorted lt within in
      let number : a.0.0 ≡ n = one_number (members_of s) p _ _ (subst (λ j. CountedAt (members_of s) j a.0.0) a.2 (counted_pair i a.0 a.1)) one in
      let later : b.0.0 ≡ m = one_number (members_of s) q _ _ (subst (λ j. CountedAt (members_of s) j b.0.0) b.2 (counted_pair j b.0 b.1)) other in
      let differ : p ≢ q = λ same. true≢false (sym (eq-eqb a.0.1 b.0.1 (a.2 ∙ same ∙ sym b.2)) ∙ apart) in
      in_order n m p q (sym (λ i. is_lt (ordering_then (nat_cmp (later i) (number i)) (nat_cmp (b.2 i) (a.2 i)))) ∙ far) differ

  pub by_age_is : (found : List ℕ) → found ≡ indices → IsByAge s found
  by_age_is found is = subst (IsByAge s) (sym is) (record { all = λ index. (to_member index, from_member index); rising = rise })
