-- The ring of a node: how many are on it, and that nobody is passed over.
use Rattle.std.proofs.Common.{◌≡◌, ◌⊎◌, inl, inr, ℕ, zero, suc, Bool, true, false, cond, List, [], ◌∷◌, ◌++◌, map, length, take, Some, Contains, refl, sym, ap, ◌∙◌, subst, arith, true≢false, Option, None, is_some}
use Rattle.std.proofs.lemmas.List.{take_all, length-take}
use Rattle.std.specs.FinMap as finmap
use Rattle.std.specs.List.{filter}
use Rattle.std.specs.Ordering.{is_lt, ordering_reverse}
use Rattle.std.specs.declared.cmp.Ordering.{Ordering}
use Rattle.std.specs.declared.cmp.Ordering.TheVariants.{Less, Equal, Greater}
use Rattle.ak_gossip.proofs.PartsPlaces.{not_less_itself}
use Rattle.ak_address.specs.Unique.{UniqueModel, unique_cmp}
use Rattle.ak_address.specs.Uniques.{has}
use Rattle.ak_address.proofs.CountersLaws.{has-set_of, contained, is_among}
use Rattle.ak_address.proofs.DistinctLaws.{AreRising}
use Rattle.ak_address.proofs.Elements.{contains_first, contains_rest, first_or_rest, contains_nothing, contains_either, contains_left, contains_right, in_filter, filter_in, in_map, map_in}
use Rattle.ak_address.proofs.OrderLemmas.{unique_total, unique_exact}
use Rattle.ak_member.specs.declared.status.Status.{Status}
use Rattle.ak_member.specs.declared.standing.Standing.{Standing}
use Rattle.ak_member.specs.declared.standing.Standing.TheVariants.{Member, Buried}
use Rattle.ak_member.specs.Standing.{Standings, is_member, member_of, member_pairs, members_of}
use Rattle.ak_member.proofs.MemberLemmas.{keeps_members, keeps_mapped, kept_rising}
use Rattle.ak_member.proofs.MembersLaws.{members_have, have_members}
use Rattle.ak_detector.specs.Detector.{most_watched, others_around, watch_ring}
use Rattle.ak_meaning.specs.Counting.{HasEachOnce}
use Rattle.ak_meaning.specs.Ring.{ComesBefore, IsOther, IsRing}
use Rattle.ak_meaning.proofs.CountingLemmas.{once_none, once_more, below_none}

-- ---- lists in an order
-- each comes before all that are later in the list
Ordered : {X : Type 0} → (X → X → Type 0) → List X → Type 0
Ordered {X} R [] = Unit {0}
Ordered {X} R (x ∷ xs) = ((y : X) → Contains xs y → R x y) × Ordered R xs

module _ {X : Type 0} (R : X → X → Type 0) where
  take_contained : (n : ℕ) (xs : List X) (x : X) → Contains (take n xs) x → Contains xs x
  take_contained zero xs x there = absurd (contains_nothing x there)
  take_contained (suc n) [] x there = there
  take_contained (suc n) (y ∷ xs) x there = elim (first_or_rest y x (take n xs) there) [
    | inl same ↦ subst (Contains (y ∷ xs)) (sym same) (contains_first y xs)
    | inr later ↦ contains_rest y x xs (take_contained n xs x later)
  ]

  ordered_take : (n : ℕ) (xs : List X) → Ordered R xs → Ordered R (take n xs)
  unfolding Ordered
  ordered_take zero xs o = tt
  ordered_take (suc n) [] o = tt
  ordered_take (suc n) (x ∷ xs) o = (λ y there. o.0 y (take_contained n xs y there), ordered_take n xs o.1)

  ordered_both : (xs ys : List X) → Ordered R xs → Ordered R ys → ((x y : X) → Contains xs x → Contains ys y → R x y) → Ordered R (xs ++ ys)
  unfolding Ordered
  ordered_both [] ys o p each = p
  ordered_both (x ∷ xs) ys o p each = (
    λ y there. elim (contains_either xs ys y there) [ inl one ↦ o.0 y one | inr other ↦ each x y (contains_first x xs) other ],
    ordered_both xs ys o.1 p (λ z y one other. each z y (contains_rest x z xs one) other),
  )

  module _ (one_way : (x y : X) → R x y → R y x → ⊥) where
    ordered_once : (xs : List X) → Ordered R xs → HasEachOnce xs
    unfolding Ordered
    ordered_once [] o = once_none
    ordered_once (x ∷ xs) o = once_more x xs (λ there. one_way x x (o.0 x there) (o.0 x there)) (ordered_once xs o.1)

    -- whoever comes before one that is taken is taken
    taken_before : (n : ℕ) (xs : List X) → Ordered R xs → (x y : X) → Contains (take n xs) y → Contains xs x → R x y → Contains (take n xs) x
    unfolding Ordered
    taken_before zero xs o x y there one before = absurd (contains_nothing y there)
    taken_before (suc n) [] o x y there one before = absurd (contains_nothing x one)
    taken_before (suc n) (z ∷ xs) o x y there one before = elim (first_or_rest z x xs one) [
      | inl same ↦ subst (Contains (z ∷ take n xs)) (sym same) (contains_first z (take n xs))
      | inr later ↦ elim (first_or_rest z y (take n xs) there) [
        | inl is ↦ absurd (one_way x y before (subst (λ u. R u x) (sym is) (o.0 x later)))
        | inr after ↦ contains_rest z x (take n xs) (taken_before n xs o.1 x y after later before)
      ]
    ]

-- those that pass a test, where any two that pass come so
ordered_filter : {X : Type 0} (Q R : X → X → Type 0) (p : X → Bool) (xs : List X) → Ordered Q xs → ((x y : X) → p x ≡ true → p y ≡ true → Q x y → R x y) → Ordered R (filter p xs)
unfolding Ordered
ordered_filter {X} Q R p [] o each = tt
ordered_filter {X} Q R p (x ∷ xs) o each = by_case (p x) refl (ordered_filter Q R p xs o.1 each)
  where
    by_case : (b : Bool) → p x ≡ b → Ordered R (filter p xs) → Ordered R (cond b (x ∷ filter p xs) (filter p xs))
    by_case true is rest = (λ y there. let h = in_filter p xs y there in each x y is h.1 (o.0 y h.0), rest)
    by_case false is rest = rest

-- ---- the order of processes
abbrev Below : UniqueModel → UniqueModel → Type 0
Below a b = unique_cmp a b ≡ Less

below_one_way : (a b : UniqueModel) → Below a b → Below b a → ⊥
below_one_way a b one other = not_less_itself a (unique_total.trans a b a one other)

rising_ordered : (us : List UniqueModel) → AreRising us → Ordered Below us
unfolding Ordered
rising_ordered [] rising = tt
rising_ordered (u ∷ us) rising = (λ who there. below_none u us rising.0 who there, rising_ordered us rising.1)

lt_less : (a b : UniqueModel) → is_lt (unique_cmp a b) ≡ true → Below a b
lt_less a b is = by_case (unique_cmp a b) is
  where
    by_case : (r : Ordering) → is_lt r ≡ true → r ≡ Less
    by_case Less is = refl
    by_case Equal is = absurd (true≢false (sym is))
    by_case Greater is = absurd (true≢false (sym is))

-- round the ring
round_one_way : (me who other : UniqueModel) → ComesBefore me who other → ComesBefore me other who → ⊥
round_one_way me who other (inl a) (inl b) = below_one_way who other a.1 b.1
round_one_way me who other (inl a) (inr (inl b)) = below_one_way who other a.1 b.0
round_one_way me who other (inl a) (inr (inr b)) = below_one_way me who a.0 b.0
round_one_way me who other (inr (inl a)) (inl b) = below_one_way who other a.0 b.1
round_one_way me who other (inr (inl a)) (inr (inl b)) = below_one_way who other a.0 b.0
round_one_way me who other (inr (inl a)) (inr (inr b)) = below_one_way other me a.1 b.1
round_one_way me who other (inr (inr a)) (inl b) = below_one_way other me a.0 b.0
round_one_way me who other (inr (inr a)) (inr (inl b)) = below_one_way me who a.1 b.1
round_one_way me who other (inr (inr a)) (inr (inr b)) = below_one_way other me a.0 b.1

-- ---- the other members
member_processes : (pair : UniqueModel × Standing) → (map (λ (m : UniqueModel × (Status × ℕ)). m.0) (member_pairs (pair ∷ [])) ≡ []) ⊎ (map (λ (m : UniqueModel × (Status × ℕ)). m.0) (member_pairs (pair ∷ [])) ≡ pair.0 ∷ [])
member_processes (who, Member status number) = inr refl
member_processes (who, Buried confirmed) = inl refl

module _ (me : UniqueModel) (s : Standings) where
  abbrev names : List UniqueModel
  names = map (λ (m : UniqueModel × (Status × ℕ)). m.0) (members_of s)

  names_ordered : Ordered Below names
  names_ordered = rising_ordered names
      (kept_rising (λ pairs. map (λ (m : UniqueModel × (Status × ℕ)). m.0) (member_pairs pairs)) (keeps_mapped member_pairs keeps_members (λ (m : UniqueModel × (Status × ℕ)). m.0)) member_processes (finmap.entries s) (finmap.entries_sorted s))

  named_member : (who : UniqueModel) → Contains names who → is_member s who ≡ true
  named_member who there =
      let m = in_map (λ (m : UniqueModel × (Status × ℕ)). m.0) (members_of s) who there in
      ap (λ u. is_some (member_of (finmap.get s u))) m.2 ∙ ap is_some (members_have s m.0 m.1)

  member_named : (who : UniqueModel) → is_member s who ≡ true → Contains names who
  member_named who is = by_case (member_of (finmap.get s who)) refl is
    where
      by_case : (o : Option (Status × ℕ)) → member_of (finmap.get s who) ≡ o → is_some o ≡ true → Contains names who
      by_case (Some m) at is = map_in (λ (m : UniqueModel × (Status × ℕ)). m.0) (members_of s) (who, m) (have_members s who m at)
      by_case None at is = absurd (true≢false (sym is))

  abbrev after : UniqueModel → Bool
  after who = is_lt (unique_cmp me who)

  abbrev before : UniqueModel → Bool
  before who = is_lt (unique_cmp who me)

  around_ordered : Ordered (ComesBefore me) (others_around me s)
  around_ordered =
      ordered_both (ComesBefore me) (filter after names) (filter before names)
      (ordered_filter Below (ComesBefore me) after names names_ordered (λ x y one other less. inl (lt_less me x one, less)))
      (ordered_filter Below (ComesBefore me) before names names_ordered (λ x y one other less. inr (inl (less, lt_less y me other))))
      (λ x y one other. inr (inr (lt_less y me (in_filter before names y other).1, lt_less me x (in_filter after names x one).1)))

  around_other : (who : UniqueModel) → Contains (others_around me s) who → IsOther me s who
  around_other who there = elim (contains_either (filter after names) (filter before names) who there) [
    | inl one ↦ let h = in_filter after names who one in (named_member who h.0, λ same. not_less_itself me (subst (Below me) same (lt_less me who h.1)))
    | inr one ↦ let h = in_filter before names who one in (named_member who h.0, λ same. not_less_itself me (subst (λ u. Below u me) same (lt_less who me h.1)))
  ]

  other_around : (who : UniqueModel) → IsOther me s who → Contains (others_around me s) who
  other_around who is = by_case (unique_cmp me who) refl
    where
      there : Contains names who
      there = member_named who is.0

      by_case : (r : Ordering) → unique_cmp me who ≡ r → Contains (others_around me s) who
      by_case Less less = contains_left (filter after names) (filter before names) who (filter_in after names who there (ap is_lt less))
      by_case Equal same = absurd (is.1 (sym (unique_exact me who same)))
      by_case Greater more = contains_right (filter after names) (filter before names) who (filter_in before names who there (ap is_lt (unique_total.antisymm who me ∙ ap ordering_reverse more)))

  -- ---- the ring
  ring_taken : (who : UniqueModel) → has (watch_ring me s) who ≡ true → Contains (take most_watched (others_around me s)) who
  ring_taken who is = contained (take most_watched (others_around me s)) who (sym (has-set_of (take most_watched (others_around me s)) who) ∙ is)

  taken_ring : (who : UniqueModel) → Contains (take most_watched (others_around me s)) who → has (watch_ring me s) who ≡ true
  taken_ring who there = has-set_of (take most_watched (others_around me s)) who ∙ is_among (take most_watched (others_around me s)) who there

  pub ring_is : IsRing me s
  ring_is = record {
    number = length (others_around me s);
    number_is = record {
      all = others_around me s;
      them = λ who. (around_other who, other_around who);
      once = ordered_once (ComesBefore me) (round_one_way me) (others_around me s) around_ordered;
      many = refl;
    };
    others = λ who is. around_other who (take_contained (ComesBefore me) most_watched (others_around me s) who (ring_taken who is));
    five = λ enough. record {
      all = take most_watched (others_around me s);
      them = λ who. (taken_ring who, ring_taken who);
      once = ordered_once (ComesBefore me) (round_one_way me) (take most_watched (others_around me s)) (ordered_take (ComesBefore me) most_watched (others_around me s) around_ordered);
      many = (let most = length-take most_watched (others_around me s) in omega arith);
    };
    all = λ few who is. taken_ring who (subst (λ l. Contains l who) (sym (take_all most_watched (others_around me s) (omega arith))) (other_around who is));
    next = λ who other is there before. taken_ring who (taken_before (ComesBefore me) (round_one_way me) most_watched (others_around me s) around_ordered who other (ring_taken other is) (other_around who there) before);
  }
