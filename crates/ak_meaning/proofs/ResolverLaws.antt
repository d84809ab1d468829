-- What a resolver decides, and whom it downs.
use Rattle.std.proofs.Common.{◌≡◌, ◌≢◌, ◌↔◌, ◌⊎◌, inl, inr, ℕ, ◌*◌, ◌<◌, ◌≤◌, Bool, true, false, not, cond, ◌||◌, nat_lt, nat_le, if◌then◌else◌, List, [], ◌∷◌, map, length, Some, Contains, refl, sym, ap, ◌∙◌, subst, arith, true≢false}
use Rattle.std.proofs.lemmas.Bool.{leb-true, leb-false, ltb-true, ltb-false}
use Rattle.std.specs.FinMap as finmap
use Rattle.std.specs.List.{filter}
use Rattle.std.specs.Ordering.{is_eq}
use Rattle.std.specs.declared.cmp.Ordering.TheVariants.{Less}
use Rattle.ak_gossip.proofs.PartsPlaces.{not_less_itself}
use Rattle.ak_address.specs.Distinct.{distinct}
use Rattle.ak_address.specs.Unique.{AddressModel, UniqueModel, unique_cmp}
use Rattle.ak_address.specs.Uniques.{has}
use Rattle.ak_address.proofs.DistinctLaws.{AreRising}
use Rattle.ak_address.proofs.Elements.{contains_first, contains_rest, first_or_rest, contains_nothing, in_filter, filter_in, in_map, map_in}
use Rattle.ak_address.proofs.OrderLemmas.{unique_total}
use Rattle.ak_address.proofs.TableLaws.{key_itself, same_key}
use Rattle.ak_leader.specs.Led.{IsMemberWith}
use Rattle.ak_member.specs.declared.effect.Effect.{Effect}
use Rattle.ak_member.specs.declared.effect.Effect.TheVariants.{Rise}
use Rattle.ak_member.specs.declared.status.Status.{Status}
use Rattle.ak_member.specs.declared.status.Status.TheVariants.{Joining, WeaklyUp, Up, Leaving, Exiting, Down}
use Rattle.ak_member.specs.declared.standing.Standing.{Standing}
use Rattle.ak_member.specs.Standing.{member_of, members_of, is_down}
use Rattle.ak_member.specs.Age.{counts, counted_pairs, has_role, role_pairs, role_addresses}
use Rattle.ak_member.specs.View.{View}
use Rattle.ak_member.proofs.CountedLaws.{role_among, keeps_role, role_process, filtered_process}
use Rattle.ak_address.proofs.AmongLaws.{contains_from, among_means}
use Rattle.ak_member.proofs.MemberLemmas.{keeps_filtered, keeps_mapped, kept_rising}
use Rattle.ak_member.proofs.MembersLaws.{members_have, have_members}
use Rattle.ak_reach.specs.Unreachable.{unreachable_members, IsUnreachable}
use Rattle.ak_reach.proofs.UnreachableLaws.{unreachable_means}
use Rattle.ak_settings.specs.declared.settings.Strategy.{Strategy}
use Rattle.ak_settings.specs.declared.settings.Strategy.TheVariants.{KeepMajority}
use Rattle.ak_downing.specs.declared.decision.Decision.{Decision}
use Rattle.ak_downing.specs.declared.decision.Decision.TheVariants as decision
use Rattle.ak_downing.specs.Downing.{is_beside, counted_beside, counted_apart, addresses_beside, by_first, decide, downs, is_against}
use Rattle.ak_downing.proofs.DownedLaws.{downs_members}
use Rattle.ak_meaning.specs.Counting.{AreMany}
use Rattle.ak_meaning.specs.Resolver.{DoesCount, IsWith, CountsWith, CountsApart, HasCounted, HasReached, DecidesByQuorum, FirstIsWith, DecidesByMajority, AreDivided, DownsRightly}
use Rattle.ak_meaning.proofs.CountingLemmas.{below_none, rising_once, last_ones, last_many, last_in, in_last, last_once}

-- ---- who counts
counts_means : (status : Status) → counts status ≡ true → (status ≡ Up) ⊎ (status ≡ Leaving)
counts_means Joining is = absurd (true≢false (sym is))
counts_means WeaklyUp is = absurd (true≢false (sym is))
counts_means Up is = inl refl
counts_means Leaving is = inr refl
counts_means Exiting is = absurd (true≢false (sym is))
counts_means Down is = absurd (true≢false (sym is))

pub pairs_counted : (pairs : List (UniqueModel × (Status × ℕ))) (m : UniqueModel × ℕ) → Contains (counted_pairs pairs) m → (status : Status) × Contains pairs (m.0, (status, m.1)) × (counts status ≡ true)
pairs_counted [] m there = absurd (contains_nothing m there)
pairs_counted (pair ∷ pairs) m there = next (counts pair.1.0) refl (λ h. pairs_counted pairs m h) there
  where
    next : (b : Bool) → counts pair.1.0 ≡ b → (Contains (counted_pairs pairs) m → (status : Status) × Contains pairs (m.0, (status, m.1)) × (counts status ≡ true)) → Contains (if b then (pair.0, pair.1.1) ∷ counted_pairs pairs else counted_pairs pairs) m
        → (status : Status) × Contains (pair ∷ pairs) (m.0, (status, m.1)) × (counts status ≡ true)
    next true is rest there = elim (first_or_rest (pair.0, pair.1.1) m (counted_pairs pairs) there) [
      | inl same ↦ (pair.1.0, subst (λ (r : UniqueModel × ℕ). Contains (pair ∷ pairs) (r.0, (pair.1.0, r.1))) (sym same) (contains_first pair pairs), is)
      | inr later ↦ let h = rest later in (h.0, contains_rest pair (m.0, (h.0, m.1)) pairs h.1, h.2)
    ]
    next false is rest there = let h = rest there in (h.0, contains_rest pair (m.0, (h.0, m.1)) pairs h.1, h.2)

pub counted_there : (pairs : List (UniqueModel × (Status × ℕ))) (who : UniqueModel) (status : Status) (number : ℕ) → Contains pairs (who, (status, number)) → counts status ≡ true → Contains (counted_pairs pairs) (who, number)
counted_there [] who status number there is = absurd (contains_nothing _ there)
counted_there (pair ∷ pairs) who status number there is = elim (first_or_rest pair (who, (status, number)) pairs there) [
  | inl same ↦ here (counts pair.1.0) (ap (λ (r : UniqueModel × (Status × ℕ)). counts r.1.0) (sym same) ∙ is) (ap (λ (r : UniqueModel × (Status × ℕ)). (r.0, r.1.1)) same)
  | inr later ↦ further (counts pair.1.0) (counted_there pairs who status number later is)
]
  where
    here : (b : Bool) → b ≡ true → ◌≡◌ {A = UniqueModel × ℕ} (who, number) (pair.0, pair.1.1) → Contains (if b then (pair.0, pair.1.1) ∷ counted_pairs pairs else counted_pairs pairs) (who, number)
    here true is same = subst (Contains ((pair.0, pair.1.1) ∷ counted_pairs pairs)) (sym same) (contains_first (pair.0, pair.1.1) (counted_pairs pairs))
    here false is same = absurd (true≢false (sym is))

    further : (b : Bool) → Contains (counted_pairs pairs) (who, number) → Contains (if b then (pair.0, pair.1.1) ∷ counted_pairs pairs else counted_pairs pairs) (who, number)
    further true h = contains_rest (pair.0, pair.1.1) (who, number) (counted_pairs pairs) h
    further false h = h

module _ (role : List AddressModel) (v : View) where
  abbrev pub counted : List (UniqueModel × ℕ)
  counted = role_pairs role (members_of v.standings)

  pub does_count : (m : UniqueModel × ℕ) → Contains counted m → DoesCount role v m.0
  does_count m there =
      let f = in_filter (has_role role) (counted_pairs (members_of v.standings)) m there in
      let h = pairs_counted (members_of v.standings) m f.0 in
      let at : member_of (finmap.get v.standings m.0) ≡ Some (h.0, m.1) = members_have v.standings (m.0, (h.0, m.1)) h.1 in (
        elim (counts_means h.0 h.2) [
          | inl up ↦ inl (m.1, at ∙ (λ i. Some (up i, m.1)))
          | inr leaving ↦ inr (m.1, at ∙ (λ i. Some (leaving i, m.1)))
        ],
        contains_from role m.0.address f.1,
      )

  pub count_in : (who : UniqueModel) → DoesCount role v who → (number : ℕ) × Contains counted (who, number)
  count_in who (inl is, having) = (is.0, filter_in (has_role role) (counted_pairs (members_of v.standings)) (who, is.0) (counted_there (members_of v.standings) who Up is.0 (have_members v.standings who (Up, is.0) is.1) refl) ((among_means role who.address).1 having))
  count_in who (inr is, having) = (is.0, filter_in (has_role role) (counted_pairs (members_of v.standings)) (who, is.0) (counted_there (members_of v.standings) who Leaving is.0 (have_members v.standings who (Leaving, is.0) is.1) refl) ((among_means role who.address).1 having))

-- ---- who is on which side
module _ (role : List AddressModel) (v : View) (me : UniqueModel) where
  reached_if : (who : UniqueModel) (tied lost : Bool) → is_eq (unique_cmp who me) ≡ tied → has (unreachable_members v) who ≡ lost → ((tied ≡ true) ⊎ (lost ≡ false)) ↔ IsWith v me who
  reached_if who true lost tie is = (λ _. inl (same_key who me tie), λ _. inl refl)
  reached_if who false false tie is = (λ _. inr (λ gone. true≢false (sym ((unreachable_means v who).1 gone) ∙ is)), λ _. inr refl)
  reached_if who false true tie is = (
    λ either. elim either [ inl not_so ↦ absurd (true≢false (sym not_so)) | inr not_so ↦ absurd (true≢false not_so) ],
    λ with. elim with [
      | inl same ↦ absurd (true≢false (sym (ap (λ z. is_eq (unique_cmp z me)) same ∙ key_itself me) ∙ tie))
      | inr reached ↦ absurd (reached ((unreachable_means v who).0 is))
    ],
  )

  either_true : (tied lost : Bool) → (tied ≡ true) ⊎ (lost ≡ false) → (tied || not lost) ≡ true
  either_true true lost is = refl
  either_true false false is = refl
  either_true false true (inl not_so) = absurd (true≢false (sym not_so))
  either_true false true (inr not_so) = absurd (true≢false not_so)

  true_either : (tied lost : Bool) → (tied || not lost) ≡ true → (tied ≡ true) ⊎ (lost ≡ false)
  true_either true lost is = inl refl
  true_either false false is = inr refl
  true_either false true is = absurd (true≢false (sym is))

  pub beside_means : (who : UniqueModel) → (is_beside (unreachable_members v) me who ≡ true) ↔ IsWith v me who
  beside_means who =
      let tied = is_eq (unique_cmp who me) in
      let lost = has (unreachable_members v) who in
      let means = reached_if who tied lost refl refl in
      (λ is. means.0 (true_either tied lost is), λ with. either_true tied lost (means.1 with))

  pub apart_means : (who : UniqueModel) → (is_beside (unreachable_members v) me who ≡ false) ↔ (¬ IsWith v me who)
  apart_means who = (λ is with. true≢false (sym ((beside_means who).1 with) ∙ is), λ not_with. by_case (is_beside (unreachable_members v) me who) refl not_with)
    where
      by_case : (b : Bool) → is_beside (unreachable_members v) me who ≡ b → (¬ IsWith v me who) → b ≡ false
      by_case true is not_with = absurd (not_with ((beside_means who).0 is))
      by_case false is not_with = refl

  -- ---- the processes of those that pass a test
  module _ (p : UniqueModel × ℕ → Bool) where
    chosen_among : List (UniqueModel × Standing) → List UniqueModel
    chosen_among pairs = map (λ (pair : UniqueModel × ℕ). pair.0) (filter p (role_among role pairs))

    chosen_rising : AreRising (map (λ (pair : UniqueModel × ℕ). pair.0) (filter p (counted role v)))
    chosen_rising =
        kept_rising (λ pairs. map (λ (pair : UniqueModel × ℕ). pair.0) (filter p (role_among role pairs)))
        (keeps_mapped (λ pairs. filter p (role_among role pairs)) (keeps_filtered (role_among role) (keeps_role role) p) (λ (pair : UniqueModel × ℕ). pair.0)) own_process (finmap.entries v.standings) (finmap.entries_sorted v.standings)
      where
        own_process : (pair : UniqueModel × Standing) → (map (λ (pair : UniqueModel × ℕ). pair.0) (filter p (role_among role (pair ∷ []))) ≡ []) ⊎ (map (λ (pair : UniqueModel × ℕ). pair.0) (filter p (role_among role (pair ∷ []))) ≡ pair.0 ∷ [])
        own_process pair = elim (filtered_process (role_among role) (role_process role) p pair) [
          | inl none ↦ inl (ap (map (λ (pair : UniqueModel × ℕ). pair.0)) none)
          | inr one ↦ inr (ap (map (λ (pair : UniqueModel × ℕ). pair.0)) one.1)
        ]

  length_map : {X Y : Type 0} (f : X → Y) (xs : List X) → length (map f xs) ≡ length xs
  length_map {X} {Y} f [] = refl
  length_map {X} {Y} f (x ∷ xs) = let same = length_map f xs in omega arith

  -- ---- how many they are
  pub beside_many : AreMany (CountsWith role v me) (length (counted_beside role v me))
  beside_many = record {
    all = map (λ (pair : UniqueModel × ℕ). pair.0) (counted_beside role v me);
    them = λ who. (
      λ there.
          let pair = in_map (λ (pair : UniqueModel × ℕ). pair.0) (counted_beside role v me) who there in
          let kept = in_filter (λ (pair : UniqueModel × ℕ). is_beside (unreachable_members v) me pair.0) (counted role v) pair.0 pair.1 in
          subst (CountsWith role v me) (sym pair.2) (does_count role v pair.0 kept.0, (beside_means pair.0.0).0 kept.1),
      λ is.
          let n = count_in role v who is.0 in
          map_in (λ (pair : UniqueModel × ℕ). pair.0) (counted_beside role v me) (who, n.0) (filter_in (λ (pair : UniqueModel × ℕ). is_beside (unreachable_members v) me pair.0) (counted role v) (who, n.0) n.1 ((beside_means who).1 is.1)),
    );
    once = rising_once _ (chosen_rising (λ (pair : UniqueModel × ℕ). is_beside (unreachable_members v) me pair.0));
    many = length_map (λ (pair : UniqueModel × ℕ). pair.0) (counted_beside role v me);
  }

  negated : (b : Bool) → not b ≡ true → b ≡ false
  negated true is = absurd (true≢false (sym is))
  negated false is = refl

  pub apart_many : AreMany (CountsApart role v me) (length (counted_apart role v me))
  apart_many = record {
    all = map (λ (pair : UniqueModel × ℕ). pair.0) (counted_apart role v me);
    them = λ who. (
      λ there.
          let pair = in_map (λ (pair : UniqueModel × ℕ). pair.0) (counted_apart role v me) who there in
          let kept = in_filter (λ (pair : UniqueModel × ℕ). not (is_beside (unreachable_members v) me pair.0)) (counted role v) pair.0 pair.1 in
          subst (CountsApart role v me) (sym pair.2) (does_count role v pair.0 kept.0, (apart_means pair.0.0).0 (negated _ kept.1)),
      λ is.
          let n = count_in role v who is.0 in
          map_in (λ (pair : UniqueModel × ℕ). pair.0) (counted_apart role v me) (who, n.0)
          (filter_in (λ (pair : UniqueModel × ℕ). not (is_beside (unreachable_members v) me pair.0)) (counted role v) (who, n.0) n.1 (ap not ((apart_means who).1 is.1))),
    );
    once = rising_once _ (chosen_rising (λ (pair : UniqueModel × ℕ). not (is_beside (unreachable_members v) me pair.0)));
    many = length_map (λ (pair : UniqueModel × ℕ). pair.0) (counted_apart role v me);
  }

  addresses_many : AreMany (HasReached role v me) (distinct (addresses_beside role v me))
  addresses_many = record {
    all = last_ones (addresses_beside role v me);
    them = λ a. (
      λ there.
          let pair = in_map (λ (pair : UniqueModel × ℕ). pair.0.address) (counted_beside role v me) a (last_in (addresses_beside role v me) a there) in
          let kept = in_filter (λ (pair : UniqueModel × ℕ). is_beside (unreachable_members v) me pair.0) (counted role v) pair.0 pair.1 in
          (pair.0.0, sym pair.2, (does_count role v pair.0 kept.0, (beside_means pair.0.0).0 kept.1)),
      λ is.
          let n = count_in role v is.0 is.2.0 in
          in_last (addresses_beside role v me) a
          (subst (Contains (addresses_beside role v me)) is.1 (map_in (λ (pair : UniqueModel × ℕ). pair.0.address) (counted_beside role v me) (is.0, n.0)
          (filter_in (λ (pair : UniqueModel × ℕ). is_beside (unreachable_members v) me pair.0) (counted role v) (is.0, n.0) n.1 ((beside_means is.0).1 is.2.1)))),
    );
    once = last_once (addresses_beside role v me);
    many = last_many (addresses_beside role v me);
  }

all_addresses : (role : List AddressModel) (v : View) → AreMany (HasCounted role v) (distinct (role_addresses role v.standings))
all_addresses role v = record {
  all = last_ones (role_addresses role v.standings);
  them = λ a. (
    λ there.
        let pair = in_map (λ (pair : UniqueModel × ℕ). pair.0.address) (counted role v) a (last_in (role_addresses role v.standings) a there) in
        (pair.0.0, sym pair.2, does_count role v pair.0 pair.1),
    λ is.
        let n = count_in role v is.0 is.2 in
        in_last (role_addresses role v.standings) a (subst (Contains (role_addresses role v.standings)) is.1 (map_in (λ (pair : UniqueModel × ℕ). pair.0.address) (counted role v) (is.0, n.0) n.1)),
  );
  once = last_once (role_addresses role v.standings);
  many = last_many (role_addresses role v.standings);
}

-- ---- static-quorum
abbrev quorum_choice : ℕ → ℕ → ℕ → Decision
quorum_choice quorum all beside = if nat_le (2 * quorum) all then decision.DownAll else (if nat_le quorum beside then decision.DownUnreachable else decision.DownReachable)

record ByQuorum (quorum all beside : ℕ) (d : Decision) : Type 0 where
  others : (d ≡ decision.DownUnreachable) ↔ ((quorum ≤ beside) × (all < 2 * quorum))
  every : (d ≡ decision.DownAll) ↔ (2 * quorum ≤ all)
  own : (d ≡ decision.DownReachable) ↔ ((beside < quorum) × (all < 2 * quorum))

by_quorum : (quorum all beside : ℕ) → ByQuorum quorum all beside (quorum_choice quorum all beside)
by_quorum quorum all beside = by_case (nat_le (2 * quorum) all) (nat_le quorum beside) refl refl
  where
    by_case : (a b : Bool) → nat_le (2 * quorum) all ≡ a → nat_le quorum beside ≡ b → ByQuorum quorum all beside (if a then decision.DownAll else (if b then decision.DownUnreachable else decision.DownReachable))
    by_case true b p q = let le = leb-true (2 * quorum) all p in record {
      others = (λ is. absurd cc, λ is. let lt = is.1 in absurd (omega arith));
      every = (λ is. le, λ is. refl);
      own = (λ is. absurd cc, λ is. let lt = is.1 in absurd (omega arith));
    }
    by_case false true p q = let lt = leb-false (2 * quorum) all p in let le = leb-true quorum beside q in record {
      others = (λ is. (le, lt), λ is. refl);
      every = (λ is. absurd cc, λ is. absurd (omega arith));
      own = (λ is. absurd cc, λ is. let few = is.0 in absurd (omega arith));
    }
    by_case false false p q = let lt = leb-false (2 * quorum) all p in let few = leb-false quorum beside q in record {
      others = (λ is. absurd cc, λ is. let le = is.0 in absurd (omega arith));
      every = (λ is. absurd cc, λ is. absurd (omega arith));
      own = (λ is. (few, lt), λ is. refl);
    }

pub decides_by_quorum : (quorum : ℕ) (role : List AddressModel) (v : View) (me : UniqueModel) → DecidesByQuorum quorum role v me
decides_by_quorum quorum role v me =
    let by = by_quorum quorum (distinct (role_addresses role v.standings)) (distinct (addresses_beside role v me)) in record {
      counted = distinct (role_addresses role v.standings);
      reached = distinct (addresses_beside role v me);
      counted_are = all_addresses role v;
      reached_are = addresses_many role v me;
      others = by.others;
      all = by.every;
      own = by.own;
    }

-- ---- keep-majority
abbrev majority_choice : ℕ → ℕ → Decision → Decision
majority_choice beside others first = if nat_lt others beside then decision.DownUnreachable else (if nat_lt beside others then decision.DownReachable else first)

record ByMajority (beside others : ℕ) (IsFirst : Type 0) (d : Decision) : Type 0 where
  goes_on : (d ≡ decision.DownUnreachable) ↔ ((others < beside) ⊎ ((beside ≡ others) × IsFirst))
  gives_up : (d ≡ decision.DownReachable) ↔ (¬ (d ≡ decision.DownUnreachable))

by_majority : (beside others : ℕ) (IsFirst : Type 0) (t : Bool) → (t ≡ true) ↔ IsFirst → ByMajority beside others IsFirst (majority_choice beside others (if t then decision.DownUnreachable else decision.DownReachable))
by_majority beside others IsFirst t first = by_case (nat_lt others beside) (nat_lt beside others) t refl refl refl
  where
    by_case : (a b c : Bool) → nat_lt others beside ≡ a → nat_lt beside others ≡ b → t ≡ c
        → ByMajority beside others IsFirst (if a then decision.DownUnreachable else (if b then decision.DownReachable else (if c then decision.DownUnreachable else decision.DownReachable)))
    by_case true b c p q r = let more = ltb-true others beside p in record {
      goes_on = (λ is. inl more, λ is. refl);
      gives_up = (λ is. absurd cc, λ is. absurd (is refl));
    }
    by_case false true c p q r = let le = ltb-false others beside p in let fewer = ltb-true beside others q in record {
      goes_on = (λ is. absurd cc, λ is. elim is [ inl more ↦ absurd (omega arith) | inr even ↦ let same = even.0 in absurd (omega arith) ]);
      gives_up = (λ is not_so. cc, λ is. refl);
    }
    by_case false false true p q r = let le = ltb-false others beside p in let ge = ltb-false beside others q in record {
      goes_on = (λ is. inr (omega arith, first.0 r), λ is. refl);
      gives_up = (λ is. absurd cc, λ is. absurd (is refl));
    }
    by_case false false false p q r = let le = ltb-false others beside p in let ge = ltb-false beside others q in record {
      goes_on = (λ is. absurd cc, λ is. elim is [ inl more ↦ absurd (omega arith) | inr even ↦ absurd (true≢false (sym (first.1 even.1) ∙ r)) ]);
      gives_up = (λ is not_so. cc, λ is. refl);
    }

-- whether the first of these is on the side of the node
abbrev first_beside : View → UniqueModel → List (UniqueModel × ℕ) → Bool
first_beside v me [] = false
first_beside v me (pair ∷ pairs) = is_beside (unreachable_members v) me pair.0

by_first_is : (v : View) (me : UniqueModel) (pairs : List (UniqueModel × ℕ)) → by_first (unreachable_members v) me pairs ≡ (if first_beside v me pairs then decision.DownUnreachable else decision.DownReachable)
by_first_is v me [] = refl
by_first_is v me (pair ∷ pairs) = refl

pub counted_rising : (role : List AddressModel) (v : View) → AreRising (map (λ (pair : UniqueModel × ℕ). pair.0) (counted role v))
counted_rising role v =
    kept_rising (λ pairs. map (λ (pair : UniqueModel × ℕ). pair.0) (role_among role pairs))
    (keeps_mapped (role_among role) (keeps_role role) (λ (pair : UniqueModel × ℕ). pair.0)) own_process (finmap.entries v.standings) (finmap.entries_sorted v.standings)
  where
    own_process : (pair : UniqueModel × Standing) → (map (λ (pair : UniqueModel × ℕ). pair.0) (role_among role (pair ∷ [])) ≡ []) ⊎ (map (λ (pair : UniqueModel × ℕ). pair.0) (role_among role (pair ∷ [])) ≡ pair.0 ∷ [])
    own_process pair = elim (role_process role pair) [
      | inl none ↦ inl (ap (map (λ (pair : UniqueModel × ℕ). pair.0)) none)
      | inr one ↦ inr (ap (map (λ (pair : UniqueModel × ℕ). pair.0)) one.1)
    ]

module _ (role : List AddressModel) (v : View) (me : UniqueModel) where
  first_means : (pairs : List (UniqueModel × ℕ)) → counted role v ≡ pairs → (first_beside v me pairs ≡ true) ↔ FirstIsWith role v me
  first_means [] is = (λ not_so. absurd (true≢false (sym not_so)), λ f. let n = count_in role v f.who f.is_with.0 in absurd (contains_nothing _ (subst (λ l. Contains l (f.who, n.0)) is n.1)))
  first_means (pair ∷ pairs) is = (
    λ beside. record { who = pair.0; is_with = (pair_counts, (beside_means role v me pair.0).0 beside); first = λ other there. earlier other there },
    λ f. subst (λ who. is_beside (unreachable_members v) me who ≡ true) (it_is f) ((beside_means role v me f.who).1 f.is_with.1),
  )
    where
      rising : AreRising (pair.0 ∷ map (λ (pair : UniqueModel × ℕ). pair.0) pairs)
      rising = subst (λ l. AreRising (map (λ (pair : UniqueModel × ℕ). pair.0) l)) is (counted_rising role v)

      pair_counts : DoesCount role v pair.0
      pair_counts = does_count role v pair (subst (λ l. Contains l pair) (sym is) (contains_first pair pairs))

      earlier : (other : UniqueModel) → DoesCount role v other → (other ≡ pair.0) ⊎ (unique_cmp pair.0 other ≡ Less)
      earlier other there =
          let n = count_in role v other there in
          elim (first_or_rest pair (other, n.0) pairs (subst (λ l. Contains l (other, n.0)) is n.1)) [
            | inl same ↦ inl (ap (λ (r : UniqueModel × ℕ). r.0) same)
            | inr later ↦ inr (below_none pair.0 (map (λ (pair : UniqueModel × ℕ). pair.0) pairs) rising.0 other (map_in (λ (pair : UniqueModel × ℕ). pair.0) pairs (other, n.0) later))
          ]

      both_less : (one other : UniqueModel) → unique_cmp one other ≡ Less → unique_cmp other one ≡ Less → ⊥
      both_less one other less more = not_less_itself one (unique_total.trans one other one less more)

      it_is : (f : FirstIsWith role v me) → f.who ≡ pair.0
      it_is f = elim (f.first pair.0 pair_counts) [
        | inl same ↦ sym same
        | inr below ↦ elim (earlier f.who f.is_with.0) [ inl same ↦ same | inr above ↦ absurd (both_less f.who pair.0 below above) ]
      ]

  pub decides_by_majority : DecidesByMajority role v me
  decides_by_majority =
      let by = by_majority (length (counted_beside role v me)) (length (counted_apart role v me)) (FirstIsWith role v me) (first_beside v me (counted role v)) (first_means (counted role v) refl) in
      let same : decide KeepMajority role v me ≡ majority_choice (length (counted_beside role v me)) (length (counted_apart role v me)) (if first_beside v me (counted role v) then decision.DownUnreachable else decision.DownReachable) =
      ap (majority_choice (length (counted_beside role v me)) (length (counted_apart role v me))) (by_first_is v me (counted role v)) in
      let told = subst (ByMajority (length (counted_beside role v me)) (length (counted_apart role v me)) (FirstIsWith role v me)) (sym same) by in record {
        beside = length (counted_beside role v me);
        apart = length (counted_apart role v me);
        beside_are = beside_many role v me;
        apart_are = apart_many role v me;
        others = told.goes_on;
        own = told.gives_up;
      }

-- ---- two sides
filter_same : {X : Type 0} (p q : X → Bool) (xs : List X) → ((x : X) → Contains xs x → p x ≡ q x) → filter p xs ≡ filter q xs
filter_same {X} p q [] each = refl
filter_same {X} p q (x ∷ xs) each =
    let rest = filter_same p q xs (λ y there. each y (contains_rest x y xs there)) in
    λ i. cond (each x (contains_first x xs) i) (x ∷ rest i) (rest i)

one_of_two : (b a : ℕ) (t : Bool)
    → (majority_choice b a (if t then decision.DownUnreachable else decision.DownReachable) ≡ decision.DownUnreachable)
    ↔ (¬ (majority_choice a b (if not t then decision.DownUnreachable else decision.DownReachable) ≡ decision.DownUnreachable))
one_of_two b a t = by_case (nat_lt a b) (nat_lt b a) t refl refl
  where
    by_case : (x y t : Bool) → nat_lt a b ≡ x → nat_lt b a ≡ y
        → ((if x then decision.DownUnreachable else (if y then decision.DownReachable else (if t then decision.DownUnreachable else decision.DownReachable))) ≡ decision.DownUnreachable)
        ↔ (¬ ((if y then decision.DownUnreachable else (if x then decision.DownReachable else (if not t then decision.DownUnreachable else decision.DownReachable))) ≡ decision.DownUnreachable))
    by_case true true t p q = let lt = ltb-true a b p in let gt = ltb-true b a q in absurd (omega arith)
    by_case true false t p q = (λ is not_so. absurd cc, λ is. refl)
    by_case false true t p q = (λ is. absurd cc, λ is. absurd (is refl))
    by_case false false true p q = (λ is not_so. absurd cc, λ is. refl)
    by_case false false false p q = (λ is. absurd cc, λ is. absurd (is refl))

module _ (role : List AddressModel) (v w : View) (me you : UniqueModel) (d : AreDivided role v w me you) where
  pub turned : (who : UniqueModel) → DoesCount role v who → is_beside (unreachable_members w) you who ≡ not (is_beside (unreachable_members v) me who)
  turned who counts = by_case (is_beside (unreachable_members v) me who) (is_beside (unreachable_members w) you who) refl refl
    where
      by_case : (a b : Bool) → is_beside (unreachable_members v) me who ≡ a → is_beside (unreachable_members w) you who ≡ b → b ≡ not a
      by_case true true p q = absurd (d.apart who counts ((beside_means role v me who).0 p) ((beside_means role w you who).0 q))
      by_case true false p q = refl
      by_case false true p q = refl
      by_case false false p q = elim (d.either who counts) [
        | inl mine ↦ absurd ((apart_means role v me who).0 p mine)
        | inr yours ↦ absurd ((apart_means role w you who).0 q yours)
      ]

  pub same_counted : counted role w ≡ counted role v
  same_counted = ap (λ s. role_pairs role (members_of s)) (sym d.same)

  twice_not : (b : Bool) → not (not b) ≡ b
  twice_not true = refl
  twice_not false = refl

  pub beside_there : length (counted_beside role w you) ≡ length (counted_apart role v me)
  beside_there =
      ap (λ l. length (filter (λ (pair : UniqueModel × ℕ). is_beside (unreachable_members w) you pair.0) l)) same_counted
      ∙ ap length (filter_same (λ (pair : UniqueModel × ℕ). is_beside (unreachable_members w) you pair.0) (λ (pair : UniqueModel × ℕ). not (is_beside (unreachable_members v) me pair.0)) (counted role v) (λ pair there. turned pair.0 (does_count role v pair there)))

  pub apart_there : length (counted_apart role w you) ≡ length (counted_beside role v me)
  apart_there =
      ap (λ l. length (filter (λ (pair : UniqueModel × ℕ). not (is_beside (unreachable_members w) you pair.0)) l)) same_counted
      ∙ ap length (filter_same (λ (pair : UniqueModel × ℕ). not (is_beside (unreachable_members w) you pair.0)) (λ (pair : UniqueModel × ℕ). is_beside (unreachable_members v) me pair.0) (counted role v)
      (λ pair there. ap not (turned pair.0 (does_count role v pair there)) ∙ twice_not (is_beside (unreachable_members v) me pair.0)))

  first_there : (pairs : List (UniqueModel × ℕ)) → counted role v ≡ pairs → (who : UniqueModel) → DoesCount role v who → first_beside w you pairs ≡ not (first_beside v me pairs)
  first_there [] is who counts = let n = count_in role v who counts in absurd (contains_nothing _ (subst (λ l. Contains l (who, n.0)) is n.1))
  first_there (pair ∷ pairs) is who counts = turned pair.0 (does_count role v pair (subst (λ l. Contains l pair) (sym is) (contains_first pair pairs)))

  pub one_side_goes_on : (who : UniqueModel) → DoesCount role v who → (decide KeepMajority role v me ≡ decision.DownUnreachable) ↔ (¬ (decide KeepMajority role w you ≡ decision.DownUnreachable))
  one_side_goes_on who counts =
      let b = length (counted_beside role v me) in
      let a = length (counted_apart role v me) in
      let t = first_beside v me (counted role v) in
      let mine : decide KeepMajority role v me ≡ majority_choice b a (if t then decision.DownUnreachable else decision.DownReachable) = ap (majority_choice b a) (by_first_is v me (counted role v)) in
      let yours : decide KeepMajority role w you ≡ majority_choice a b (if not t then decision.DownUnreachable else decision.DownReachable) =
      (λ i. majority_choice (beside_there i) (apart_there i) (by_first (unreachable_members w) you (same_counted i)))
      ∙ ap (majority_choice a b) (by_first_is w you (counted role v) ∙ ap (λ c. if c then decision.DownUnreachable else decision.DownReachable) (first_there (counted role v) refl who counts)) in
      let one = one_of_two b a t in
      (λ is. subst (λ d. ¬ (d ≡ decision.DownUnreachable)) (sym yours) (one.0 (sym mine ∙ is)), λ is. mine ∙ one.1 (subst (λ d. ¬ (d ≡ decision.DownUnreachable)) yours is))

-- ---- whom a decision downs
abbrev named : UniqueModel → Effect → UniqueModel
named me (Rise who status number) = who
named me other = me

not_down : (status : Status) → status ≢ Down → is_down status ≡ false
not_down Joining is = refl
not_down WeaklyUp is = refl
not_down Up is = refl
not_down Leaving is = refl
not_down Exiting is = refl
not_down Down is = absurd (is refl)

module _ (role : List AddressModel) (v : View) (me : UniqueModel) where
  downs_if : (decided : Decision) (who : UniqueModel) (status : Status) → IsMemberWith v.standings who status → status ≢ Down
      → Contains (downs decided v me) (Rise who Down 0) ↔ (is_against decided (unreachable_members v) me who ≡ true)
  downs_if decided who status member up = (
    λ there.
        let d = (downs_members decided v me (Rise who Down 0)).0 there in
        subst (λ z. is_against decided (unreachable_members v) me z ≡ true) (sym (ap (named me) d.effect_is)) d.against,
    λ against. (downs_members decided v me (Rise who Down 0)).1 (record { who = who; status = status; number = member.0; member = member.1; not_down = not_down status up; against = against; effect_is = refl }),
  )

  own_beside : is_beside (unreachable_members v) me me ≡ true
  own_beside = (beside_means role v me me).1 (inl refl)

  itself_if : (d : Decision) → (is_against d (unreachable_members v) me me ≡ true) ↔ ((d ≡ decision.DownReachable) ⊎ (d ≡ decision.DownAll))
  itself_if decision.DownUnreachable = (λ against. absurd (true≢false (sym against ∙ ap not own_beside)), λ is. elim is [ inl not_so ↦ absurd cc | inr not_so ↦ absurd cc ])
  itself_if decision.DownReachable = (λ against. inl refl, λ is. own_beside)
  itself_if decision.DownAll = (λ against. inr refl, λ is. refl)

  lost_if : (who : UniqueModel) → who ≢ me → (not (is_beside (unreachable_members v) me who) ≡ true) ↔ IsUnreachable v who
  lost_if who apart = (λ is. by_case (has (unreachable_members v) who) refl is, λ gone. ap not ((apart_means role v me who).1 (λ with. elim with [ inl same ↦ apart same | inr reached ↦ reached gone ])))
    where
      by_case : (b : Bool) → has (unreachable_members v) who ≡ b → not (is_beside (unreachable_members v) me who) ≡ true → IsUnreachable v who
      by_case true is beside = (unreachable_means v who).0 is
      by_case false is beside = absurd ((apart_means role v me who).0 (negated role v me _ beside) (inr (λ gone. true≢false (sym ((unreachable_means v who).1 gone) ∙ is))))

  reached_is : (who : UniqueModel) → who ≢ me → (is_beside (unreachable_members v) me who ≡ true) ↔ (¬ IsUnreachable v who)
  reached_is who apart = (
    λ is gone. elim ((beside_means role v me who).0 is) [ inl same ↦ apart same | inr reached ↦ reached gone ],
    λ reached. (beside_means role v me who).1 (inr reached),
  )

  others_if : (d : Decision) (who : UniqueModel) → who ≢ me → (is_against d (unreachable_members v) me who ≡ true)
      ↔ ((d ≡ decision.DownAll) ⊎ (((d ≡ decision.DownUnreachable) × IsUnreachable v who) ⊎ ((d ≡ decision.DownReachable) × (¬ IsUnreachable v who))))
  others_if decision.DownUnreachable who apart = (
    λ against. inr (inl (refl, (lost_if who apart).0 against)),
    λ is. elim is [ inl not_so ↦ absurd cc | inr other ↦ elim other [ inl lost ↦ (lost_if who apart).1 lost.1 | inr not_so ↦ let none = not_so.0 in absurd cc ] ],
  )
  others_if decision.DownReachable who apart = (
    λ against. inr (inr (refl, (reached_is who apart).0 against)),
    λ is. elim is [ inl not_so ↦ absurd cc | inr other ↦ elim other [ inl not_so ↦ let none = not_so.0 in absurd cc | inr reached ↦ (reached_is who apart).1 reached.1 ] ],
  )
  others_if decision.DownAll who apart = (λ against. inl refl, λ is. refl)

  both_ways : {A B C : Type 0} → A ↔ B → B ↔ C → A ↔ C
  both_ways {A} {B} {C} one other = (λ a. other.0 (one.0 a), λ c. one.1 (other.1 c))

  pub downs_rightly : (strategy : Strategy) → DownsRightly strategy role v me
  downs_rightly strategy = record {
    them = λ effect there.
        let d = (downs_members (decide strategy role v me) v me effect).0 there in
        (d.who, d.status, (d.number, d.member), (λ is. true≢false (sym (ap is_down is) ∙ d.not_down)), d.effect_is);
    itself = λ status member up. both_ways (downs_if (decide strategy role v me) me status member up) (itself_if (decide strategy role v me));
    others = λ who status member up apart. both_ways (downs_if (decide strategy role v me) who status member up) (others_if (decide strategy role v me) who apart);
  }
