-- The tally of what is known: the uses of the addresses with the role of counted members, and the roles, along the pairs.
use Rattle.std.proofs.Common.{◌≡◌, ℕ, ◌+◌, ◌≤◌, Bool, true, false, not, cond, ◌&&◌, ◌||◌, IsTrue, if◌then◌else◌, Ok, subst, true≢false, List, [], ◌∷◌, ◌++◌, append_assoc, append-nil, map, zero, suc, Option, option_map, drop, length, slice_get, option_to_list, Some, None, refl, sym, ap, ◌∙◌, arith}
use Rattle.std.specs.List.{fold, filter}
use Rattle.std.specs.Ordering.{eq_by_cmp}
use Rattle.std.specs.FinMap as finmap
use Rattle.ak_address.specs.Unique.{AddressModel, UniqueModel, address_cmp, unique_cmp}
use Rattle.ak_member.specs.declared.standing.Standing.{Standing}
use Rattle.ak_member.specs.declared.status.Status.{Status}
use Rattle.ak_member.specs.Standing.{Standings, member_pairs, members_of, is_member}
use Rattle.ak_address.specs.Distinct.{is_among}
use Rattle.ak_member.specs.declared.standing.Standing.TheVariants.{Member, Buried}
use Rattle.ak_member.specs.Age.{counts, counted_pairs, has_role, role_addresses}
use Rattle.ak_member.specs.View.{View, RowTable, empty_view}
use Rattle.ak_member.proofs.MemberLemmas.{KeepsPairs, keeps_mapped, kept_from, kept_pair, kept_at_end}
use Rattle.ak_member.proofs.CountedLaws.{role_among, keeps_role}
use Rattle.ak_address.specs.Uniques.{UniqueSet, has, with_one, those}
use Rattle.ak_address.proofs.UniquesLaws.{has-union, has-with_one}
use Rattle.ak_address.proofs.BoolLemmas.{both_true, none_there, or_true}
use Rattle.ak_clock.specs.Version.{relation}
use Rattle.ak_clock.specs.declared.version.Relation.{Relation}
use Rattle.ak_clock.specs.declared.version.Relation.TheVariants as clock
use Rattle.ak_converge.specs.Tally.{Uses, uses_or_none, uses_at, with_use, uses_of, misses, missing_in, blocking_in, tally_of}
use Rattle.ak_converge.proofs.TallyLaws.{empty_tally}
use Rattle.ak_converge.proofs.UsesLaws.{few_more, often_more}
use Rattle.ak_address.proofs.TableLaws.{entries-empty}
use Rattle.ak_gossip.specs.declared.gossip.Received.{Received}
use Rattle.ak_gossip.specs.Gossip.{GossipState, accepted, marked_seen, same, seen_by}
use Rattle.ak_gossip.specs.GossipContracts as gossip
use Rattle.ak_sight.specs.Counted.{KeptTallyModel, addresses_among, is_counted, kept_tally_of, mark, nothing_kept, roles_among, IsSeenMore, IsAsReceived, IsTallyOf}
use Rattle.ak_sight.proofs.SightLaws.{received_is, seen_view}

-- ---- a view that more members have seen
none_miss : (seen more : UniqueSet) (ms : List (UniqueModel × (Status × ℕ))) → ((who : UniqueModel) → IsTrue (has seen who) → IsTrue (has more who)) → length (filter (misses seen) ms) ≡ 0 → length (filter (misses more) ms) ≡ 0
none_miss seen more [] all none = refl
none_miss seen more (m ∷ ms) all none = by_case (counts m.1.0) (has seen m.0) (has more m.0) (all m.0) none (λ rest. none_miss seen more ms all rest)
  where
    by_case : (counted before after : Bool) → (IsTrue before → IsTrue after) → length (cond (counted && not before) (m ∷ filter (misses seen) ms) (filter (misses seen) ms)) ≡ 0
        → (length (filter (misses seen) ms) ≡ 0 → length (filter (misses more) ms) ≡ 0)
        → length (cond (counted && not after) (m ∷ filter (misses more) ms) (filter (misses more) ms)) ≡ 0
    by_case false before after so none rest = rest none
    by_case true true true so none rest = rest none
    by_case true true false so none rest = absurd (true≢false (sym (so refl)))
    by_case true false after so none rest = absurd (let some = none in omega arith)

module _ (role : List AddressModel) where
  pub keeps_addresses : KeepsPairs (addresses_among role)
  keeps_addresses = keeps_mapped (role_among role) (keeps_role role) (λ (pair : UniqueModel × ℕ). pair.0.address)

  -- uses of the addresses before a pair, that come to the total with those that are left
  pub record UsedTo (u : Uses) (es : List (UniqueModel × Standing)) (pair : ℕ) (total : Uses) : Type 0 where
    pub left : fold with_use u (addresses_among role (drop pair es)) ≡ total
    pub few : finmap.len u ≤ pair
    pub often : (at : AddressModel) → uses_at u at ≤ pair

  pub used_one : (who : UniqueModel) (u next : Uses) (es : List (UniqueModel × Standing)) (pair : ℕ) (total : Uses)
      → who.address ∷ [] ≡ addresses_among role (option_to_list (slice_get es pair)) → next ≡ with_use u who.address → UsedTo u es pair total → UsedTo next es (pair + 1) total
  used_one who u next es pair total here next_is so_far = record {
    left = ap (λ u. fold with_use u (addresses_among role (drop (pair + 1) es))) next_is ∙ sym (ap (fold with_use u) (kept_pair (addresses_among role) keeps_addresses es pair (Some who.address) here)) ∙ so_far.left;
    few = let few = so_far.few in let more = few_more u who.address in let same = ap finmap.len next_is in omega arith;
    often = λ at. let more = often_more u who.address pair so_far.often at in let same = ap (λ u. uses_at u at) next_is in omega arith;
  }

  pub used_passed : (u next : Uses) (es : List (UniqueModel × Standing)) (pair : ℕ) (total : Uses)
      → [] ≡ addresses_among role (option_to_list (slice_get es pair)) → next ≡ u → UsedTo u es pair total → UsedTo next es (pair + 1) total
  used_passed u next es pair total here next_is so_far = record {
    left = ap (λ u. fold with_use u (addresses_among role (drop (pair + 1) es))) next_is ∙ sym (ap (fold with_use u) (kept_pair (addresses_among role) keeps_addresses es pair None here)) ∙ so_far.left;
    few = let few = so_far.few in let same = ap finmap.len next_is in omega arith;
    often = λ at. let few = so_far.often at in let same = ap (λ u. uses_at u at) next_is in omega arith;
  }

  pub used_end : (u : Uses) (es : List (UniqueModel × Standing)) (pair : ℕ) (total : Uses) → length es ≤ pair → UsedTo u es pair total → u ≡ total
  used_end u es pair total past so_far = sym (ap (fold with_use u) (kept_at_end (addresses_among role) keeps_addresses es pair past)) ∙ so_far.left

  -- a tally whose uses and roles are those of a view, and which was counted anew for it
  pub recounted : (t u : KeptTallyModel) (g : GossipState) (s : Standings) (rows : RowTable) (seen : UniqueSet) → u.numbers.uses ≡ uses_of (role_addresses role g.view.standings) → u.roles ≡ roles_among role (finmap.entries g.view.standings)
      → s ≡ g.view.standings → rows ≡ g.view.rows → seen ≡ g.seen
      → t ≡ record u { numbers = record u.numbers { missing = missing_in (record { standings = s; rows = rows }) seen; blocking = blocking_in (record { standings = s; rows = rows }) } } → IsTallyOf role t g
  recounted t u g s rows seen used roles same same_rows same_seen is = is ∙ counted
    where
      counted : record u { numbers = record u.numbers { missing = missing_in (record { standings = s; rows = rows }) seen; blocking = blocking_in (record { standings = s; rows = rows }) } } ≡ kept_tally_of role g
      counted i = record {
        numbers = record {
          missing = missing_in (record { standings = same i; rows = same_rows i }) (same_seen i);
          blocking = blocking_in (record { standings = same i; rows = same_rows i });
          uses = used i;
        };
        roles = roles i;
      }

  pub used_none : (es : List (UniqueModel × Standing)) → UsedTo finmap.empty es 0 (uses_of (addresses_among role es))
  used_none es = record {
    left = refl;
    few = let none = finmap.len-empty address_cmp ℕ in omega arith;
    often = λ at. let none = ap uses_or_none (finmap.get-empty {X = ℕ} address_cmp at) in omega arith;
  }

  pub seen_kept : (t : KeptTallyModel) (g h : GossipState) → IsTallyOf role t g → IsSeenMore g h → t.numbers.missing ≡ 0 → IsTallyOf role t h
  seen_kept t g h is more none = is ∙ kept
    where
      before : missing_in g.view g.seen ≡ 0
      before = sym (ap (λ (t : KeptTallyModel). t.numbers.missing) is) ∙ none

      after : missing_in g.view h.seen ≡ 0
      after = none_miss g.seen h.seen (members_of g.view.standings) more.seen before

      numbers : tally_of role g.view g.seen ≡ tally_of role g.view h.seen
      numbers i = record { missing = (before ∙ sym after) i; blocking = blocking_in g.view; uses = uses_of (role_addresses role g.view.standings) }

      kept : kept_tally_of role g ≡ kept_tally_of role h
      kept = (λ i. record { numbers = numbers i; roles = roles_among role (finmap.entries g.view.standings) })
          ∙ ap (λ (v : View). record { numbers = tally_of role v h.seen; roles = roles_among role (finmap.entries v.standings) }) (sym more.view)

  pub uses_kept : (t : KeptTallyModel) (g : GossipState) (s : Standings) → IsTallyOf role t g → s ≡ g.view.standings → t.numbers.uses ≡ uses_of (role_addresses role s)
  uses_kept t g s is same = ap (λ (t : KeptTallyModel). t.numbers.uses) is ∙ ap (λ s. uses_of (role_addresses role s)) (sym same)

  pub roles_kept : (t : KeptTallyModel) (g : GossipState) (s : Standings) → IsTallyOf role t g → s ≡ g.view.standings → t.roles ≡ roles_among role (finmap.entries s)
  roles_kept t g s is same = ap (λ (t : KeptTallyModel). t.roles) is ∙ ap (λ (s : Standings). roles_among role (finmap.entries s)) (sym same)

  -- ---- one process more
  one_address : (who : UniqueModel) (standing : Standing) → (is_among role who.address && is_counted standing) ≡ true → who.address ∷ [] ≡ addresses_among role ((who, standing) ∷ [])
  one_address who (Member status number) is =
      let both = both_true (is_among role who.address) (counts status) is in
      (λ i. map (λ (pair : UniqueModel × ℕ). pair.0.address) (if sym both.0 i then (who, number) ∷ [] else [])) ∙ (λ i. map (λ (pair : UniqueModel × ℕ). pair.0.address) (filter (has_role role) (if sym both.1 i then (who, number) ∷ [] else [])))
  one_address who (Buried confirmed) is = absurd (true≢false (sym ((both_true (is_among role who.address) false is).1)))

  no_address : (who : UniqueModel) (standing : Standing) → (is_among role who.address && is_counted standing) ≡ false → [] ≡ addresses_among role ((who, standing) ∷ [])
  no_address who (Buried confirmed) is = refl
  no_address who (Member status number) is = by_case (counts status) is
    where
      by_role : (b : Bool) → (b && true) ≡ false → [] ≡ map (λ (pair : UniqueModel × ℕ). pair.0.address) (cond b ((who, number) ∷ []) [])
      by_role true is = absurd (true≢false is)
      by_role false is = refl

      by_case : (counted : Bool) → (is_among role who.address && counted) ≡ false → [] ≡ map (λ (pair : UniqueModel × ℕ). pair.0.address) (filter (has_role role) (if counted then (who, number) ∷ [] else []))
      by_case false is = refl
      by_case true is = by_role (is_among role who.address) is

  -- whether its address is in use more depends on its role and on how it stands
  pub noted_one : (who : UniqueModel) (standing : Standing) (u next : Uses) (es : List (UniqueModel × Standing)) (pair : ℕ) (total : Uses) → Some (who, standing) ≡ slice_get es pair
      → next ≡ (if is_among role who.address && is_counted standing then with_use u who.address else u) → UsedTo u es pair total → UsedTo next es (pair + 1) total
  noted_one who standing u next es pair total there is so_far = by_case (is_among role who.address && is_counted standing) refl is
    where
      here : addresses_among role ((who, standing) ∷ []) ≡ addresses_among role (option_to_list (slice_get es pair))
      here = ap (λ o. addresses_among role (option_to_list o)) there

      by_case : (b : Bool) → (is_among role who.address && is_counted standing) ≡ b → next ≡ (if b then with_use u who.address else u) → UsedTo next es (pair + 1) total
      by_case true both is = used_one who u next es pair total (one_address who standing both ∙ here) is so_far
      by_case false none is = used_passed u next es pair total (no_address who standing none ∙ here) is so_far

  pub keeps_roles : KeepsPairs (roles_among role)
  keeps_roles = keeps_mapped (λ es. es) (record { none = refl; more = λ e es. refl }) (λ (pair : UniqueModel × Standing). is_among role pair.0.address)

  -- the roles of the processes up to a pair, and of those after it
  pub noted_role : (who : UniqueModel) (standing : Standing) (rs next : List Bool) (es : List (UniqueModel × Standing)) (pair : ℕ) → Some (who, standing) ≡ slice_get es pair → next ≡ rs ++ is_among role who.address ∷ []
      → rs ++ roles_among role (drop pair es) ≡ roles_among role es → next ++ roles_among role (drop (pair + 1) es) ≡ roles_among role es
  noted_role who standing rs next es pair there is so_far =
      ap (λ l. l ++ roles_among role (drop (pair + 1) es)) is
      ∙ append_assoc rs (is_among role who.address ∷ []) (roles_among role (drop (pair + 1) es))
      ∙ ap (λ l. rs ++ l) (ap (λ o. roles_among role (option_to_list o) ++ roles_among role (drop (pair + 1) es)) there ∙ sym (kept_from (roles_among role) keeps_roles es pair))
      ∙ so_far

  pub passed_role : (rs next : List Bool) (es : List (UniqueModel × Standing)) (pair : ℕ) → None ≡ slice_get es pair → next ≡ rs → rs ++ roles_among role (drop pair es) ≡ roles_among role es → next ++ roles_among role (drop (pair + 1) es) ≡ roles_among role es
  passed_role rs next es pair none is so_far =
      (λ i. is i ++ (ap (λ o. roles_among role (option_to_list o) ++ roles_among role (drop (pair + 1) es)) none ∙ sym (kept_from (roles_among role) keeps_roles es pair)) i) ∙ so_far

  pub noted_roles : (rs : List Bool) (es : List (UniqueModel × Standing)) (pair : ℕ) → length es ≤ pair → rs ++ roles_among role (drop pair es) ≡ roles_among role es → rs ≡ roles_among role es
  noted_roles rs es pair past so_far = sym (ap (λ l. rs ++ l) (kept_at_end (roles_among role) keeps_roles es pair past) ∙ append-nil rs) ∙ so_far

  -- the role of a process at a pair
  pub role_there : (who : UniqueModel) (es : List (UniqueModel × Standing)) (pair : ℕ) → option_map (λ (pair : UniqueModel × Standing). pair.0) (slice_get es pair) ≡ Some who → slice_get (roles_among role es) pair ≡ Some (is_among role who.address)
  role_there who [] pair is = absurd (none_there who is)
  role_there who (e ∷ es) zero is = ap (option_map (λ (w : UniqueModel). is_among role w.address)) is
  role_there who (e ∷ es) (suc pair) is = role_there who es pair is

  -- ---- marks that are the same
  abbrev by_marks : List (AddressModel × Bool) → List AddressModel
  by_marks ms = filter (is_among role) (map (λ (m : AddressModel × Bool). m.0) (filter (λ (m : AddressModel × Bool). m.1) ms))

  pub addresses_by_marks : (es : List (UniqueModel × Standing)) → addresses_among role es ≡ by_marks (map mark es)
  addresses_by_marks [] = refl
  addresses_by_marks ((who, Buried confirmed) ∷ es) = addresses_by_marks es
  addresses_by_marks ((who, Member status number) ∷ es) = by_case (counts status) (addresses_by_marks es)
    where
      by_role : (b : Bool) → addresses_among role es ≡ by_marks (map mark es)
          → map (λ (pair : UniqueModel × ℕ). pair.0.address) (cond b ((who, number) ∷ filter (has_role role) (counted_pairs (member_pairs es))) (filter (has_role role) (counted_pairs (member_pairs es))))
          ≡ cond b (who.address ∷ by_marks (map mark es)) (by_marks (map mark es))
      by_role true rest = ap (λ l. who.address ∷ l) rest
      by_role false rest = rest

      by_case : (counted : Bool) → addresses_among role es ≡ by_marks (map mark es)
          → map (λ (pair : UniqueModel × ℕ). pair.0.address) (filter (has_role role) (if counted then (who, number) ∷ counted_pairs (member_pairs es) else counted_pairs (member_pairs es)))
          ≡ filter (is_among role) (map (λ (m : AddressModel × Bool). m.0) (cond counted ((who.address, counted) ∷ filter (λ (m : AddressModel × Bool). m.1) (map mark es)) (filter (λ (m : AddressModel × Bool). m.1) (map mark es))))
      by_case false rest = rest
      by_case true rest = by_role (is_among role who.address) rest

  pub roles_by_marks : (es : List (UniqueModel × Standing)) → roles_among role es ≡ map (λ (m : AddressModel × Bool). is_among role m.0) (map mark es)
  roles_by_marks [] = refl
  roles_by_marks (e ∷ es) = ap (λ l. is_among role e.0.address ∷ l) (roles_by_marks es)

  pub marked_uses : (es fs : List (UniqueModel × Standing)) → map mark fs ≡ map mark es → uses_of (addresses_among role es) ≡ uses_of (addresses_among role fs)
  marked_uses es fs same = ap uses_of (addresses_by_marks es ∙ ap by_marks (sym same) ∙ sym (addresses_by_marks fs))

  pub marked_roles : (es fs : List (UniqueModel × Standing)) → map mark fs ≡ map mark es → roles_among role es ≡ roles_among role fs
  marked_roles es fs same = roles_by_marks es ∙ ap (map (λ (m : AddressModel × Bool). is_among role m.0)) (sym same) ∙ sym (roles_by_marks fs)

-- marks from a pair on
pub keeps_marks : KeepsPairs (λ (es : List (UniqueModel × Standing)). map mark es)
keeps_marks = keeps_mapped (λ es. es) (record { none = refl; more = λ e es. refl }) mark

mark_there : (o : Option (UniqueModel × Standing)) → map mark (option_to_list o) ≡ option_to_list (option_map mark o)
mark_there None = refl
mark_there (Some e) = refl

pub marked_here : (es fs : List (UniqueModel × Standing)) (pair : ℕ) → option_map mark (slice_get es pair) ≡ option_map mark (slice_get fs pair)
    → map mark (drop (pair + 1) fs) ≡ map mark (drop (pair + 1) es) → map mark (drop pair fs) ≡ map mark (drop pair es)
marked_here es fs pair here rest =
    kept_from (map mark) keeps_marks fs pair
    ∙ (λ i. (mark_there (slice_get fs pair) ∙ ap option_to_list (sym here) ∙ sym (mark_there (slice_get es pair))) i ++ rest i)
    ∙ sym (kept_from (map mark) keeps_marks es pair)

pub marked_end : (es fs : List (UniqueModel × Standing)) (pair : ℕ) → length es ≤ pair → length fs ≤ pair → map mark (drop pair fs) ≡ map mark (drop pair es)
marked_end es fs pair past past_other = kept_at_end (map mark) keeps_marks fs pair past_other ∙ sym (kept_at_end (map mark) keeps_marks es pair past)

-- ---- a view that knows nobody
pub empty_kept : (role : List AddressModel) (seen : UniqueSet) → nothing_kept ≡ record { numbers = tally_of role empty_view seen; roles = roles_among role (finmap.entries empty_view.standings) }
empty_kept role seen = λ i. record { numbers = empty_tally role seen i; roles = roles_among role (sym entries-empty i) }

-- ---- what was received
as_received : (me : UniqueModel) (own incoming : GossipState) (r : Relation) → IsAsReceived (marked_seen me (accepted r own incoming)).0 own (marked_seen me (accepted r own incoming)).1
as_received me own incoming clock.Same = record { view = seen_view me own incoming (same own incoming); seen = seen_more }
  where
    by_case : (b : Bool) (who : UniqueModel) → IsTrue (has (same own incoming).seen who) → IsTrue (has (if b then record (same own incoming) { seen = with_one (same own incoming).seen me } else same own incoming).seen who)
    by_case true who there = has-with_one (same own incoming).seen me who ∙ ap (λ c. eq_by_cmp unique_cmp who me || c) there ∙ or_true (eq_by_cmp unique_cmp who me)
    by_case false who there = there

    seen_more : (who : UniqueModel) → IsTrue (has own.seen who) → IsTrue (has (seen_by me (same own incoming)).seen who)
    seen_more who there = by_case (is_member own.view.standings me) who (has-union own.seen (those incoming.seen (is_member own.view.standings)) who ∙ ap (λ c. c || has (those incoming.seen (is_member own.view.standings)) who) there)
as_received me own incoming clock.Before = tt
as_received me own incoming clock.After = refl
as_received me own incoming clock.Concurrent = tt

pub received_so : (me : UniqueModel) (own incoming after : GossipState) (received : Received) → gossip.Receives me own incoming (Ok received) after → IsAsReceived received own after
received_so me own incoming after received is =
    subst (λ (r : Received × GossipState). IsAsReceived r.0 own r.1) (received_is me own incoming (received, after) is) (as_received me own incoming (relation own.version incoming.version))
