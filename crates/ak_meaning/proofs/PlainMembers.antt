-- The members of a view with each WeaklyUp one shown as Joining: what is asked of the list of members here is the same of both.
use Rattle.std.proofs.Common.{◌≡◌, ℕ, Bool, true, false, cond, not, ◌&&◌, ◌||◌, T, IsTrue, List, [], ◌∷◌, Some, option_map, if◌then◌else◌, true≢false, refl, sym, ap, ◌∙◌, subst}
use Rattle.std.specs.Prelude as list
use Rattle.std.specs.FinMap as map
use Rattle.std.specs.FinMap.Entries.{below_all, same_entries}
use Rattle.std.specs.List.{filter, list_all}
use Rattle.std.specs.Ordering.{is_lt, eq_by_cmp}
use Rattle.ak_address.specs.Unique.{UniqueModel, unique_cmp}
use Rattle.ak_address.specs.Uniques.{UniqueSet, has}
use Rattle.ak_address.proofs.OrderLemmas.{unique_total, unique_exact}
use Rattle.ak_address.proofs.Pairs.{first, second, find_below}
use Rattle.ak_address.proofs.TableLaws.{same_key}
use Rattle.ak_converge.specs.Convergence.{is_passed_over, agrees}
use Rattle.ak_downing.specs.Downing.{all_downed}
use Rattle.ak_member.specs.declared.effect.Effect.TheVariants.{Rise}
use Rattle.ak_member.specs.declared.status.Status.{Status}
use Rattle.ak_member.specs.declared.status.Status.TheVariants.{Joining, WeaklyUp, Up, Leaving, Exiting, Down}
use Rattle.ak_member.specs.declared.standing.Standing.{Standing}
use Rattle.ak_member.specs.declared.standing.Standing.TheVariants.{Member, Buried}
use Rattle.ak_member.specs.Age.{counts, counted_pairs}
use Rattle.ak_member.specs.Standing.{Standings, member_of, members_of, member_pairs, is_waiting, is_down}
use Rattle.ak_member.proofs.MembersLaws.{members_sorted}
use Rattle.ak_reach.specs.Unreachable.{observes}

abbrev MemberPair : Type 0
MemberPair = UniqueModel × (Status × ℕ)

-- ---- statuses
abbrev pub plain : Status → Status
plain Joining = Joining
plain WeaklyUp = Joining
plain Up = Up
plain Leaving = Leaving
plain Exiting = Exiting
plain Down = Down

pub plain_waiting : (status : Status) → IsTrue (is_waiting status) → plain status ≡ Joining
plain_waiting Joining waits = refl
plain_waiting WeaklyUp waits = refl
plain_waiting Up waits = absurd (true≢false (sym waits))
plain_waiting Leaving waits = absurd (true≢false (sym waits))
plain_waiting Exiting waits = absurd (true≢false (sym waits))
plain_waiting Down waits = absurd (true≢false (sym waits))

plain_counts : (status : Status) → counts (plain status) ≡ counts status
plain_counts Joining = refl
plain_counts WeaklyUp = refl
plain_counts Up = refl
plain_counts Leaving = refl
plain_counts Exiting = refl
plain_counts Down = refl

plain_observes : (status : Status) → observes (plain status) ≡ observes status
plain_observes Joining = refl
plain_observes WeaklyUp = refl
plain_observes Up = refl
plain_observes Leaving = refl
plain_observes Exiting = refl
plain_observes Down = refl

plain_passed_over : (status : Status) → is_passed_over (plain status) ≡ is_passed_over status
plain_passed_over Joining = refl
plain_passed_over WeaklyUp = refl
plain_passed_over Up = refl
plain_passed_over Leaving = refl
plain_passed_over Exiting = refl
plain_passed_over Down = refl

plain_down : (status : Status) → is_down (plain status) ≡ is_down status
plain_down Joining = refl
plain_down WeaklyUp = refl
plain_down Up = refl
plain_down Leaving = refl
plain_down Exiting = refl
plain_down Down = refl

-- ---- members
abbrev pub plain_member : Status × ℕ → Status × ℕ
plain_member m = (plain m.0, m.1)

abbrev pub plain_pairs : List MemberPair → List MemberPair
plain_pairs ms = list.map (λ (m : MemberPair). (m.0, plain_member m.1)) ms

-- those that count, with their numbers
pub plain_counted : (ms : List MemberPair) → counted_pairs (plain_pairs ms) ≡ counted_pairs ms
plain_counted [] = refl
plain_counted ((who, (status, number)) ∷ ms) = λ i. if plain_counts status i then (who, number) ∷ plain_counted ms i else plain_counted ms i

-- their processes, and those of the ones that observe
pub plain_uniques : (ms : List MemberPair) → list.map (λ (m : MemberPair). m.0) (plain_pairs ms) ≡ list.map (λ (m : MemberPair). m.0) ms
plain_uniques [] = refl
plain_uniques (m ∷ ms) = ap (λ l. m.0 ∷ l) (plain_uniques ms)

pub plain_observers : (ms : List MemberPair) → list.map (λ (m : MemberPair). m.0) (filter (λ (m : MemberPair). observes m.1.0) (plain_pairs ms)) ≡ list.map (λ (m : MemberPair). m.0) (filter (λ (m : MemberPair). observes m.1.0) ms)
plain_observers [] = refl
plain_observers ((who, (status, number)) ∷ ms) = by_test (observes (plain status)) (observes status) (plain_observes status) (plain_observers ms)
  where
    by_test : (b c : Bool) → b ≡ c
        → list.map (λ (m : MemberPair). m.0) (filter (λ (m : MemberPair). observes m.1.0) (plain_pairs ms)) ≡ list.map (λ (m : MemberPair). m.0) (filter (λ (m : MemberPair). observes m.1.0) ms)
        → list.map (λ (m : MemberPair). m.0) (cond b ((who, (plain status, number)) ∷ filter (λ (m : MemberPair). observes m.1.0) (plain_pairs ms)) (filter (λ (m : MemberPair). observes m.1.0) (plain_pairs ms)))
        ≡ list.map (λ (m : MemberPair). m.0) (cond c ((who, (status, number)) ∷ filter (λ (m : MemberPair). observes m.1.0) ms) (filter (λ (m : MemberPair). observes m.1.0) ms))
    by_test true true same rest = ap (λ l. who ∷ l) rest
    by_test true false same rest = absurd (true≢false same)
    by_test false true same rest = absurd (true≢false (sym same))
    by_test false false same rest = rest

-- whether all of them agree
pub plain_agree : (lost seen : UniqueSet) (ms : List MemberPair) → list_all (agrees lost seen) (plain_pairs ms) ≡ list_all (agrees lost seen) ms
plain_agree lost seen [] = refl
plain_agree lost seen ((who, (status, number)) ∷ ms) = λ i. ((not (plain_counts status i) || has seen who) && (not (has lost who) || plain_passed_over status i)) && plain_agree lost seen ms i

-- what downs those that pass a test
pub plain_downed : (test : UniqueModel → Bool) (ms : List MemberPair) → all_downed test (plain_pairs ms) ≡ all_downed test ms
plain_downed test [] = refl
plain_downed test ((who, (status, number)) ∷ ms) = λ i. if test who && not (plain_down status i) then Rise who Down 0 ∷ plain_downed test ms i else plain_downed test ms i

-- ---- the list of the members, from what is known of each process
found_member : (q : UniqueModel) (es : List (UniqueModel × Standing)) → T (map.is_sorted unique_cmp es) → map.find unique_cmp q (member_pairs es) ≡ member_of (map.find unique_cmp q es)
found_member q [] sorted = refl
found_member q ((who, Member status number) ∷ es) sorted = by_key (eq_by_cmp unique_cmp q who) (found_member q es (second _ _ sorted))
  where
    by_key : (b : Bool) → map.find unique_cmp q (member_pairs es) ≡ member_of (map.find unique_cmp q es)
        → cond b (Some (status, number)) (map.find unique_cmp q (member_pairs es)) ≡ member_of (cond b (Some (Member status number)) (map.find unique_cmp q es))
    by_key true rest = refl
    by_key false rest = rest
found_member q ((who, Buried confirmed) ∷ es) sorted = by_key (eq_by_cmp unique_cmp q who) refl (found_member q es (second _ _ sorted))
  where
    by_key : (b : Bool) → eq_by_cmp unique_cmp q who ≡ b → map.find unique_cmp q (member_pairs es) ≡ member_of (map.find unique_cmp q es)
        → map.find unique_cmp q (member_pairs es) ≡ member_of (cond b (Some (Buried confirmed)) (map.find unique_cmp q es))
    by_key true tied rest = rest ∙ ap member_of (ap (λ k. map.find unique_cmp k es) (same_key q who tied) ∙ find_below unique_cmp unique_total who es (first _ _ sorted))
    by_key false apart rest = rest

found_plain : (q : UniqueModel) (ms : List MemberPair) → map.find unique_cmp q (plain_pairs ms) ≡ option_map plain_member (map.find unique_cmp q ms)
found_plain q [] = refl
found_plain q (m ∷ ms) = by_key (eq_by_cmp unique_cmp q m.0) (found_plain q ms)
  where
    by_key : (b : Bool) → map.find unique_cmp q (plain_pairs ms) ≡ option_map plain_member (map.find unique_cmp q ms)
        → cond b (Some (plain_member m.1)) (map.find unique_cmp q (plain_pairs ms)) ≡ option_map plain_member (cond b (Some m.1) (map.find unique_cmp q ms))
    by_key true rest = refl
    by_key false rest = rest

plain_below : (who : UniqueModel) (ms : List MemberPair) → below_all unique_cmp who (plain_pairs ms) ≡ below_all unique_cmp who ms
plain_below who [] = refl
plain_below who (m ∷ ms) = ap (λ b. is_lt (unique_cmp who m.0) && b) (plain_below who ms)

plain_sorted : (ms : List MemberPair) → map.is_sorted unique_cmp (plain_pairs ms) ≡ map.is_sorted unique_cmp ms
plain_sorted [] = refl
plain_sorted (m ∷ ms) = λ i. plain_below m.0 ms i && plain_sorted ms i

abbrev pub plain_members : Standings → List MemberPair
plain_members s = plain_pairs (members_of s)

plain_members_sorted : (s : Standings) → T (map.is_sorted unique_cmp (plain_members s))
plain_members_sorted s = subst T (sym (plain_sorted (members_of s))) (members_sorted s)

found_in_members : (s : Standings) (q : UniqueModel) → map.find unique_cmp q (plain_members s) ≡ option_map plain_member (member_of (map.get s q))
found_in_members s q =
    found_plain q (members_of s)
    ∙ ap (option_map plain_member) (found_member q (map.entries s) (map.entries_sorted s) ∙ ap member_of (sym (map.get-entries s q)))

-- where each process is shown as the same, the lists are equal
pub same_plain_members : (s t : Standings) → ((q : UniqueModel) → option_map plain_member (member_of (map.get s q)) ≡ option_map plain_member (member_of (map.get t q))) → plain_members s ≡ plain_members t
same_plain_members s t each =
    same_entries unique_cmp unique_total unique_exact (plain_members s) (plain_members t) (plain_members_sorted s) (plain_members_sorted t) (λ q.
    found_in_members s q ∙ each q ∙ sym (found_in_members t q))
