-- Who is in the set of the members, and of those whose status passes a test.
use Rattle.std.proofs.Common.{◌≡◌, ℕ, Bool, true, false, cond, ◌&&◌, ◌||◌, T, List, [], ◌∷◌, Option, Some, None, is_some, refl, sym, ap, ◌∙◌}
use Rattle.std.specs.Prelude as list
use Rattle.std.specs.FinMap as map
use Rattle.std.specs.List.{list_any, filter}
use Rattle.std.specs.Ordering.{eq_by_cmp}
use Rattle.ak_address.specs.Unique.{UniqueModel, unique_cmp}
use Rattle.ak_address.specs.Uniques.{has, set_of}
use Rattle.ak_address.proofs.OrderLemmas.{unique_total}
use Rattle.ak_address.proofs.Pairs.{first, second, find_below}
use Rattle.ak_address.proofs.TableLaws.{same_key}
use Rattle.ak_address.proofs.UniquesLaws.{has-set_of}
use Rattle.ak_member.specs.declared.status.Status.{Status}
use Rattle.ak_member.specs.declared.standing.Standing.{Standing}
use Rattle.ak_member.specs.Standing.{Standings, as_member, member_of, is_member, has_status, pair_of, member_pairs, members_of, members_with, all_members}

abbrev MemberPair : Type 0
MemberPair = UniqueModel × (Status × ℕ)

module _ (test : Status → Bool) (q : UniqueModel) where
  -- the process is among the members that pass the test
  abbrev among : List MemberPair → Bool
  among ms = list_any (eq_by_cmp unique_cmp q) (list.map (λ (m : MemberPair). m.0) (filter (λ (m : MemberPair). test m.1.0) ms))

  among_next : (who : UniqueModel) (o : Option (Status × ℕ)) (ms : List MemberPair) (b : Bool) → eq_by_cmp unique_cmp q who ≡ b
      → among (pair_of who o ms) ≡ ((b && has_status test o) || among ms)
  among_next who None ms true is = refl
  among_next who None ms false is = refl
  among_next who (Some m) ms b is = by_test (test m.0) ∙ ap (λ t. (t && test m.0) || among ms) is
    where
      by_test : (t : Bool) → list_any (eq_by_cmp unique_cmp q) (list.map (λ (m : MemberPair). m.0) (cond t ((who, m) ∷ filter (λ (m : MemberPair). test m.1.0) ms) (filter (λ (m : MemberPair). test m.1.0) ms)))
          ≡ ((eq_by_cmp unique_cmp q who && t) || among ms)
      by_test true = ap (λ t. t || among ms) (sym (and_true (eq_by_cmp unique_cmp q who)))
        where
          and_true : (t : Bool) → (t && true) ≡ t
          and_true true = refl
          and_true false = refl
      by_test false = ap (λ t. t || among ms) (sym (and_false (eq_by_cmp unique_cmp q who)))
        where
          and_false : (t : Bool) → (t && false) ≡ false
          and_false true = refl
          and_false false = refl

  among_found : (es : List (UniqueModel × Standing)) → T (map.is_sorted unique_cmp es) → among (member_pairs es) ≡ has_status test (member_of (map.find unique_cmp q es))
  among_found [] sorted = refl
  among_found ((who, x) ∷ es) sorted = by_key (eq_by_cmp unique_cmp q who) refl (among_found es (second _ _ sorted))
    where
      by_key : (b : Bool) → eq_by_cmp unique_cmp q who ≡ b → among (member_pairs es) ≡ has_status test (member_of (map.find unique_cmp q es))
          → among (pair_of who (as_member x) (member_pairs es)) ≡ has_status test (member_of (cond b (Some x) (map.find unique_cmp q es)))
      by_key true tied rest =
          among_next who (as_member x) (member_pairs es) true tied
          ∙ ap (λ b. has_status test (as_member x) || b) (rest ∙ ap (λ o. has_status test (member_of o)) none)
          ∙ or_false (has_status test (as_member x))
        where
          none : map.find unique_cmp q es ≡ None
          none = ap (λ k. map.find unique_cmp k es) (same_key q who tied) ∙ find_below unique_cmp unique_total who es (first _ _ sorted)

          or_false : (b : Bool) → (b || false) ≡ b
          or_false true = refl
          or_false false = refl
      by_key false apart rest = among_next who (as_member x) (member_pairs es) false apart ∙ rest

pub has-members_with : (test : Status → Bool) (s : Standings) (q : UniqueModel) → has (members_with test s) q ≡ has_status test (member_of (map.get s q))
has-members_with test s q =
    has-set_of (list.map (λ (m : MemberPair). m.0) (filter (λ (m : MemberPair). test m.1.0) (members_of s))) q
    ∙ among_found test q (map.entries s) (map.entries_sorted s)
    ∙ ap (λ o. has_status test (member_of o)) (sym (map.get-entries s q))

every_one : (ms : List MemberPair) → ms ≡ filter (λ (m : MemberPair). true) ms
every_one [] = refl
every_one (m ∷ ms) = ap (λ l. m ∷ l) (every_one ms)

pub has-all_members : (s : Standings) (q : UniqueModel) → has (all_members s) q ≡ is_member s q
has-all_members s q =
    ap (λ ms. has (set_of (list.map (λ (m : MemberPair). m.0) ms)) q) (every_one (members_of s))
    ∙ has-members_with (λ _. true) s q
    ∙ there (member_of (map.get s q))
  where
    there : (o : Option (Status × ℕ)) → has_status (λ _. true) o ≡ is_some o
    there None = refl
    there (Some m) = refl
