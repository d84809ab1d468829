-- Who is unreachable, along the rows and in words.
use Rattle.std.proofs.Common.{◌≡◌, ◌≢◌, ℕ, ◌+◌, Bool, true, false, ◌||◌, ◌&&◌, IsTrue, ◌↔◌, ◌≤◌, List, length, drop, slice_get, Option, Some, None, is_some, option_map, option_to_list, arith, refl, sym, ap, ◌∙◌, true≢false}
use Rattle.std.proofs.Math.ListN.{drop_of_length-le}
use Rattle.std.proofs.lemmas.Bool.{and_parts, and_from, and_right}
use Rattle.std.proofs.lemmas.List.{length-map}
use Rattle.std.proofs.lemmas.Option.{slice_get-map}
use Rattle.std.specs.Prelude as list
use Rattle.std.specs.Ordering.{eq_by_cmp}
use Rattle.std.proofs.lemmas.List.Folds.{list_any-append}
use Rattle.std.specs.List.{list_any}
use Rattle.std.specs.FinMap as map
use Rattle.std.specs.Cmp.{both_ways}
use Rattle.ak_address.specs.Unique.{UniqueModel, unique_cmp}
use Rattle.ak_address.specs.Uniques.{UniqueSet, has, no_one, those, in_order}
use Rattle.ak_address.proofs.TableLaws.{get_at, index_of_get, key_itself}
use Rattle.ak_address.proofs.UniquesLaws.{has-no_one, has-those, has_at, same_uniques}
use Rattle.ak_member.specs.declared.standing.Standing.{Standing}
use Rattle.ak_member.specs.declared.status.Status.{Status}
use Rattle.ak_member.specs.declared.status.Status.TheVariants.{Joining, WeaklyUp, Up, Leaving, Exiting, Down}
use Rattle.ak_member.specs.Standing.{Standings, member_of, is_member, has_status, members_with, all_members}
use Rattle.ak_member.specs.View.{View, RowTable}
use Rattle.ak_member.proofs.MemberLemmas.{drop_from}
use Rattle.ak_member.proofs.SetLaws.{has-members_with, has-all_members}
use Rattle.ak_reach.specs.Reach.{reported}
use Rattle.ak_reach.specs.Unreachable.{observes, unreachable_members, IsUnreachable}
use Rattle.ak_reach.specs.Walk.{row_shows, with_reported, with_all_reported}
use Rattle.ak_reach.proofs.ReachLemmas.{index_of_any, any_at, reported_means, with_left, is_among, has-with_all}

-- ---- along a list
module _ {X : Type 0} (p : X → Bool) where
  -- a test of the element at an index, and of those from the next one on
  pub any_from_index : (xs : List X) (i : ℕ) → list_any p (drop i xs) ≡ (list_any p (option_to_list (slice_get xs i)) || list_any p (drop (i + 1) xs))
  any_from_index xs i = ap (list_any p) (drop_from xs i) ∙ list_any-append p (option_to_list (slice_get xs i)) (drop (i + 1) xs)

  -- where those from an index on say what all say: what one there says, and what is said at the end
  pub said_here : (xs : List X) (i : ℕ) → true ≡ list_any p (option_to_list (slice_get xs i)) → list_any p (drop i xs) ≡ list_any p xs → true ≡ list_any p xs
  said_here xs i here before = ap (λ b. b || list_any p (drop (i + 1) xs)) here ∙ sym (any_from_index xs i) ∙ before

  pub said_nowhere : (xs : List X) (i : ℕ) → length xs ≤ i → list_any p (drop i xs) ≡ list_any p xs → false ≡ list_any p xs
  said_nowhere xs i past before = sym (ap (list_any p) (drop_of_length-le xs past)) ∙ before

-- ---- who has it in its row
pub shown_reported : (s : Standings) (rows : RowTable) (who : UniqueModel) → list_any (row_shows s who) (map.entries rows) ≡ reported rows (members_with observes s) who
shown_reported s rows who = both_ways _ _ there back
  where
    there : list_any (row_shows s who) (map.entries rows) ≡ true → reported rows (members_with observes s) who ≡ true
    there is =
        let at = index_of_any (row_shows s who) (map.entries rows) is in
        let parts = and_parts (has_status observes (member_of (map.get s at.1.0))) (has at.1.1.subjects who) at.3 in
        (reported_means rows (members_with observes s) who).1
        (record { observer = at.1.0; row = at.1.1; observes = has-members_with observes s at.1.0 ∙ parts.0; has_row = get_at rows at.0 at.1 at.2; in_row = parts.1 })

    back : reported rows (members_with observes s) who ≡ true → list_any (row_shows s who) (map.entries rows) ≡ true
    back is =
        let r = (reported_means rows (members_with observes s) who).0 is in
        let at = index_of_get rows r.observer r.row r.has_row in
        any_at (row_shows s who) (map.entries rows) at.0 (r.observer, r.row) at.1
        (and_from (has_status observes (member_of (map.get s r.observer))) (has r.row.subjects who) (sym (has-members_with observes s r.observer) ∙ r.observes) r.in_row)

-- ---- who is unreachable
pub has-unreachable : (v : View) (who : UniqueModel) → has (unreachable_members v) who ≡ (is_member v.standings who && reported v.rows (members_with observes v.standings) who)
has-unreachable v who =
    has-those (all_members v.standings) (reported v.rows (members_with observes v.standings)) who
    ∙ ap (λ b. b && reported v.rows (members_with observes v.standings) who) (has-all_members v.standings who)

observing : (o : Option (Status × ℕ)) → has_status observes o ≡ true → (status : Status) × (number : ℕ) × (o ≡ Some (status, number)) × (status ≢ Down)
observing None is = absurd (true≢false (sym is))
observing (Some m) is = (m.0, m.1, refl, λ down. true≢false (sym is ∙ ap observes down))

not_down_observes : (status : Status) → status ≢ Down → observes status ≡ true
not_down_observes Joining not_down = refl
not_down_observes WeaklyUp not_down = refl
not_down_observes Up not_down = refl
not_down_observes Leaving not_down = refl
not_down_observes Exiting not_down = refl
not_down_observes Down not_down = absurd (not_down refl)

pub unreachable_means : (v : View) (who : UniqueModel) → IsTrue (has (unreachable_members v) who) ↔ IsUnreachable v who
unreachable_means v who = (there, back)
  where
    there : IsTrue (has (unreachable_members v) who) → IsUnreachable v who
    there is =
        let parts = and_parts (is_member v.standings who) (reported v.rows (members_with observes v.standings) who) (sym (has-unreachable v who) ∙ is) in
        let r = (reported_means v.rows (members_with observes v.standings) who).0 parts.1 in
        let o = observing (member_of (map.get v.standings r.observer)) (sym (has-members_with observes v.standings r.observer) ∙ r.observes) in
        record { member = parts.0; observer = r.observer; status = o.0; number = o.1; observer_is = o.2; not_down = o.3; row = r.row; row_is = r.has_row; in_row = r.in_row }

    back : IsUnreachable v who → IsTrue (has (unreachable_members v) who)
    back u =
        has-unreachable v who
        ∙ and_from (is_member v.standings who) (reported v.rows (members_with observes v.standings) who) u.member
        ((reported_means v.rows (members_with observes v.standings) who).1
        (record {
          observer = u.observer;
          row = u.row;
          observes = has-members_with observes v.standings u.observer ∙ ap (has_status observes) u.observer_is ∙ not_down_observes u.status u.not_down;
          has_row = u.row_is;
          in_row = u.in_row;
        }))

-- one is there where the other is
pub same_there : {A B C : Type 0} (f : A → C) (g : B → C) (a : Option A) (b : Option B) → option_map f a ≡ option_map g b → is_some a ≡ is_some b
same_there f g None None is = refl
same_there f g None (Some y) is = ap is_some is
same_there f g (Some x) None is = ap is_some is
same_there f g (Some x) (Some y) is = refl

-- the answer of the call, where somebody who is not Down has the process in its row, and where nobody has
pub answer_means : (v : View) (who : UniqueModel) (b : Bool) → b ≡ has (unreachable_members v) who → IsTrue b ↔ IsUnreachable v who
answer_means v who b is = (λ t. (unreachable_means v who).0 (sym is ∙ t), λ u. is ∙ (unreachable_means v who).1 u)

pub answer_if_observed : (v : View) (who : UniqueModel) (b : Bool) → true ≡ reported v.rows (members_with observes v.standings) who → b ≡ is_member v.standings who → b ≡ has (unreachable_members v) who
answer_if_observed v who b observed is = is ∙ sym (has-unreachable v who ∙ ap (λ t. is_member v.standings who && t) (sym observed) ∙ and_true (is_member v.standings who))
  where
    and_true : (b : Bool) → (b && true) ≡ b
    and_true true = refl
    and_true false = refl

pub answer_if_not : (v : View) (who : UniqueModel) → false ≡ reported v.rows (members_with observes v.standings) who → false ≡ has (unreachable_members v) who
answer_if_not v who observed = sym (has-unreachable v who ∙ ap (λ t. is_member v.standings who && t) (sym observed) ∙ and_false (is_member v.standings who))
  where
    and_false : (b : Bool) → (b && false) ≡ false
    and_false true = refl
    and_false false = refl

-- a member is unreachable where a row shows it
pub unreachable_if_shown : (v : View) (who : UniqueModel) (b : Bool) → b ≡ list_any (row_shows v.standings who) (map.entries v.rows) → IsTrue (is_member v.standings who) → b ≡ has (unreachable_members v) who
unreachable_if_shown v who b is member = is ∙ shown_reported v.standings v.rows who ∙ sym (has-unreachable v who ∙ ap (λ t. t && reported v.rows (members_with observes v.standings) who) member)

-- ---- the unreachable members as a set, along the pairs
abbrev pub known_ones : Standings → List UniqueModel
known_ones s = list.map (λ (e : UniqueModel × Standing). e.0) (map.entries s)

pub found_next : (test : UniqueModel → Bool) (s : Standings) (i : ℕ) (them next all : UniqueSet) → next ≡ with_reported test (option_map (λ (e : UniqueModel × Standing). e.0) (slice_get (map.entries s) i)) them
    → with_all_reported test (drop i (known_ones s)) them ≡ all → with_all_reported test (drop (i + 1) (known_ones s)) next ≡ all
found_next test s i them next all is before =
    ap (with_all_reported test (drop (i + 1) (known_ones s))) (is ∙ ap (λ o. with_reported test o them) (sym (slice_get-map (λ (e : UniqueModel × Standing). e.0) (map.entries s) i)))
    ∙ sym (with_left test (known_ones s) i them)
    ∙ before

pub found_end : (test : UniqueModel → Bool) (s : Standings) (i : ℕ) (them all : UniqueSet) → map.len s ≤ i → with_all_reported test (drop i (known_ones s)) them ≡ all → them ≡ all
found_end test s i them all past before =
    sym (ap (λ rest. with_all_reported test rest them) (drop_of_length-le (known_ones s) (omega (arith, map.len-entries s, length-map (map.entries s) (λ (e : UniqueModel × Standing). e.0))))) ∙ before

pub found_all : (v : View) → with_all_reported (has (unreachable_members v)) (known_ones v.standings) no_one ≡ unreachable_members v
found_all v = same_uniques _ _ (λ q.
    has-with_all (has (unreachable_members v)) (known_ones v.standings) no_one q
    ∙ ap (λ b. b || (is_among q (known_ones v.standings) && has (unreachable_members v) q)) (has-no_one q)
    ∙ by_has q (has (unreachable_members v) q) refl)
  where
    known : (q : UniqueModel) (o : Option Standing) → map.get v.standings q ≡ o → is_some (member_of o) ≡ true → is_among q (known_ones v.standings) ≡ true
    known q None at is = absurd (true≢false (sym is))
    known q (Some x) at is =
        let index = index_of_get v.standings q x at in
        any_at (eq_by_cmp unique_cmp q) (known_ones v.standings) index.0 q (slice_get-map (λ (e : UniqueModel × Standing). e.0) (map.entries v.standings) index.0 ∙ ap (option_map (λ (e : UniqueModel × Standing). e.0)) index.1) (key_itself q)

    by_has : (q : UniqueModel) (b : Bool) → has (unreachable_members v) q ≡ b → (is_among q (known_ones v.standings) && b) ≡ b
    by_has q true is = ap (λ t. t && true) (known q (map.get v.standings q) refl ((unreachable_means v q).0 is).member)
    by_has q false is = and_right (is_among q (known_ones v.standings)) false refl

-- ---- a set that has somebody
pub some_there : (s : UniqueSet) (o : Option UniqueModel) → list_any (has s) (option_to_list o) ≡ true → s ≢ no_one
some_there s None any none = true≢false (sym any)
some_there s (Some who) any none = true≢false (sym (either _ any) ∙ ap (λ s. has s who) none ∙ has-no_one who)
  where
    either : (b : Bool) → (b || false) ≡ true → b ≡ true
    either true any = any
    either false any = any

pub some_of_those : (test : UniqueModel → Bool) (s : UniqueSet) (i : ℕ) (o : Option UniqueModel) → o ≡ slice_get (in_order s) i → list_any test (option_to_list o) ≡ true → those s test ≢ no_one
some_of_those test s i None is any none = true≢false (sym any)
some_of_those test s i (Some who) is any none =
    true≢false (sym (ap (λ b. b && test who) (has_at s i who (sym is)) ∙ either _ any) ∙ sym (has-those s test who) ∙ ap (λ s. has s who) none ∙ has-no_one who)
  where
    either : (b : Bool) → (b || false) ≡ true → b ≡ true
    either true any = any
    either false any = any
