-- What taking in another view's standings comes to: of each process what both views know of it.
use Rattle.std.proofs.Common.{◌≡◌, ℕ, ◌+◌, ◌≤◌, Bool, true, false, cond, not, T, IsTrue, List, [], ◌∷◌, ◌++◌, drop, length, reverse, slice_get, Option, Some, None, is_some, option_map, option_to_list, Result, Ok, Err, OnOk, refl, sym, ap, ◌∙◌, subst, arith, true≢false}
use Rattle.std.proofs.lemmas.List.{reverse-append, drop_all}
use Rattle.std.proofs.lemmas.List.Elements.{filter-append}
use Rattle.std.specs.Ordering.{is_eq, eq_by_cmp, ordering_reverse}
use Rattle.std.specs.List.{AllByRecursion}
use Rattle.std.specs.FinMap as map
use Rattle.std.specs.FinMap.Entries.{find-where_key, is_sorted-where_key, below_all}
use Rattle.ak_address.specs.Unique.{UniqueModel, unique_cmp}
use Rattle.ak_address.specs.Table.{merged_at, value_with}
use Rattle.ak_address.proofs.OrderLemmas.{unique_total, unique_exact}
use Rattle.ak_address.proofs.Pairs.{first, second, less, find_below}
use Rattle.ak_address.proofs.TableLaws.{same_table, same_key, is_true, true_is, get-insert, get-merged_tables}
use Rattle.ak_member.specs.declared.standing.Standing.{Standing}
use Rattle.ak_member.specs.Standing.{Standings, nobody, merged_standing, merged_standings, known}
use Rattle.ak_member.specs.Slots.{Slot, standings_of}
use Rattle.ak_member.specs.Merging.{noted, all_noted, is_unknown, unknown, CanBeAdded}
use Rattle.ak_member.proofs.MemberLemmas.{drop_from}
use Rattle.ak_member.proofs.SlotLemmas.{slot_added}

-- ---- what is noted
-- what is known of a process, merged with what another view knows of it; of any other process nothing
abbrev merged_known : Option Standing → Option Standing → Option Standing
merged_known None b = None
merged_known (Some x) b = merged_at merged_standing (Some x) b

abbrev more_known : Standing → Option Standing → Option Standing
more_known y = option_map (λ x. merged_standing x y)

get-noted : (s : Standings) (slot : Slot) (q : UniqueModel) → map.get (noted s slot) q ≡ cond (eq_by_cmp unique_cmp q slot.0) (more_known slot.1 (map.get s q)) (map.get s q)
get-noted s slot q = by (map.get s slot.0) refl
  where
    at : (o : Option Standing) → map.get s slot.0 ≡ o → (t : Bool) → eq_by_cmp unique_cmp q slot.0 ≡ t → t ≡ true → map.get s q ≡ o
    at o is t tied holds = ap (map.get s) (same_key q slot.0 (tied ∙ holds)) ∙ is

    put : (x : Standing) (t : Bool) → (t ≡ true → map.get s q ≡ Some x) → cond t (Some (merged_standing x slot.1)) (map.get s q) ≡ cond t (more_known slot.1 (map.get s q)) (map.get s q)
    put x true here = sym (ap (more_known slot.1) (here refl))
    put x false here = refl

    same : (t : Bool) → (t ≡ true → map.get s q ≡ None) → map.get s q ≡ cond t (more_known slot.1 (map.get s q)) (map.get s q)
    same true here = here refl ∙ sym (ap (more_known slot.1) (here refl))
    same false here = refl

    by : (o : Option Standing) → map.get s slot.0 ≡ o → map.get (noted s slot) q ≡ cond (eq_by_cmp unique_cmp q slot.0) (more_known slot.1 (map.get s q)) (map.get s q)
    by None is = ap (λ o. map.get (cond (is_some o) (known s slot.0 slot.1) s) q) is ∙ same (eq_by_cmp unique_cmp q slot.0) (at None is (eq_by_cmp unique_cmp q slot.0) refl)
    by (Some x) is =
        ap (λ o. map.get (cond (is_some o) (known s slot.0 slot.1) s) q) is
        ∙ get-insert s slot.0 (value_with merged_standing (map.get s slot.0) slot.1) q
        ∙ ap (λ o. cond (eq_by_cmp unique_cmp q slot.0) (Some (value_with merged_standing o slot.1)) (map.get s q)) is
        ∙ put x (eq_by_cmp unique_cmp q slot.0) (at (Some x) is (eq_by_cmp unique_cmp q slot.0) refl)

merged_more : (t : Bool) (a b : Option Standing) (y : Standing) → (t ≡ true → b ≡ None) → merged_known (cond t (more_known y a) a) b ≡ merged_known a (cond t (Some y) b)
merged_more true None b y none = refl
merged_more true (Some x) b y none = ap (merged_at merged_standing (Some (merged_standing x y))) (none refl)
merged_more false a b y none = refl

get-all_noted : (slots : List Slot) → T (map.is_sorted unique_cmp slots) → (s : Standings) (q : UniqueModel) → map.get (all_noted slots s) q ≡ merged_known (map.get s q) (map.find unique_cmp q slots)
get-all_noted [] sorted s q = with_none (map.get s q)
  where
    with_none : (a : Option Standing) → a ≡ merged_known a None
    with_none None = refl
    with_none (Some x) = refl
get-all_noted (slot ∷ slots) sorted s q =
    get-all_noted slots (second _ _ sorted) (noted s slot) q
    ∙ ap (λ a. merged_known a (map.find unique_cmp q slots)) (get-noted s slot q)
    ∙ merged_more (eq_by_cmp unique_cmp q slot.0) (map.get s q) (map.find unique_cmp q slots) slot.1
    (λ tied. ap (λ u. map.find unique_cmp u slots) (same_key q slot.0 tied) ∙ find_below unique_cmp unique_total slot.0 slots (first _ _ sorted))

-- ---- and what is added
first_of : Option Standing → Option Standing → Option Standing
first_of None b = b
first_of (Some x) b = Some x

find_either : (q : UniqueModel) (xs ys : List Slot) → map.find unique_cmp q (xs ++ ys) ≡ first_of (map.find unique_cmp q xs) (map.find unique_cmp q ys)
unfolding first_of
find_either q [] ys = refl
find_either q (x ∷ xs) ys =
    elim (eq_by_cmp unique_cmp q x.0) as (λ b. cond b (Some x.1) (map.find unique_cmp q (xs ++ ys)) ≡ first_of (cond b (Some x.1) (map.find unique_cmp q xs)) (map.find unique_cmp q ys)) [ true ↦ refl | false ↦ find_either q xs ys ]

of_both : (a b : Option Standing) → first_of (merged_known a b) (cond (not (is_some a)) b None) ≡ merged_at merged_standing a b
unfolding first_of
of_both None b = refl
of_both (Some x) None = refl
of_both (Some x) (Some y) = refl

pub merged_slots : (s t : Standings) (old new : List Slot) → standings_of old ≡ all_noted (map.entries t) s → new ≡ unknown s (map.entries t) → standings_of (old ++ new) ≡ merged_standings s t
merged_slots s t old new notes adds =
    let es = map.entries t in
    same_table _ _ (λ q.
    let was = sym (map.get-from_entries unique_total old q) ∙ ap (λ m. map.get m q) notes ∙ get-all_noted es (map.entries_sorted t) s q in
    let more = ap (map.find unique_cmp q) adds ∙ find-where_key unique_cmp (is_unknown s) q (λ x tied. ap (is_unknown s) (sym (unique_exact q x tied))) es in
    map.get-from_entries unique_total (old ++ new) q
    ∙ find_either q old new
    ∙ (λ i. first_of (was i) (more i))
    ∙ of_both (map.get s q) (map.find unique_cmp q es)
    ∙ ap (merged_at merged_standing (map.get s q)) (sym (map.get-entries t q))
    ∙ sym (get-merged_tables merged_standing s t q))

-- ---- the unknown ones can be added
absent_where : (s : Standings) (es : List Slot) → AllByRecursion (λ (slot : Slot). map.get s slot.0 ≡ None) (unknown s es)
absent_where s [] = tt
absent_where s (e ∷ es) = by (map.get s e.0) refl (absent_where s es)
  where
    by : (o : Option Standing) → map.get s e.0 ≡ o → AllByRecursion (λ (slot : Slot). map.get s slot.0 ≡ None) (unknown s es) → AllByRecursion (λ (slot : Slot). map.get s slot.0 ≡ None) (cond (not (is_some (map.get s e.0))) (e ∷ unknown s es) (unknown s es))
    by None is rest = subst (λ o. AllByRecursion (λ (slot : Slot). map.get s slot.0 ≡ None) (cond (not (is_some o)) (e ∷ unknown s es) (unknown s es))) (sym is) (is, rest)
    by (Some x) is rest = subst (λ o. AllByRecursion (λ (slot : Slot). map.get s slot.0 ≡ None) (cond (not (is_some o)) (e ∷ unknown s es) (unknown s es))) (sym is) rest

all_of : {X : Type 0} (P Q : X → Type 0) (xs : List X) → ((x : X) → P x → Q x) → AllByRecursion P xs → AllByRecursion Q xs
all_of P Q [] so a = tt
all_of P Q (x ∷ xs) so a = (so x a.0, all_of P Q xs so a.1)

-- after others were noted
noted_absent : (s t : Standings) (q : UniqueModel) → map.get s q ≡ None → map.get (all_noted (map.entries t) s) q ≡ None
noted_absent s t q none = get-all_noted (map.entries t) (map.entries_sorted t) s q ∙ ap (λ a. merged_known a (map.find unique_cmp q (map.entries t))) none

pub can_add_unknown : (s t now : Standings) (new : List Slot) (room : ℕ) → now ≡ all_noted (map.entries t) s → new ≡ unknown s (map.entries t) → length new ≤ room → CanBeAdded now room new
can_add_unknown s t now new room notes adds fits =
    record {
      sorted = subst (λ l. IsTrue (map.is_sorted unique_cmp l)) (sym adds) (true_is _ (is_sorted-where_key unique_cmp (is_unknown s) (map.entries t) (map.entries_sorted t)));
      absent =
          subst (λ l. AllByRecursion (λ (slot : Slot). map.get now slot.0 ≡ None) l) (sym adds)
          (all_of (λ (slot : Slot). map.get s slot.0 ≡ None) (λ (slot : Slot). map.get now slot.0 ≡ None) (unknown s (map.entries t))
          (λ slot none. ap (λ m. map.get m slot.0) notes ∙ noted_absent s t slot.0 none)
          (absent_where s (map.entries t)));
      fits = fits;
    }

-- one is added, and then the others can be
below_absent : (s : Standings) (e : Slot) (es : List Slot) → T (below_all unique_cmp e.0 es) → AllByRecursion (λ (slot : Slot). map.get s slot.0 ≡ None) es → AllByRecursion (λ (slot : Slot). map.get (map.insert s e.0 e.1) slot.0 ≡ None) es
below_absent s e [] below absent = tt
below_absent s e (x ∷ es) below absent =
    let apart : eq_by_cmp unique_cmp x.0 e.0 ≡ false = ap is_eq (unique_total.antisymm x.0 e.0 ∙ ap ordering_reverse (less _ (first _ _ below))) in (
      get-insert s e.0 e.1 x.0 ∙ ap (λ b. cond b (Some e.1) (map.get s x.0)) apart ∙ absent.0,
      below_absent s e es (second _ _ below) absent.1,
    )

pub can_add_rest : (slots : List Slot) (more : List Slot) (room left : ℕ) (e : Slot) (es : List Slot) → CanBeAdded (standings_of slots) room (e ∷ es) → more ≡ slots ++ e ∷ [] → room ≤ left + 1 → CanBeAdded (standings_of more) left es
can_add_rest slots more room left e es can is spent =
    record {
      sorted = true_is _ (second _ _ (is_true _ can.sorted));
      absent =
          subst (λ m. AllByRecursion (λ (slot : Slot). map.get m slot.0 ≡ None) es) (sym (ap standings_of is ∙ slot_added slots e.0 e.1 can.absent.0))
          (below_absent (standings_of slots) e es (first _ _ (is_true _ can.sorted)) can.absent.1);
      fits = (let fits = can.fits in omega (arith, fits, spent));
    }

-- ---- along the pairs
pub reversed_last : (left now : List Slot) (e : Slot) → now ≡ left ++ e ∷ [] → reverse now ≡ e ∷ reverse left
reversed_last left now e is = ap reverse is ∙ reverse-append left (e ∷ [])

pub reversed_none : (left now : List Slot) → length now ≡ 0 → reverse now ≡ []
reversed_none left [] none = refl
reversed_none left (e ∷ es) none = absurd (omega (arith, none))

-- the unknown ones from a pair on
pub unknown_from : (s : Standings) (es : List Slot) (i : ℕ) (o : Option Slot) (new more : List Slot)
    → o ≡ slice_get es i → reverse new ≡ unknown s (drop (i + 1) es) → more ≡ new ++ unknown s (option_to_list o) → reverse more ≡ unknown s (drop i es)
unknown_from s es i o new more is so_far pushed =
    ap reverse pushed
    ∙ reverse-append new (unknown s (option_to_list o))
    ∙ (λ j. single o j ++ so_far j)
    ∙ sym (filter-append (λ (slot : Slot). is_unknown s slot.0) (option_to_list o) (drop (i + 1) es))
    ∙ ap (λ p. unknown s (option_to_list p ++ drop (i + 1) es)) is
    ∙ ap (unknown s) (sym (drop_from es i))
  where
    of_one : (b : Bool) (e : Slot) → reverse (cond b (e ∷ []) []) ≡ cond b (e ∷ []) []
    of_one true e = refl
    of_one false e = refl

    single : (o : Option Slot) → reverse (unknown s (option_to_list o)) ≡ unknown s (option_to_list o)
    single None = refl
    single (Some e) = of_one (is_unknown s e.0) e

-- what is noted from a pair on
pub noted_from : (s next : Standings) (es : List Slot) (i : ℕ) (e : Slot) → Some e ≡ slice_get es i → next ≡ noted s e → all_noted (drop (i + 1) es) next ≡ all_noted (drop i es) s
noted_from s next es i e is noting =
    ap (all_noted (drop (i + 1) es)) noting ∙ ap (λ o. all_noted (option_to_list o ++ drop (i + 1) es) s) is ∙ ap (λ l. all_noted l s) (sym (drop_from es i))

pub noted_past : (s : Standings) (es : List Slot) (i : ℕ) → None ≡ slice_get es i → all_noted (drop (i + 1) es) s ≡ all_noted (drop i es) s
noted_past s es i is = ap (λ (o : Option Slot). all_noted (option_to_list o ++ drop (i + 1) es) s) is ∙ ap (λ l. all_noted l s) (sym (drop_from es i))

pub noted_end : (s : Standings) (es : List Slot) (i : ℕ) → length es ≤ i → all_noted (drop i es) s ≡ s
noted_end s es i past = ap (λ l. all_noted l s) (drop_all i es past)

-- a process of whom nothing was known is known by what is added
pub known_added : (s : Standings) (old new : List Slot) (who k : UniqueModel) (x : Standing) → standings_of old ≡ noted s (who, x) → map.contains_key s who ≡ false → k ≡ who → new ≡ old ++ (k, x) ∷ [] → standings_of new ≡ known s who x
known_added s old new who k x notes unseen same adds =
    let as_was : standings_of old ≡ s = notes ∙ ap (λ b. cond b (known s who x) s) unseen in
    let none : map.get s who ≡ None = nothing (map.get s who) unseen in
    ap standings_of adds
    ∙ slot_added old k x (ap (map.get (standings_of old)) same ∙ ap (λ m. map.get m who) as_was ∙ none)
    ∙ (λ i. map.insert (as_was i) (same i) x)
    ∙ ap (λ o. map.insert s who (value_with merged_standing o x)) (sym none)
  where
    nothing : (o : Option Standing) → is_some o ≡ false → o ≡ None
    nothing None is = refl
    nothing (Some y) is = absurd (true≢false is)

-- whoever knows nobody
pub knows_nobody : (s : Standings) → map.len s ≡ 0 → s ≡ nobody
knows_nobody s none = map.empty_of_len s none

pub nobody_counts : (s : Standings) → s ≡ nobody → map.len s ≡ 0
nobody_counts s none = ap map.len none ∙ map.len-empty unique_cmp Standing

-- what holds anyway holds where it succeeds
pub on_ok : {A E P : Type 0} (r : Result A E) → P → OnOk r P
on_ok (Ok x) p = p
on_ok (Err e) p = tt

-- where the merge is what is known already, nothing changes
pub noted_same : (s : Standings) (who : UniqueModel) (x y merged : Standing) → map.get s who ≡ Some x → merged ≡ merged_standing x y → x ≡ merged → s ≡ noted s (who, y)
noted_same s who x y merged there is same =
    sym (ap (λ o. cond (is_some o) (known s who y) s) there
    ∙ ap (λ o. map.insert s who (value_with merged_standing o y)) there
    ∙ ap (map.insert s who) (sym is ∙ sym same)
    ∙ same_table _ _ (λ q. get-insert s who x q ∙ by q (eq_by_cmp unique_cmp q who) refl))
  where
    by : (q : UniqueModel) (t : Bool) → eq_by_cmp unique_cmp q who ≡ t → cond (eq_by_cmp unique_cmp q who) (Some x) (map.get s q) ≡ map.get s q
    by q true tied = ap (λ b. cond b (Some x) (map.get s q)) tied ∙ sym there ∙ ap (map.get s) (sym (same_key q who tied))
    by q false other = ap (λ b. cond b (Some x) (map.get s q)) other
