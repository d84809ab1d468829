-- Slots whose places go by process: what is found in them, and what a slot more and another standing make of them.
use Rattle.std.proofs.Common.{◌≡◌, ◌≢◌, ℕ, zero, suc, ◌+◌, ◌<◌, ◌≤◌, Bool, true, false, cond, T, IsTrue, List, [], ◌∷◌, ◌++◌, map, length, insert, take, drop, get_or, slice_get, Option, Some, None, option_map, Err, option_to_list, drop_of_length-le, refl, sym, ap, ◌∙◌, subst, arith}
use Rattle.std.proofs.lemmas.Option.{none-some, same_Some, slice_get-map, slice_get-get_or}
use Rattle.std.proofs.lemmas.List.{length-map, length-append, get_or_append_left}
use Rattle.std.proofs.Math.Seq.{get_or-append_seam}
use Rattle.std.specs.declared.cmp.Ordering.TheVariants.{Less, Equal, Greater}
use Rattle.std.specs.Ordering.{is_eq, eq_by_cmp}
use Rattle.std.specs.Cmp.{IsEquivalence, eq_by_cmp_equiv, on_equiv}
use Rattle.std.specs.Cmp.Lexicographic.{pointwise, nat_list_eq_equiv}
use Rattle.std.specs.List.{AllByRecursion, IsDistinct}
use Rattle.std.specs.Map.{lookup, lookup_key, keys_of}
use Rattle.std.specs.FinMap as map
use Rattle.std.specs.FinMap.Entries.{by_order, below_all}
use Rattle.std.proofs.Common.{nat_eq}
use Rattle.indexmap.proofs.SetLemmas.{map-insert}
use Rattle.indexmap.proofs.CallerLemmas.{insert_entry-new, updates-with_value_at}
use Rattle.indexmap.specs.IndexMap.{IndexMap, set_value_at, insert_entry, IsUnique}
use Rattle.ak_address.specs.Unique.{UniqueModel, unique_cmp}
use Rattle.ak_address.specs.Keys.{unique_key}
use Rattle.ak_address.specs.Pairs.{index}
use Rattle.ak_address.proofs.KeyLaws.{unique_keys}
use Rattle.ak_address.proofs.OrderLemmas.{unique_total, unique_exact}
use Rattle.ak_address.proofs.Pairs.{first, second, less, find_below, below_less, below_tied}
use Rattle.ak_address.proofs.TableLaws.{same_table, same_key, other_key, key_itself, pairs_sorted, get-insert, get-insert_here, entries-empty}
use Rattle.ak_address.proofs.TableLemmas.{goes_in}
use Rattle.ak_member.specs.declared.standing.Standing.{Standing}
use Rattle.ak_member.specs.Standing.{nobody}
use Rattle.ak_member.proofs.MemberLemmas.{drop_from}
use Rattle.ak_member.specs.Slots.{Slot, standings_of, no_slot, picked, InOrder}

-- ---- keys
abbrev pub same_unique : UniqueModel → UniqueModel → Bool
same_unique u v = pointwise nat_eq (unique_key u) (unique_key v)

same_laws : IsEquivalence same_unique
same_laws = on_equiv unique_key nat_list_eq_equiv

-- processes are equal exactly where they tie
ties : (u v : UniqueModel) → same_unique u v ≡ eq_by_cmp unique_cmp u v
ties u v = sym (unique_keys u v (eq_by_cmp unique_cmp u v) (same_key u v, λ same. ap (eq_by_cmp unique_cmp u) (sym same) ∙ key_itself u))

pub same_as_ties : (u v : UniqueModel) → same_unique u v ≡ eq_by_cmp unique_cmp u v
same_as_ties = ties

-- ---- what is found by a hash
found_by_key : (q : UniqueModel) (slots : List Slot) → lookup (same_unique q) slots ≡ map.find unique_cmp q slots
found_by_key q [] = refl
found_by_key q (slot ∷ slots) = λ i. cond (ties q slot.0 i) (Some slot.1) (found_by_key q slots i)

pub found_in : (q : UniqueModel) (slots : List Slot) → lookup (same_unique q) slots ≡ map.get (standings_of slots) q
found_in q slots = found_by_key q slots ∙ sym (map.get-from_entries unique_total slots q)

pub key_found : (q : UniqueModel) (slots : List Slot) → lookup_key (same_unique q) slots ≡ option_map (λ (x : Standing). q) (lookup (same_unique q) slots)
key_found q [] = refl
key_found q (slot ∷ slots) =
    elim (same_unique q slot.0) as (λ b. same_unique q slot.0 ≡ b → cond b (Some slot.0) (lookup_key (same_unique q) slots) ≡ option_map (λ (x : Standing). q) (cond b (Some slot.1) (lookup (same_unique q) slots))) [
      | true ↦ λ tied. ap Some (sym (same_key q slot.0 (sym (ties q slot.0) ∙ tied)))
      | false ↦ λ _. key_found q slots
    ] refl

-- the slot that has the key is that of the process
pub slot_found : (slots : List Slot) (who k : UniqueModel) (x : Standing) (slot : ℕ) → Some k ≡ lookup_key (same_unique who) slots → slice_get slots slot ≡ Some (k, x) → slice_get slots slot ≡ Some (who, x)
slot_found slots who k x slot key is = is ∙ ap (λ u. Some (u, x)) (same_as (lookup (same_unique who) slots) (key ∙ key_found who slots))
  where
    same_as : (o : Option Standing) → Some k ≡ option_map (λ (x : Standing). who) o → k ≡ who
    same_as None is = absurd (none-some k (sym is))
    same_as (Some x) is = same_Some k who is

-- a walk along the slots: nobody stands past the last, a slot of another process is passed, and that of the process is found
pub walked_end : (q : UniqueModel) (slots : List Slot) (i : ℕ) → length slots ≤ i → lookup (same_unique q) (drop i slots) ≡ None
walked_end q slots i past = ap (lookup (same_unique q)) (drop_of_length-le slots past)

pub walked_past : (q : UniqueModel) (slots : List Slot) (i : ℕ) (k : UniqueModel) (x : Standing) → slice_get slots i ≡ Some (k, x) → q ≢ k → lookup (same_unique q) (drop i slots) ≡ lookup (same_unique q) (drop (i + 1) slots)
walked_past q slots i k x at other =
    ap (lookup (same_unique q)) (drop_from slots i ∙ ap (λ o. option_to_list o ++ drop (i + 1) slots) at)
    ∙ ap (λ b. cond b (Some x) (lookup (same_unique q) (drop (i + 1) slots))) (ties q k ∙ other_key q k other)

pub walked_none : (q : UniqueModel) (slots : List Slot) (i : ℕ) → slice_get slots i ≡ None → lookup (same_unique q) (drop i slots) ≡ lookup (same_unique q) (drop (i + 1) slots)
walked_none q slots i none = ap (lookup (same_unique q)) (drop_from slots i ∙ ap (λ o. option_to_list o ++ drop (i + 1) slots) none)

pub walked_here : (q : UniqueModel) (slots : List Slot) (i : ℕ) (k : UniqueModel) (x : Standing) → slice_get slots i ≡ Some (k, x) → q ≡ k → lookup (same_unique q) (drop i slots) ≡ Some x
walked_here q slots i k x at same =
    ap (lookup (same_unique q)) (drop_from slots i ∙ ap (λ o. option_to_list o ++ drop (i + 1) slots) at)
    ∙ ap (λ b. cond b (Some x) (lookup (same_unique q) (drop (i + 1) slots))) (ties q k ∙ ap (eq_by_cmp unique_cmp q) (sym same) ∙ key_itself q)

-- a pair of which each part is known
pub pair_found : {Z : Type 0} (o : Option Z) (f : Z → UniqueModel) (g : Z → Standing) (q : UniqueModel) (found : Option Standing)
    → option_map f o ≡ option_map (λ (x : Standing). q) found → option_map g o ≡ found → option_map {U = UniqueModel × Standing} (λ z. (f z, g z)) o ≡ option_map {U = UniqueModel × Standing} (λ x. (q, x)) found
pair_found None f g q None key value = refl
pair_found None f g q (Some x) key value = absurd (none-some x value)
pair_found (Some z) f g q None key value = absurd (none-some (g z) (sym value))
pair_found (Some z) f g q (Some x) key value = λ i. Some (same_Some (f z) q key i, same_Some (g z) x value i)

-- ---- slots in order
pub no_slots : (slots : List Slot) (places : List ℕ) → slots ≡ [] → places ≡ [] → InOrder slots places
no_slots slots places none no_places = subst (λ l. InOrder l places) (sym none) (subst (InOrder []) (sym no_places) (record { placed = tt; pairs = entries-empty }))

placed_at : (places : List ℕ) (many i place : ℕ) → AllByRecursion (λ place. place < many) places → slice_get places i ≡ Some place → place < many
placed_at [] many i place placed is = absurd (none-some place is)
placed_at (p ∷ places) many zero place placed is = subst (λ p. p < many) (same_Some p place is) placed.0
placed_at (p ∷ places) many (suc i) place placed is = placed_at places many i place placed.1 is

module _ (slots : List Slot) (places : List ℕ) (o : InOrder slots places) where
  pub in_order_sorted : IsTrue (map.is_sorted unique_cmp (picked places slots))
  in_order_sorted = subst (λ es. IsTrue (map.is_sorted unique_cmp es)) o.pairs (pairs_sorted (standings_of slots))

  pub in_order_found : (q : UniqueModel) → map.get (standings_of slots) q ≡ map.find unique_cmp q (picked places slots)
  in_order_found q = map.get-entries (standings_of slots) q ∙ ap (map.find unique_cmp q) o.pairs

  pub in_order_len : length places ≡ map.len (standings_of slots)
  in_order_len = sym (length-map places (λ place. get_or slots place no_slot)) ∙ ap length (sym o.pairs) ∙ sym (map.len-entries (standings_of slots))

  -- the pair at an index is the slot at the place there
  pub in_order_at : (i place : ℕ) → slice_get places i ≡ Some place → slice_get slots place ≡ slice_get (map.entries (standings_of slots)) i
  in_order_at i place is =
      slice_get-get_or slots place no_slot (placed_at places (length slots) i place o.placed is)
      ∙ sym (slice_get-map (λ place. get_or slots place no_slot) places i ∙ ap (option_map (λ place. get_or slots place no_slot)) is)
      ∙ ap (λ es. slice_get es i) (sym o.pairs)

  pub in_order_within : (who : UniqueModel) (n : ℕ) → Err n ≡ index unique_cmp who (picked places slots) → n ≤ length places
  in_order_within who n goes =
      let within = (goes_in (standings_of slots) who n (goes ∙ ap (index unique_cmp who) (sym o.pairs))).in_range in
      omega (arith, within, in_order_len, map.len-entries (standings_of slots))

  pub in_order_past : (i : ℕ) → slice_get places i ≡ None → None ≡ slice_get (map.entries (standings_of slots)) i
  in_order_past i is =
      sym (slice_get-map (λ place. get_or slots place no_slot) places i ∙ ap (option_map (λ place. get_or slots place no_slot)) is) ∙ ap (λ es. slice_get es i) (sym o.pairs)

-- ---- one slot more
all_append : {X : Type 0} (P : X → Type 0) (xs ys : List X) → AllByRecursion P xs → AllByRecursion P ys → AllByRecursion P (xs ++ ys)
all_append P [] ys a b = b
all_append P (x ∷ xs) ys a b = (a.0, all_append P xs ys a.1 b)

all_take : {X : Type 0} (P : X → Type 0) (n : ℕ) (xs : List X) → AllByRecursion P xs → AllByRecursion P (take n xs)
all_take P zero xs a = tt
all_take P (suc n) [] a = tt
all_take P (suc n) (x ∷ xs) a = (a.0, all_take P n xs a.1)

all_drop : {X : Type 0} (P : X → Type 0) (n : ℕ) (xs : List X) → AllByRecursion P xs → AllByRecursion P (drop n xs)
all_drop P zero xs a = a
all_drop P (suc n) [] a = tt
all_drop P (suc n) (x ∷ xs) a = all_drop P n xs a.1

all_insert : {X : Type 0} (P : X → Type 0) (n : ℕ) (xs : List X) (x : X) → AllByRecursion P xs → P x → AllByRecursion P (insert xs n x)
all_insert P n xs x a one = all_append P (take n xs) (x ∷ drop n xs) (all_take P n xs a) (one, all_drop P n xs a)

pub all_of : {X : Type 0} (P Q : X → Type 0) (xs : List X) → ((x : X) → P x → Q x) → AllByRecursion P xs → AllByRecursion Q xs
all_of P Q [] so a = tt
all_of P Q (x ∷ xs) so a = (so x a.0, all_of P Q xs so a.1)

picked_more : (slots : List Slot) (slot : Slot) (places : List ℕ) → AllByRecursion (λ place. place < length slots) places → picked places (slots ++ slot ∷ []) ≡ picked places slots
picked_more slots slot [] placed = refl
picked_more slots slot (p ∷ places) placed = λ i. get_or_append_left slots (slot ∷ []) no_slot p placed.0 i ∷ picked_more slots slot places placed.1 i

pub slot_added : (slots : List Slot) (who : UniqueModel) (x : Standing) → map.get (standings_of slots) who ≡ None → standings_of (slots ++ (who, x) ∷ []) ≡ map.insert (standings_of slots) who x
slot_added slots who x none = map.from_entries_push unique_total unique_exact slots who x (sym (map.get-from_entries unique_total slots who) ∙ none)

pub in_order_added : (slots : List Slot) (places : List ℕ) (who : UniqueModel) (x : Standing) (n : ℕ) → InOrder slots places → map.get (standings_of slots) who ≡ None
    → Err n ≡ index unique_cmp who (picked places slots) → InOrder (slots ++ (who, x) ∷ []) (insert places n (length slots))
in_order_added slots places who x n o none goes =
    let more = slots ++ (who, x) ∷ [] in
    let s = standings_of slots in
    let long = length-append slots ((who, x) ∷ []) in
    record {
      placed =
          all_insert (λ place. place < length more) n places (length slots)
          (all_of (λ place. place < length slots) (λ place. place < length more) places (λ place below. omega (arith, below, long)) o.placed)
          (omega (arith, long));
      pairs =
          ap map.entries (slot_added slots who x none)
          ∙ map.entries-insert unique_total s who x
          ∙ (goes_in s who n (goes ∙ ap (index unique_cmp who) (sym o.pairs))).put_there x
          ∙ ap (λ es. insert es n (who, x)) o.pairs
          ∙ (λ i. insert (sym (picked_more slots (who, x) places o.placed) i) n (sym (get_or-append_seam slots (who, x) [] no_slot) i))
          ∙ sym (map-insert (λ place. get_or more place no_slot) places n (length slots));
    }

-- ---- another standing in a slot
abbrev renewed : UniqueModel → Standing → Slot → Slot
renewed who y slot = (slot.0, cond (eq_by_cmp unique_cmp who slot.0) y slot.1)

module _ (who : UniqueModel) (y : Standing) where
  same_slots : (slots : List Slot) → AllByRecursion (λ k. eq_by_cmp unique_cmp who k ≡ false) (keys_of slots) → map (renewed who y) slots ≡ slots
  same_slots [] others = refl
  same_slots (slot ∷ slots) others = λ i. (slot.0, cond (others.0 i) y slot.1) ∷ same_slots slots others.1 i

  below_others : (slots : List Slot) → T (below_all unique_cmp who slots) → AllByRecursion (λ k. eq_by_cmp unique_cmp who k ≡ false) (keys_of slots)
  below_others [] below = tt
  below_others (slot ∷ slots) below = (ap is_eq (less _ (first _ _ below)), below_others slots (second _ _ below))

  -- in order, what is put at a process that is there renews its slot
  put_renewed : (slots : List Slot) (x : Standing) → T (map.is_sorted unique_cmp slots) → map.find unique_cmp who slots ≡ Some x → map.put unique_cmp who y slots ≡ map (renewed who y) slots
  put_renewed [] x sorted found = absurd (none-some x found)
  put_renewed (slot ∷ slots) x sorted found =
      elim (unique_cmp who slot.0) as
      (λ r.
      unique_cmp who slot.0 ≡ r → cond (is_eq r) (Some slot.1) (map.find unique_cmp who slots) ≡ Some x
      → by_order r ((who, y) ∷ slot ∷ slots) ((slot.0, y) ∷ slots) (slot ∷ map.put unique_cmp who y slots) ≡ (slot.0, cond (is_eq r) y slot.1) ∷ map (renewed who y) slots) [
        | Less ↦ λ below found. absurd (none-some x (sym (find_below unique_cmp unique_total who slots (below_less unique_cmp unique_total who slot.0 slots below (first _ _ sorted))) ∙ found))
        | Equal ↦ λ tied _. ap (λ l. (slot.0, y) ∷ l) (sym (same_slots slots (below_others slots (below_tied unique_cmp unique_total who slot.0 slots tied (first _ _ sorted)))))
        | Greater ↦ λ _ found. ap (λ l. slot ∷ l) (put_renewed slots x (second _ _ sorted) found)
      ] refl found

  apart_at : (k : UniqueModel) (slots : List Slot) (i : ℕ) (x : Standing) → AllByRecursion (λ q. same_unique k q ≡ false) (keys_of slots) → slice_get slots i ≡ Some (who, x) → same_unique k who ≡ false
  apart_at k [] i x apart is = absurd (none-some (who, x) is)
  apart_at k (slot ∷ slots) zero x apart is = subst (λ (s : Slot). same_unique k s.0 ≡ false) (same_Some slot (who, x) is) apart.0
  apart_at k (slot ∷ slots) (suc i) x apart is = apart_at k slots i x apart.1 is

  -- a slot that is written renews the slot of its process
  set_renewed : (slots : List Slot) (i : ℕ) (x : Standing) → IsDistinct same_unique (keys_of slots) → slice_get slots i ≡ Some (who, x) → set_value_at slots i y ≡ map (renewed who y) slots
  unfolding IsDistinct
  set_renewed [] i x apart is = absurd (none-some (who, x) is)
  set_renewed (slot ∷ slots) zero x apart is =
      let same : slot.0 ≡ who = ap (λ (s : Slot). s.0) (same_Some slot (who, x) is) in
      let tied : eq_by_cmp unique_cmp who slot.0 ≡ true = ap (eq_by_cmp unique_cmp who) same ∙ key_itself who in
      let others : AllByRecursion (λ k. eq_by_cmp unique_cmp who k ≡ false) (keys_of slots) =
      all_of (λ k. same_unique slot.0 k ≡ false) (λ k. eq_by_cmp unique_cmp who k ≡ false) (keys_of slots) (λ k other. ap (λ u. eq_by_cmp unique_cmp u k) (sym same) ∙ sym (ties slot.0 k) ∙ other) apart.0 in
      λ i. (slot.0, cond (sym tied i) y slot.1) ∷ sym (same_slots slots others) i
  set_renewed (slot ∷ slots) (suc i) x apart is =
      let other : eq_by_cmp unique_cmp who slot.0 ≡ false = (eq_by_cmp_equiv unique_total).symm who slot.0 ∙ sym (ties slot.0 who) ∙ apart_at slot.0 slots i x apart.0 is in
      λ j. (slot.0, cond (sym other j) y slot.1) ∷ set_renewed slots i x apart.1 is j

found_at : (who : UniqueModel) (y : Standing) (slots : List Slot) (i : ℕ) (x : Standing) → IsDistinct same_unique (keys_of slots) → slice_get slots i ≡ Some (who, x) → lookup (same_unique who) slots ≡ Some x
unfolding IsDistinct
found_at who y [] i x apart is = absurd (none-some (who, x) is)
found_at who y (slot ∷ slots) zero x apart is =
    let same = same_Some slot (who, x) is in
    ap (λ b. cond b (Some slot.1) (lookup (same_unique who) slots)) (ties who slot.0 ∙ ap (λ (s : Slot). eq_by_cmp unique_cmp who s.0) same ∙ key_itself who) ∙ ap (λ (s : Slot). Some s.1) same
found_at who y (slot ∷ slots) (suc i) x apart is =
    ap (λ b. cond b (Some slot.1) (lookup (same_unique who) slots)) (ties who slot.0 ∙ (eq_by_cmp_equiv unique_total).symm who slot.0 ∙ sym (ties slot.0 who) ∙ apart_at who y slot.0 slots i x apart.0 is)
    ∙ found_at who y slots i x apart.1 is

get_or_mapped : (f : Slot → Slot) (slots : List Slot) (i : ℕ) → i < length slots → get_or (map f slots) i no_slot ≡ f (get_or slots i no_slot)
get_or_mapped f [] i within = absurd (omega (arith, within))
get_or_mapped f (slot ∷ slots) zero within = refl
get_or_mapped f (slot ∷ slots) (suc i) within = get_or_mapped f slots i (omega (arith, within))

picked_mapped : (f : Slot → Slot) (slots : List Slot) (places : List ℕ) → AllByRecursion (λ place. place < length slots) places → picked places (map f slots) ≡ map f (picked places slots)
picked_mapped f slots [] placed = refl
picked_mapped f slots (p ∷ places) placed = λ i. get_or_mapped f slots p placed.0 i ∷ picked_mapped f slots places placed.1 i

module _ {S : Type 0} (m : IndexMap UniqueModel Standing S) (i : ℕ) (y : Standing) (unique : IsUnique same_unique m) (who : UniqueModel) (x : Standing) (at : slice_get m.entries i ≡ Some (who, x)) where
  pub slot_set : standings_of (set_value_at m.entries i y) ≡ map.insert (standings_of m.entries) who y
  slot_set =
      same_table _ _ (λ q.
      sym (found_in q (set_value_at m.entries i y))
      ∙ (updates-with_value_at m i y same_laws unique who x at).0 q
      ∙ (λ j. cond ((ties who q ∙ (eq_by_cmp_equiv unique_total).symm who q) j) (Some y) (found_in q m.entries j))
      ∙ sym (get-insert (standings_of m.entries) who y q))

  there : map.get (standings_of m.entries) who ≡ Some x
  there = sym (found_in who m.entries) ∙ found_at who y m.entries i x unique at

  pub in_order_set : (places : List ℕ) → InOrder m.entries places → InOrder (set_value_at m.entries i y) places
  in_order_set places o =
      let s = standings_of m.entries in
      let as_map : set_value_at m.entries i y ≡ map (renewed who y) m.entries = set_renewed who y m.entries i x unique at in
      record {
        placed =
            all_of (λ place. place < length m.entries) (λ place. place < length (set_value_at m.entries i y)) places
            (λ place below. omega (arith, below, ap length as_map, length-map m.entries (renewed who y)))
            o.placed;
        pairs =
            ap map.entries slot_set
            ∙ map.entries-insert unique_total s who y
            ∙ put_renewed who y (map.entries s) x (map.entries_sorted s) (sym (map.get-entries s who) ∙ there)
            ∙ ap (map (renewed who y)) o.pairs
            ∙ sym (picked_mapped (renewed who y) m.entries places o.placed)
            ∙ ap (picked places) (sym as_map);
      }

-- ---- a copy
distinct_before : (slots : List Slot) (i : ℕ) (who : UniqueModel) (x : Standing) → IsDistinct same_unique (keys_of slots) → slice_get slots i ≡ Some (who, x) → lookup (same_unique who) (take i slots) ≡ None
unfolding IsDistinct
distinct_before [] i who x apart is = absurd (none-some (who, x) is)
distinct_before (slot ∷ slots) zero who x apart is = refl
distinct_before (slot ∷ slots) (suc i) who x apart is =
    ap (λ b. cond b (Some slot.1) (lookup (same_unique who) (take i slots))) (same_laws.symm who slot.0 ∙ apart_at who x slot.0 slots i x apart.0 is) ∙ distinct_before slots i who x apart.1 is

take_more : (slots : List Slot) (i : ℕ) (slot : Slot) → slice_get slots i ≡ Some slot → take (suc i) slots ≡ take i slots ++ slot ∷ []
take_more [] i slot is = absurd (none-some slot is)
take_more (s ∷ slots) zero slot is = ap (λ (s : Slot). s ∷ []) (same_Some s slot is)
take_more (s ∷ slots) (suc i) slot is = ap (λ l. s ∷ l) (take_more slots i slot is)

-- the next of distinct slots goes last
pub copied_more : {S : Type 0} (copy : IndexMap UniqueModel Standing S) (slots : List Slot) (i : ℕ) (who : UniqueModel) (x : Standing) (next : List Slot)
    → IsDistinct same_unique (keys_of slots) → copy.entries ≡ take i slots → slice_get slots i ≡ Some (who, x) → next ≡ insert_entry same_unique copy.entries who x → next ≡ take (i + 1) slots
copied_more copy slots i who x next apart so_far is put =
    let more : suc i ≡ i + 1 = omega arith in
    put
    ∙ insert_entry-new same_unique copy who x (ap (lookup (same_unique who)) so_far ∙ distinct_before slots i who x apart is)
    ∙ ap (λ l. l ++ (who, x) ∷ []) so_far
    ∙ sym (take_more slots i (who, x) is)
    ∙ ap (λ n. take n slots) more

-- what is known of nobody is in no slot
pub no_slot_known : (slots : List Slot) → standings_of slots ≡ nobody → slots ≡ []
no_slot_known [] none = refl
no_slot_known (slot ∷ slots) none =
    absurd (none-some slot.1 (sym (map.get-empty unique_cmp slot.0) ∙ sym (ap (λ m. map.get m slot.0) none) ∙ get-insert_here (standings_of slots) slot.0 slot.1))

take_past : (slots : List Slot) (i : ℕ) → None ≡ slice_get slots i → take (suc i) slots ≡ take i slots
take_past [] zero none = refl
take_past [] (suc i) none = refl
take_past (slot ∷ slots) zero none = absurd (none-some slot none)
take_past (slot ∷ slots) (suc i) none = ap (λ l. slot ∷ l) (take_past slots i none)

pub copied_past : (slots : List Slot) (i : ℕ) (next : List Slot) → None ≡ slice_get slots i → next ≡ take i slots → next ≡ take (i + 1) slots
copied_past slots i next none so_far =
    let more : suc i ≡ i + 1 = omega arith in
    so_far ∙ sym (take_past slots i none) ∙ ap (λ n. take n slots) more

-- what is in a slot is known
pub found_by_slot : (slots : List Slot) (i : ℕ) (who : UniqueModel) (x : Standing) → IsDistinct same_unique (keys_of slots) → slice_get slots i ≡ Some (who, x) → map.get (standings_of slots) who ≡ Some x
found_by_slot slots i who x apart at = sym (found_in who slots) ∙ found_at who x slots i x apart at

-- where there is no slot nobody is known
pub in_no_slot : (slots : List Slot) (who : UniqueModel) → length slots ≡ 0 → None ≡ map.get (standings_of slots) who
in_no_slot [] who none = sym (map.get-empty unique_cmp who)
in_no_slot (slot ∷ slots) who none = absurd (omega (arith, none))
