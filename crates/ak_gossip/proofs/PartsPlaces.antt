-- The indices of processes among all that are known, found for each by itself, are those of their set.
use Rattle.std.proofs.Common.{◌≡◌, ℕ, zero, suc, ◌+◌, ◌<◌, ◌≤◌, ◌⊎◌, inl, inr, true, List, [], ◌∷◌, ◌++◌, length, drop, get_or, slice_get, Option, Some, None, option_map, option_to_list, Result, Ok, Err, refl, sym, ap, ◌∙◌, subst, arith, true≢false, append_assoc, append-nil, drop_of_length-le}
use Rattle.std.proofs.lemmas.Option.{slice_get-get_or, slice_get-map, slice_get_within, same_Some}
use Rattle.std.specs.FinMap as table
use Rattle.std.specs.Result.{result_ok}
use Rattle.std.specs.Ordering.{is_lt, ordering_reverse}
use Rattle.std.specs.Cmp.{tied_itself}
use Rattle.std.specs.declared.cmp.Ordering.TheVariants.{Less, Equal}
use Rattle.ak_address.specs.Pairs.{index}
use Rattle.ak_address.specs.Unique.{UniqueModel, unique_cmp}
use Rattle.ak_address.specs.Uniques.{UniqueSet, has, in_order}
use Rattle.ak_address.proofs.OrderLemmas.{unique_total, unique_exact}
use Rattle.ak_address.proofs.Pairs.{Stands, known, index_here, above_before}
use Rattle.ak_address.proofs.TableLaws.{keys_rise, get_at}
use Rattle.ak_address.proofs.UniquesLaws.{has_at, index_of_has}
use Rattle.ak_address.proofs.BoolLemmas.{none_there}
use Rattle.ak_member.specs.declared.standing.Standing.{Standing}
use Rattle.ak_member.specs.declared.standing.Standing.TheVariants.{Buried}
use Rattle.ak_member.specs.Standing.{Standings}
use Rattle.ak_member.proofs.MemberLemmas.{drop_from}
use Rattle.ak_gossip.specs.Parts.{indices_of}
use Rattle.ak_gossip.specs.PartsWalk.{ascend_from, index_among, indices_among}
use Rattle.ak_gossip.proofs.PartsIndices.{Has, indices_back}
use Rattle.ak_gossip.proofs.PartsOrder.{from_head}

-- ---- the keys of a table
module _ {X : Type 0} (m : table.FinMap unique_cmp X) where
  pair_named : (o : Option (UniqueModel × X)) (who : UniqueModel) → option_map (λ pair. pair.0) o ≡ Some who → (pair : UniqueModel × X) × ((o ≡ Some pair) × (pair.0 ≡ who))
  pair_named None who is = absurd (none_there who is)
  pair_named (Some pair) who is = (pair, (refl, same_Some pair.0 who is))

  -- the pair of the key at an index
  pair_at : (i : ℕ) (who : UniqueModel) → slice_get (table.keys m) i ≡ Some who → (pair : UniqueModel × X) × ((slice_get (table.entries m) i ≡ Some pair) × (pair.0 ≡ who))
  pair_at i who is = pair_named (slice_get (table.entries m) i) who (sym (slice_get-map (λ pair. pair.0) (table.entries m) i) ∙ is)

  pub key_at : (i : ℕ) (pair : UniqueModel × X) → slice_get (table.entries m) i ≡ Some pair → slice_get (table.keys m) i ≡ Some pair.0
  key_at i pair is = slice_get-map (λ pair. pair.0) (table.entries m) i ∙ ap (option_map (λ pair. pair.0)) is

  pub rise : (i j : ℕ) (p q : UniqueModel) → i < j → slice_get (table.keys m) i ≡ Some p → slice_get (table.keys m) j ≡ Some q → unique_cmp p q ≡ Less
  rise i j p q lt is js =
      let one = pair_at i p is in
      let other = pair_at j q js in
      subst (λ (u : UniqueModel). unique_cmp u q ≡ Less) one.1.1
      (subst (λ (u : UniqueModel). unique_cmp one.0.0 u ≡ Less) other.1.1
      (keys_rise m i j one.0 other.0 lt one.1.0 other.1.0))

  -- what stands at an index is what the table has at the process that stands there
  pub found_next : (i : ℕ) (next who : UniqueModel) (x : X) → Some (next, x) ≡ slice_get (table.entries m) i → unique_cmp next who ≡ Equal → Some x ≡ table.get m who
  found_next i next who x at tied = sym (get_at m i (next, x) (sym at)) ∙ ap (table.get m) (unique_exact next who tied)

-- each is below the next
abbrev pub Rising : List UniqueModel → Type 0
Rising them = (i j : ℕ) (p q : UniqueModel) → i < j → slice_get them i ≡ Some p → slice_get them j ≡ Some q → unique_cmp p q ≡ Less

less_or : (i j : ℕ) → (i < j) ⊎ ((j < i) ⊎ (i ≡ j))
less_or zero zero = inr (inr refl)
less_or zero (suc j) = inl (omega arith)
less_or (suc i) zero = inr (inl (omega arith))
less_or (suc i) (suc j) = elim (less_or i j) [
  | inl less ↦ inl (omega arith)
  | inr (inl more) ↦ inr (inl (omega arith))
  | inr (inr same) ↦ inr (inr (ap suc same))
]

pub not_less_itself : (p : UniqueModel) → unique_cmp p p ≡ Less → ⊥
not_less_itself p less = true≢false (ap is_lt (sym less ∙ tied_itself unique_total p))

not_less_back : (p q : UniqueModel) → unique_cmp p q ≡ Less → unique_cmp q p ≡ Less → ⊥
not_less_back p q less back = true≢false (ap is_lt (sym less ∙ unique_total.antisymm p q ∙ ap ordering_reverse back))

module _ (everybody : Standings) where
  -- ---- one process
  standing_at : (who : UniqueModel) (i : ℕ) (r : Result ℕ ℕ) → r ≡ index unique_cmp who (table.entries everybody) → result_ok r ≡ Some i → slice_get (table.keys everybody) i ≡ Some who
  standing_at who i (Err n) is found = absurd (none_there i found)
  standing_at who i (Ok n) is found =
      let es = table.entries everybody in
      let pair : UniqueModel × Standing = (who, Buried true) in
      let stands : Stands unique_cmp who es n = known unique_cmp unique_total unique_exact who es (table.entries_sorted everybody) (Ok n) is in
      subst (λ (k : ℕ). slice_get (table.keys everybody) k ≡ Some who) (same_Some n i found)
      (key_at everybody n (get_or es n pair) (slice_get-get_or es n pair stands.in_range) ∙ ap Some (stands.held pair))

  -- the process stands at its index
  pub there : (who : UniqueModel) (i : ℕ) → index_among everybody who ≡ Some i → slice_get (table.keys everybody) i ≡ Some who
  there who i found = standing_at who i (index unique_cmp who (table.entries everybody)) refl found

  -- and where it stands is its index
  pub place_of : (who : UniqueModel) (i : ℕ) → slice_get (table.keys everybody) i ≡ Some who → index_among everybody who ≡ Some i
  place_of who i is =
      let es = table.entries everybody in
      let at = pair_at everybody i who is in
      let tied = ap (unique_cmp who) at.1.1 ∙ tied_itself unique_total who in
      ap result_ok (index_here unique_cmp who es i at.0 (above_before unique_cmp who unique_total es (table.entries_sorted everybody) i at.0 at.1.0 tied) at.1.0 tied)

  later : (p q : UniqueModel) (i j : ℕ) → unique_cmp p q ≡ Less → index_among everybody p ≡ Some i → index_among everybody q ≡ Some j → i < j
  later p q i j less is js = elim (less_or i j) [
    | inl before ↦ before
    | inr (inl after) ↦ absurd (not_less_back p q less (rise everybody j i q p after (there q j js) (there p i is)))
    | inr (inr same) ↦
        let named : p ≡ q = same_Some p q (sym (there p i is) ∙ ap (slice_get (table.keys everybody)) same ∙ there q j js) in
        absurd (not_less_itself q (subst (λ (u : UniqueModel). unique_cmp u q ≡ Less) named less))
  ]

  -- ---- those in a list
  more : (o : Option ℕ) (rest : List ℕ) (i : ℕ) → Has rest i → Has (option_to_list o ++ rest) i
  more None rest i h = h
  more (Some p) rest i h = (suc h.0, h.1)

  here : (o : Option ℕ) (rest : List ℕ) (i : ℕ) → o ≡ Some i → Has (option_to_list o ++ rest) i
  here None rest i is = absurd (none_there i is)
  here (Some p) rest i is = (0, is)

  comes_in : (them : List UniqueModel) (k : ℕ) (who : UniqueModel) (i : ℕ) → slice_get them k ≡ Some who → index_among everybody who ≡ Some i → Has (indices_among everybody them) i
  comes_in [] k who i at is = absurd (none_there who at)
  comes_in (w ∷ them) zero who i at is =
      here (index_among everybody w) (indices_among everybody them) i (subst (λ (u : UniqueModel). index_among everybody u ≡ Some i) (sym (same_Some w who at)) is)
  comes_in (w ∷ them) (suc k) who i at is = more (index_among everybody w) (indices_among everybody them) i (comes_in them k who i at is)

  -- a process in a list, with this index
  record Came (them : List UniqueModel) (i : ℕ) : Type 0 where
    k : ℕ
    who : UniqueModel
    at : slice_get them k ≡ Some who
    is : index_among everybody who ≡ Some i

  came_later : (w : UniqueModel) (them : List UniqueModel) (i : ℕ) → Came them i → Came (w ∷ them) i
  came_later w them i c = record { k = suc c.k; who = c.who; at = c.at; is = c.is }

  came_by : (w : UniqueModel) (them : List UniqueModel) (i : ℕ) (o : Option ℕ) → index_among everybody w ≡ o → (Has (indices_among everybody them) i → Came them i) → Has (option_to_list o ++ indices_among everybody them) i → Came (w ∷ them) i
  came_by w them i None is rest h = came_later w them i (rest h)
  came_by w them i (Some p) is rest (zero, at) = record { k = 0; who = w; at = refl; is = is ∙ at }
  came_by w them i (Some p) is rest (suc k, at) = came_later w them i (rest (k, at))

  comes_from : (them : List UniqueModel) (i : ℕ) → Has (indices_among everybody them) i → Came them i
  comes_from [] i (k, at) = absurd (none_there i at)
  comes_from (w ∷ them) i h = came_by w them i (index_among everybody w) refl (comes_from them i) h

  ascend_by : (w : UniqueModel) (rest : List ℕ) (least : ℕ) (o : Option ℕ) → index_among everybody w ≡ o → ((i : ℕ) → index_among everybody w ≡ Some i → least ≤ i)
      → (o ≡ None → ascend_from least (length (table.keys everybody)) rest ≡ true) → ((i : ℕ) → o ≡ Some i → ascend_from (i + 1) (length (table.keys everybody)) rest ≡ true)
      → ascend_from least (length (table.keys everybody)) (option_to_list o ++ rest) ≡ true
  ascend_by w rest least None is above none some = none refl
  ascend_by w rest least (Some i) is above none some = from_head least (length (table.keys everybody)) i rest (record {
    above = above i is;
    below = slice_get_within (table.keys everybody) i w (there w i is);
    after = some i refl;
  })

  ascend : (them : List UniqueModel) (least : ℕ) → Rising them → ((k : ℕ) (who : UniqueModel) (i : ℕ) → slice_get them k ≡ Some who → index_among everybody who ≡ Some i → least ≤ i)
      → ascend_from least (length (table.keys everybody)) (indices_among everybody them) ≡ true
  ascend [] least rising above = refl
  ascend (w ∷ them) least rising above =
      let rest : Rising them = λ i j p q lt is js. rising (suc i) (suc j) p q (omega arith) is js in
      ascend_by w (indices_among everybody them) least (index_among everybody w) refl (λ i is. above 0 w i refl is)
      (λ none. ascend them least rest (λ k who i at is. above (suc k) who i at is))
      (λ i is. ascend them (i + 1) rest (λ k who j at js. let less : i < j = later w who i j (rising 0 (suc k) w who (omega arith) refl at) is js in omega arith))

  -- ---- those of a set
  pub are_indices : (set : UniqueSet) → indices_among everybody (in_order set) ≡ indices_of set 0 (table.keys everybody)
  are_indices set =
      let them = in_order set in
      sym (indices_back set 0 (length (table.keys everybody)) (table.keys everybody) (indices_among everybody them) (omega arith)
      (ascend them 0 (rise set) (λ k who i at is. omega arith))
      (record {
        within = λ i p who at at_p h.
            let c = comes_from them p h in
            let index : i ≡ p = omega arith in
            let same : who ≡ c.who = same_Some who c.who (sym at_p ∙ ap (slice_get (table.keys everybody)) index ∙ there c.who p c.is) in
            subst (λ (u : UniqueModel). has set u ≡ true) (sym same) (has_at set c.k c.who c.at);
        each = λ i p who at at_p is.
            let k = index_of_has set who is in
            let index : p ≡ i = omega arith in
            comes_in them k.0 who p k.1 (place_of who p (ap (slice_get (table.keys everybody)) index ∙ at_p));
      }))

  -- ---- a walk along a list
  module _ (them : List UniqueModel) (k : ℕ) (done all : List ℕ) (before : done ++ indices_among everybody (drop k them) ≡ all) where
    one_more : (o : Option UniqueModel) (who : UniqueModel) (rest : List UniqueModel) → o ≡ Some who → indices_among everybody (option_to_list o ++ rest) ≡ option_to_list (index_among everybody who) ++ indices_among everybody rest
    one_more o who rest is = ap (λ o. indices_among everybody (option_to_list o ++ rest)) is

    pub walked : (who : UniqueModel) → slice_get them k ≡ Some who → (done ++ option_to_list (index_among everybody who)) ++ indices_among everybody (drop (k + 1) them) ≡ all
    walked who at =
        append_assoc done (option_to_list (index_among everybody who)) (indices_among everybody (drop (k + 1) them))
        ∙ ap (λ l. done ++ l) (sym (ap (indices_among everybody) (drop_from them k) ∙ one_more (slice_get them k) who (drop (k + 1) them) at))
        ∙ before

    pub passed : slice_get them k ≡ None → done ++ indices_among everybody (drop (k + 1) them) ≡ all
    passed none =
        ap (λ l. done ++ l) (sym (ap (indices_among everybody) (drop_from them k) ∙ ap (λ o. indices_among everybody (option_to_list o ++ drop (k + 1) them)) none))
        ∙ before

    pub walked_all : length them ≤ k → done ≡ all
    walked_all le = sym (append-nil done) ∙ ap (λ l. done ++ indices_among everybody l) (sym (drop_of_length-le them le)) ∙ before
