-- Walks along the processes of a gossip, and along the indices of a part.
use Rattle.std.proofs.Common.{◌≡◌, ℕ, ◌+◌, ◌<◌, ◌≤◌, List, [], ◌∷◌, ◌++◌, length, drop, get_or, slice_get, option_to_list, Option, Some, sym, ap, ◌∙◌, append_assoc, append-nil, drop_of_length-le, add-one, drop-cons}
use Rattle.std.specs.Prelude as list
use Rattle.std.specs.FinMap as table
use Rattle.std.proofs.lemmas.List.{length-map}
use Rattle.ak_address.specs.Unique.{unique_cmp}
use Rattle.ak_address.specs.Uniques.{UniqueSet}
use Rattle.ak_member.proofs.MemberLemmas.{drop_from}
use Rattle.ak_gossip.specs.declared.part.Part.{Part}
use Rattle.ak_gossip.specs.PartsWalk.{with_process, with_indices}

-- ---- processes at indices
pub processes_left : (parts : List Part) (indices : List ℕ) (i : ℕ) (them next all : UniqueSet) → i < length indices → with_indices parts them (drop i indices) ≡ all → next ≡ with_process them (slice_get parts (get_or indices i 0)) → with_indices parts next (drop (i + 1) indices) ≡ all
processes_left parts indices i them next all lt before is =
    ap (λ s. with_indices parts s (drop (i + 1) indices)) is
    ∙ sym (ap (with_indices parts them) (drop-cons indices i 0 lt ∙ ap (λ n. get_or indices i 0 ∷ drop n indices) (sym (add-one i))))
    ∙ before

-- ---- parts of all
module _ {X Y : Type 0} (f : X → Y) (xs : List X) (i : ℕ) (done all : List Y) (before : done ++ list.map f (drop i xs) ≡ all) where
  part_here : (o : Option X) (x : X) (rest : List X) → o ≡ Some x → list.map f (option_to_list o ++ rest) ≡ f x ∷ list.map f rest
  part_here o x rest is = ap (λ o. list.map f (option_to_list o ++ rest)) is

  pub part_more : (x : X) (part : Y) → slice_get xs i ≡ Some x → part ≡ f x → (done ++ part ∷ []) ++ list.map f (drop (i + 1) xs) ≡ all
  part_more x part at is =
      append_assoc done (part ∷ []) (list.map f (drop (i + 1) xs))
      ∙ ap (λ y. done ++ y ∷ list.map f (drop (i + 1) xs)) is
      ∙ ap (λ l. done ++ l) (sym (ap (list.map f) (drop_from xs i) ∙ part_here (slice_get xs i) x (drop (i + 1) xs) at))
      ∙ before

  pub parts_end : length xs ≤ i → done ≡ all
  parts_end le = sym (append-nil done) ∙ ap (λ l. done ++ list.map f l) (sym (drop_of_length-le xs le)) ∙ before

-- as many processes as indices
pub length-keys : {X : Type 0} (m : table.FinMap unique_cmp X) → length (table.keys m) ≡ table.len m
length-keys m = length-map (table.entries m) (λ row. row.0) ∙ sym (table.len-entries m)
