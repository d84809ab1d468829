-- The same message to several, along a list, and the margins that end.
use Rattle.std.proofs.Common.{◌≡◌, ℕ, ◌+◌, ◌≤◌, List, [], ◌∷◌, ◌++◌, map, length, drop, slice_get, Some, None, option_to_list, sym, ap, ◌∙◌, append-nil, append_assoc}
use Rattle.ak_address.specs.Unique.{UniqueModel}
use Rattle.ak_member.specs.declared.standing.Standing.{Standing}
use Rattle.ak_member.proofs.Folds.{keeps_mapped}
use Rattle.ak_member.proofs.MemberLemmas.{KeepsPairs, kept_pair, kept_at_end}
use Rattle.ak_member.proofs.OldestLaws.{counted_among, keeps_counted}
use Rattle.ak_wire.specs.declared.action.Action.{Action}

abbrev pub processes_of : List (UniqueModel × ℕ) → List UniqueModel
processes_of = map (λ (pair : UniqueModel × ℕ). pair.0)

-- the members that count among pairs
abbrev pub counted_processes : List (UniqueModel × Standing) → List UniqueModel
counted_processes pairs = processes_of (counted_among pairs)

pub keeps_processes : KeepsPairs counted_processes
keeps_processes = keeps_mapped counted_among keeps_counted (λ (pair : UniqueModel × ℕ). pair.0)

-- ---- actions for each that is kept of a list
module _ {X : Type 0} (each : UniqueModel → Action) (kept : List X → List UniqueModel) (keeps : KeepsPairs kept) (xs : List X) where
  -- those from an index on
  abbrev pub left : ℕ → List Action
  left i = map each (kept (drop i xs))

  left_here : (i : ℕ) (u : UniqueModel) → u ∷ [] ≡ kept (option_to_list (slice_get xs i)) → left i ≡ each u ∷ left (i + 1)
  left_here i u is = ap (map each) (kept_pair kept keeps xs i (Some u) is)

  left_later : (i : ℕ) → [] ≡ kept (option_to_list (slice_get xs i)) → left i ≡ left (i + 1)
  left_later i is = ap (map each) (kept_pair kept keeps xs i None is)

  left_end : (i : ℕ) → length xs ≤ i → left i ≡ []
  left_end i past = ap (map each) (kept_at_end kept keeps xs i past)

  -- one more, none, and the end
  pub done_next : (i : ℕ) (u : UniqueModel) (before after total : List Action) → u ∷ [] ≡ kept (option_to_list (slice_get xs i)) → after ≡ before ++ each u ∷ [] → before ++ left i ≡ total → after ++ left (i + 1) ≡ total
  done_next i u before after total is done so_far =
      ap (λ l. l ++ left (i + 1)) done ∙ append_assoc before (each u ∷ []) (left (i + 1)) ∙ ap (λ l. before ++ l) (sym (left_here i u is)) ∙ so_far

  pub done_none : (i : ℕ) (before after total : List Action) → [] ≡ kept (option_to_list (slice_get xs i)) → after ≡ before → before ++ left i ≡ total → after ++ left (i + 1) ≡ total
  done_none i before after total is same so_far = ap (λ l. l ++ left (i + 1)) same ∙ ap (λ l. before ++ l) (sym (left_later i is)) ∙ so_far

  pub done_all : (i : ℕ) (before total : List Action) → length xs ≤ i → before ++ left i ≡ total → before ≡ total
  done_all i before total past so_far = sym (ap (λ l. before ++ l) (left_end i past) ∙ append-nil before) ∙ so_far
