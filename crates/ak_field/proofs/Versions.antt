-- Versions as lists of counted processes.
use Rattle.std.proofs.Common.{◌≡◌, ◌⊎◌, inl, inr, ℕ, suc, ◌-◌, ◌<◌, ◌≤◌, Bool, true, false, cond, nat_le, T, List, [], ◌∷◌, ◌++◌, length, slice_get, Option, Some, None, option_map, unwrap_or, if◌then◌else◌, refl, sym, ap, subst, ◌∙◌, arith}
use Rattle.std.specs.FinMap as map
use Rattle.std.specs.FinMap.Entries.{by_order, put, find, is_sorted}
use Rattle.std.specs.Ordering.{is_eq, ordering_reverse}
use Rattle.std.specs.declared.cmp.Ordering.TheVariants.{Less, Greater}
use Rattle.std.proofs.lemmas.Option.{same_Some, slice_get_within}
use Rattle.std.proofs.lemmas.Bool.Decides.{nat_tests}
use Rattle.std.proofs.lemmas.Bool.{cases_lt}
use Rattle.ak_address.specs.Unique.{UniqueModel, unique_cmp}
use Rattle.ak_address.proofs.OrderLemmas.{unique_total, unique_exact, less_of}
use Rattle.ak_address.proofs.Pairs.{rises}
use Rattle.ak_address.proofs.BoolLemmas.{none_there}
use Rattle.ak_clock.specs.Version.{Counts, count, reaching}
use Rattle.ak_gossip.specs.PartsWalk.{is_above}
use Rattle.std.proofs.Common.{Result, Ok}
use Rattle.ak_field.specs.declared.fault.WireFault.{WireFault}
use Rattle.ak_field.specs.Reading.{items_at, last_of, Fails}
use Rattle.ak_field.proofs.Steps.{fails_first}
use Rattle.ak_field.specs.Lists.{next_unique_at, counted_at, counts_at}
use Rattle.ak_clock.specs.declared.version.TheConstants.{BOUND}
use Rattle.ak_field.specs.Fields.{number_at}

abbrev pub who : UniqueModel × ℕ → UniqueModel
who pair = pair.0

before_or_last : (i len : ℕ) → i < len → (i ≡ len - 1) ⊎ (i < len - 1)
before_or_last i len lt = elim (cases_lt i (len - 1)) [ inl less ↦ inr less | inr le ↦ inl (omega arith) ]

not_zero : (n : ℕ) → 1 ≤ n → nat_le n 0 ≡ false
not_zero n some = grind (arith, nat_tests)

-- ---- a process above the last one goes to the end
module _ (k : UniqueModel) (n : ℕ) where
  abbrev IsBelow : List (UniqueModel × ℕ) → Type 0
  IsBelow es = (i : ℕ) (e : UniqueModel × ℕ) → slice_get es i ≡ Some e → unique_cmp e.0 k ≡ Less

  later_below : (e : UniqueModel × ℕ) (es : List (UniqueModel × ℕ)) → IsBelow (e ∷ es) → IsBelow es
  later_below e es below i d at = below (suc i) d at

  above_first : (e : UniqueModel × ℕ) (es : List (UniqueModel × ℕ)) → IsBelow (e ∷ es) → unique_cmp k e.0 ≡ Greater
  above_first e es below = unique_total.antisymm k e.0 ∙ ap ordering_reverse (below 0 e refl)

  put_last : (es : List (UniqueModel × ℕ)) → IsBelow es → put unique_cmp k n es ≡ es ++ (k, n) ∷ []
  put_last [] below = refl
  put_last (e ∷ es) below =
      ap (λ r. by_order r ((k, n) ∷ e ∷ es) ((e.0, n) ∷ es) (e ∷ put unique_cmp k n es)) (above_first e es below) ∙ ap (λ (l : List (UniqueModel × ℕ)). e ∷ l) (put_last es (later_below e es below))

  find_none : (es : List (UniqueModel × ℕ)) → IsBelow es → find unique_cmp k es ≡ None
  find_none [] below = refl
  find_none (e ∷ es) below = ap (λ r. cond (is_eq r) (Some e.1) (find unique_cmp k es)) (above_first e es below) ∙ find_none es (later_below e es below)

  last_is_there : (es : List (UniqueModel × ℕ)) (i : ℕ) (e : UniqueModel × ℕ) → slice_get es i ≡ Some e → (l : UniqueModel × ℕ) × (slice_get es (length es - 1) ≡ Some l)
  last_is_there [] i e at = absurd (none_there e at)
  last_is_there (x ∷ []) i e at = (x, refl)
  last_is_there (x ∷ y ∷ es) i e at =
      let rest = last_is_there (y ∷ es) 0 y refl in
      let k : length (x ∷ y ∷ es) - 1 ≡ suc (length (y ∷ es) - 1) = omega arith in
      (rest.0, ap (slice_get (x ∷ y ∷ es)) k ∙ rest.1)

  all_below : (es : List (UniqueModel × ℕ)) → T (is_sorted unique_cmp es) → is_above (option_map who (last_of es)) k ≡ true → IsBelow es
  all_below es h above i e at =
      let l = last_is_there es i e at in
      let last : unique_cmp l.0.0 k ≡ Less = less_of _ (ap (λ (o : Option (UniqueModel × ℕ)). is_above (option_map who o) k) (sym l.1) ∙ above) in
      let within : i < length es = slice_get_within es i e at in
      elim (before_or_last i (length es) within) [
        | inl same ↦ subst (λ (d : UniqueModel × ℕ). unique_cmp d.0 k ≡ Less) (same_Some l.0 e (sym l.1 ∙ ap (slice_get es) (sym same) ∙ at)) last
        | inr lt ↦ unique_total.trans e.0 l.0.0 k (rises unique_cmp unique_total es i (length es - 1) e l.0 h lt at l.1) last
      ]

nobody_last : (es : List (UniqueModel × ℕ)) → length es ≡ 0 → last_of es ≡ None
nobody_last [] none = refl
nobody_last (e ∷ es) none = absurd cc

-- the counts of a version after those of one more process
pub reached_last : (v : Counts) (k : UniqueModel) (n : ℕ) → is_above (option_map who (last_of (map.entries v))) k ≡ true → 1 ≤ n → map.entries (reaching v k n) ≡ map.entries v ++ (k, n) ∷ []
reached_last v k n above some =
    let below = all_below k n (map.entries v) (map.entries_sorted v) above in
    let absent : map.get v k ≡ None = map.get-entries v k ∙ find_none k n (map.entries v) below in
    let new : nat_le n (count v k) ≡ false = ap (λ (o : Option ℕ). nat_le n (unwrap_or o 0)) absent ∙ not_zero n some in
    ap (λ (b : Bool). map.entries (if b then v else map.insert v k n)) new ∙ map.entries-insert unique_total v k n ∙ put_last k n (map.entries v) below

-- a version is what its counts make
pub made_again : (v : Counts) → map.from_sorted (map.entries v) ≡ v
made_again v = map.same_map unique_total unique_exact _ _ (λ q. map.get-from_sorted unique_cmp (map.entries v) q (map.entries_sorted v) ∙ sym (map.get-entries v q))

abbrev made : List (UniqueModel × ℕ) × List ℕ → Result (Counts × List ℕ) WireFault
made pairs = Ok (map.from_sorted pairs.0, pairs.1)

pub counts_done : (v : Counts) (many : ℕ) (bytes left : List ℕ) → items_at counted_at None many bytes ≡ Ok (map.entries v, left) → counts_at many bytes ≡ Ok (v, left)
unfolding counts_at
counts_done v many bytes left is = rw is (ap (λ (w : Counts). Ok (w, left)) (made_again v))

pub counts_fail : (fault : WireFault) (many : ℕ) (bytes : List ℕ) → Fails fault (items_at counted_at None many bytes) → Fails fault (counts_at many bytes)
unfolding counts_at
counts_fail fault many bytes h = fails_first fault (items_at counted_at None many bytes) made h

pub counted_read : (last : Option (UniqueModel × ℕ)) (bytes mid left : List ℕ) (u : UniqueModel) (n : ℕ) → next_unique_at (option_map who last) bytes ≡ Ok (u, mid) → number_at 1 BOUND mid ≡ Ok (n, left) → counted_at last bytes ≡ Ok ((u, n), left)
unfolding counted_at
counted_read last bytes mid left u n first second = rw (first, second) refl

pub last_none : (v : Counts) → map.len v ≡ 0 → last_of (map.entries v) ≡ None
last_none v none = nobody_last (map.entries v) (sym (map.len-entries v) ∙ none)

pub last_at : (v : Counts) (many : ℕ) → many ≡ map.len v → slice_get (map.entries v) (many - 1) ≡ last_of (map.entries v)
last_at v many is = ap (λ (n : ℕ). slice_get (map.entries v) (n - 1)) (is ∙ map.len-entries v)
