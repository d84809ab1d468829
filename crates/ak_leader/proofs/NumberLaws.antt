-- The up numbers that the leader gives: above those before, rising, and within the bound.
use Rattle.std.proofs.Common.{◌≡◌, ℕ, zero, suc, ◌+◌, ◌<◌, ◌≤◌, Bool, true, false, if◌then◌else◌, inl, inr, List, [], ◌∷◌, ◌++◌, Some, slice_get, Contains, refl, sym, ap, arith}
use Rattle.std.proofs.lemmas.Bool.{ltb-true}
use Rattle.std.proofs.lemmas.Option.{none-some, same_Some}
use Rattle.std.specs.FinMap as map
use Rattle.ak_address.specs.Unique.{UniqueModel}
use Rattle.ak_address.specs.Uniques.{UniqueSet, has}
use Rattle.ak_clock.specs.declared.version.TheConstants.{BOUND}
use Rattle.ak_member.specs.declared.effect.Effect.{Effect}
use Rattle.ak_member.specs.declared.effect.Effect.TheVariants.{Rise, Removed}
use Rattle.ak_member.specs.declared.status.Status.{Status}
use Rattle.ak_member.specs.declared.status.Status.TheVariants.{Joining, WeaklyUp, Up, Leaving, Exiting, Down}
use Rattle.ak_member.specs.Standing.{member_of, members_of}
use Rattle.ak_member.specs.View.{View}
use Rattle.ak_address.proofs.Elements.{first_or_rest, contains_nothing, contains_at}
use Rattle.ak_member.proofs.MembersLaws.{have_members}
use Rattle.ak_reach.specs.Unreachable.{unreachable_members}
use Rattle.ak_leader.specs.Leader.{greatest_number, has_next, number_after, all_led, leaders_effects}

abbrev MemberPair : Type 0
MemberPair = UniqueModel × (Status × ℕ)

-- the numbers of these effects are above this one, within the bound, and rise
record Numbers (number : ℕ) (effects : List Effect) : Type 0 where
  between : (who : UniqueModel) (n : ℕ) → Contains effects (Rise who Up n) → (number < n) × (n ≤ BOUND)
  rising : (i j : ℕ) (who other : UniqueModel) (n m : ℕ) → i < j → slice_get effects i ≡ Some (Rise who Up n) → slice_get effects j ≡ Some (Rise other Up m) → n < m

no_numbers : (number : ℕ) → Numbers number []
no_numbers number = record { between = λ who n there. absurd (contains_nothing _ there); rising = λ i j who other n m lt is js. absurd (none-some _ is) }

-- an effect before the others: its number, if it has one, is the next
module _ (number next : ℕ) (x : Effect) (rest : List Effect)
    (here : (who : UniqueModel) (n : ℕ) → x ≡ Rise who Up n → (number < n) × (n ≤ BOUND) × (n ≤ next))
    (up : number ≤ next) (later : Numbers next rest) where
  between_all : (who : UniqueModel) (n : ℕ) → Contains (x ∷ rest) (Rise who Up n) → (number < n) × (n ≤ BOUND)
  between_all who n there = elim (first_or_rest x (Rise who Up n) rest there) [
    | inl same ↦ let h = here who n (sym same) in (h.0, h.1)
    | inr more ↦ let h = later.between who n more in (let lt = h.0 in omega arith, h.1)
  ]

  rising_all : (i j : ℕ) (who other : UniqueModel) (n m : ℕ) → i < j → slice_get (x ∷ rest) i ≡ Some (Rise who Up n) → slice_get (x ∷ rest) j ≡ Some (Rise other Up m) → n < m
  rising_all i zero who other n m lt is js = absurd (omega arith)
  rising_all zero (suc j) who other n m lt is js =
      let first = (here who n (same_Some x (Rise who Up n) is)).2 in
      let second = (later.between other m (contains_at rest j (Rise other Up m) js)).0 in
      omega arith
  rising_all (suc i) (suc j) who other n m lt is js = later.rising i j who other n m (omega arith) is js

  numbers_next : Numbers number (x ∷ rest)
  numbers_next = record { between = between_all; rising = rising_all }

-- an effect that makes nobody Up
other_effect : (number : ℕ) (x : Effect) (rest : List Effect) → ((who : UniqueModel) (n : ℕ) → x ≡ Rise who Up n → ⊥) → Numbers number rest → Numbers number (x ∷ rest)
other_effect number x rest never later = numbers_next number number x rest (λ who n is. absurd (never who n is)) (omega arith) later

same_number : (who other : UniqueModel) (n m : ℕ) → Rise who Up n ≡ Rise other Up m → n ≡ m
same_number who other n m is = cc

exits_nobody_up : (who other : UniqueModel) (n : ℕ) → Rise who Exiting 0 ≡ Rise other Up n → ⊥
exits_nobody_up who other n is = cc

removes_nobody_up : (who other : UniqueModel) (b : Bool) (n : ℕ) → Removed who b ≡ Rise other Up n → ⊥
removes_nobody_up who other b n is = cc

module _ (lost confirmed : UniqueSet) where
  joining : (who : UniqueModel) (number : ℕ) (ms : List MemberPair) (b : Bool) → has_next number ≡ b → Numbers (if b then number + 1 else number) (all_led lost confirmed (if b then number + 1 else number) ms)
      → Numbers number ((if b then Rise who Up (number + 1) ∷ [] else []) ++ all_led lost confirmed (if b then number + 1 else number) ms)
  joining who number ms true is later =
      numbers_next number (number + 1) (Rise who Up (number + 1)) (all_led lost confirmed (number + 1) ms)
      (λ other n same. let e = same_number who other (number + 1) n same in let below = ltb-true number BOUND is in (omega arith, omega arith, omega arith))
      (omega arith) later
  joining who number ms false is later = later

  removing : (who : UniqueModel) (number : ℕ) (rest : List Effect) (b c : Bool) → Numbers number rest → Numbers number ((if b then Removed who true ∷ [] else (if c then Removed who false ∷ [] else [])) ++ rest)
  removing who number rest true c later = other_effect number (Removed who true) rest (λ other n. removes_nobody_up who other true n) later
  removing who number rest false true later = other_effect number (Removed who false) rest (λ other n. removes_nobody_up who other false n) later
  removing who number rest false false later = later

  exiting : (who : UniqueModel) (number : ℕ) (rest : List Effect) (b : Bool) → Numbers number rest → Numbers number ((if b then Removed who true ∷ [] else []) ++ rest)
  exiting who number rest true later = other_effect number (Removed who true) rest (λ other n. removes_nobody_up who other true n) later
  exiting who number rest false later = later

  all_numbers : (number : ℕ) (ms : List MemberPair) → Numbers number (all_led lost confirmed number ms)
  all_numbers number [] = no_numbers number
  all_numbers number ((who, (Joining, up)) ∷ ms) = joining who number ms (has_next number) refl (all_numbers (number_after number Joining) ms)
  all_numbers number ((who, (WeaklyUp, up)) ∷ ms) = joining who number ms (has_next number) refl (all_numbers (number_after number WeaklyUp) ms)
  all_numbers number ((who, (Up, up)) ∷ ms) = all_numbers number ms
  all_numbers number ((who, (Leaving, up)) ∷ ms) = other_effect number (Rise who Exiting 0) (all_led lost confirmed number ms) (λ other n. exits_nobody_up who other n) (all_numbers number ms)
  all_numbers number ((who, (Exiting, up)) ∷ ms) = exiting who number (all_led lost confirmed number ms) (has confirmed who) (all_numbers number ms)
  all_numbers number ((who, (Down, up)) ∷ ms) = removing who number (all_led lost confirmed number ms) (has confirmed who) (has lost who) (all_numbers number ms)

greatest_of : (ms : List MemberPair) (m : MemberPair) → Contains ms m → m.1.1 ≤ greatest_number ms
greatest_of [] m there = absurd (contains_nothing m there)
greatest_of (n ∷ ms) m there = elim (first_or_rest n m ms there) [
  | inl same ↦ let e : m.1.1 ≡ n.1.1 = ap (λ (r : MemberPair). r.1.1) same in omega arith
  | inr later ↦ let le = greatest_of ms m later in omega arith
]

module _ (v : View) (confirmed : UniqueSet) where
  numbers : Numbers (greatest_number (members_of v.standings)) (leaders_effects v confirmed)
  numbers = all_numbers (unreachable_members v) confirmed (greatest_number (members_of v.standings)) (members_of v.standings)

  pub numbers_above : (who : UniqueModel) (number : ℕ) → Contains (leaders_effects v confirmed) (Rise who Up number) → (other : UniqueModel) (status : Status) (up : ℕ) → member_of (map.get v.standings other) ≡ Some (status, up) → up < number
  numbers_above who number there other status up is =
      let le = greatest_of (members_of v.standings) (other, (status, up)) (have_members v.standings other (status, up) is) in
      let lt = (numbers.between who number there).0 in
      omega arith

  pub numbers_bounded : (who : UniqueModel) (number : ℕ) → Contains (leaders_effects v confirmed) (Rise who Up number) → number ≤ BOUND
  numbers_bounded who number there = (numbers.between who number there).1

  pub numbers_rise : (i j : ℕ) (who other : UniqueModel) (n m : ℕ) → i < j → slice_get (leaders_effects v confirmed) i ≡ Some (Rise who Up n) → slice_get (leaders_effects v confirmed) j ≡ Some (Rise other Up m) → n < m
  numbers_rise i j who other n m lt is js = numbers.rising i j who other n m lt is js
