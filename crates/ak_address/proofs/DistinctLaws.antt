-- How many addresses processes have, along a list of them in their order: those of one address stand side by side, so
-- each that is not at the address of the last one is at another.
use Rattle.std.proofs.Common.{◌≡◌, ℕ, ◌+◌, ◌≤◌, Bool, true, false, cond, ◌||◌, List, [], ◌∷◌, ◌++◌, Option, Some, None, option_to_list, refl, sym, ap, ◌∙◌, subst, arith, true≢false}
use Rattle.std.specs.declared.cmp.Ordering.TheVariants.{Less, Equal, Greater}
use Rattle.std.specs.List.{list_any}
use Rattle.std.specs.Ordering.{is_eq, nat_cmp, ordering_then}
use Rattle.std.specs.Cmp.{alike_right}
use Rattle.ak_address.specs.Unique.{AddressModel, UniqueModel, address_cmp, unique_cmp}
use Rattle.ak_address.specs.Distinct.{AddressCountModel, none_counted, counted_with, distinct, addresses_of, is_at_address}
use Rattle.ak_address.proofs.OrderLemmas.{address_total}

-- ---- processes in order
-- a process is below each of these
abbrev pub IsBelow : UniqueModel → List UniqueModel → Type 0
IsBelow u [] = Unit {0}
IsBelow u (who ∷ rest) = (unique_cmp u who ≡ Less) × IsBelow u rest

abbrev pub AreRising : List UniqueModel → Type 0
AreRising [] = Unit {0}
AreRising (who ∷ rest) = IsBelow who rest × AreRising rest

rising_rest : (last : Option UniqueModel) (us : List UniqueModel) → AreRising (option_to_list last ++ us) → AreRising us
rising_rest None us r = r
rising_rest (Some u) us r = r.1

abbrev shares : AddressModel → List AddressModel → Bool
shares a rest = list_any (λ b. is_eq (address_cmp a b)) rest

-- 1 where the address of the last process is among the rest, and will be counted again
abbrev pub again : Option UniqueModel → List AddressModel → ℕ
again None rest = 0
again (Some u) rest = cond (shares u.address rest) 1 0

-- a count so far, and the processes that are left
pub record Counting (c : AddressCountModel) (left : List UniqueModel) (total : ℕ) : Type 0 where
  pub rising : AreRising (option_to_list c.last ++ left)
  pub so_far : c.count + distinct (addresses_of left) ≡ total + again c.last (addresses_of left)

-- ---- addresses
above_address : (l u q : UniqueModel) → address_cmp l.address u.address ≡ Less → unique_cmp u q ≡ Less → address_cmp l.address q.address ≡ Less
above_address l u q below is =
    elim (address_cmp u.address q.address) as (λ r. address_cmp u.address q.address ≡ r → ordering_then r (nat_cmp u.uid q.uid) ≡ Less → address_cmp l.address q.address ≡ Less) [
      | Less ↦ λ p _. address_total.trans l.address u.address q.address below p
      | Equal ↦ λ p _. sym (alike_right address_total u.address q.address l.address p) ∙ below
      | Greater ↦ λ p no_less. absurd cc
    ] refl is

below_address : (l u : UniqueModel) → unique_cmp l u ≡ Less → is_eq (address_cmp l.address u.address) ≡ false → address_cmp l.address u.address ≡ Less
below_address l u is other =
    elim (address_cmp l.address u.address) as (λ r. ordering_then r (nat_cmp l.uid u.uid) ≡ Less → is_eq r ≡ false → r ≡ Less) [
      | Less ↦ λ _ _. refl
      | Equal ↦ λ _ other. absurd (true≢false other)
      | Greater ↦ λ no_less _. absurd cc
    ] is other

-- an address below that of a process is not among those of the processes above it
apart : (l u : UniqueModel) → address_cmp l.address u.address ≡ Less → (us : List UniqueModel) → IsBelow u us → shares l.address (addresses_of us) ≡ false
apart l u below [] h = refl
apart l u below (q ∷ us) h = ap (λ r. is_eq r || shares l.address (addresses_of us)) (above_address l u q below h.0) ∙ apart l u below us h.1

no_more : (last : Option UniqueModel) (who : UniqueModel) (rest : List UniqueModel) → AreRising (option_to_list last ++ who ∷ rest) → is_at_address last who ≡ false → again last (addresses_of rest) ≡ 0
no_more None who rest r other = refl
no_more (Some l) who rest r other = ap (λ b. cond b 1 0) (apart l who (below_address l who r.0.0 other) rest r.1.0)

-- ---- one process more
counted_once : (b : Bool) (n d total : ℕ) → n + cond b d (d + 1) ≡ total + 0 → n + 1 + d ≡ total + cond b 1 0
counted_once true n d total is = omega arith
counted_once false n d total is = omega arith

counted_again : (b : Bool) (n d total : ℕ) → n + cond b d (d + 1) ≡ total + 1 → n + d ≡ total + cond b 1 0
counted_again true n d total is = omega arith
counted_again false n d total is = omega arith

counted_next : (last : Option UniqueModel) (who : UniqueModel) (rest : List AddressModel) (n total : ℕ)
    → (is_at_address last who ≡ false → again last rest ≡ 0)
    → n + distinct (who.address ∷ rest) ≡ total + again last (who.address ∷ rest)
    → (counted_with (record { count = n; last = last }) who).count + distinct rest ≡ total + again (Some who) rest
counted_next None who rest n total none so_far = counted_once (shares who.address rest) n (distinct rest) total so_far
counted_next (Some l) who rest n total none so_far =
    elim (is_eq (address_cmp l.address who.address)) as (λ b.
    (b ≡ false → again (Some l) rest ≡ 0) → n + distinct (who.address ∷ rest) ≡ total + cond (b || shares l.address rest) 1 0 → cond b n (n + 1) + distinct rest ≡ total + again (Some who) rest) [
      | true ↦ λ none so_far. counted_again (shares who.address rest) n (distinct rest) total so_far
      | false ↦ λ none so_far. counted_once (shares who.address rest) n (distinct rest) total (so_far ∙ (let no_more = none refl in omega arith))
    ] none so_far

pub counting_start : (us : List UniqueModel) → AreRising us → Counting none_counted us (distinct (addresses_of us))
counting_start us rising = record { rising = rising; so_far = omega arith }

pub counting_one : (c : AddressCountModel) (who : UniqueModel) (left rest : List UniqueModel) (total : ℕ)
    → left ≡ who ∷ rest → Counting c left total → Counting (counted_with c who) rest total
counting_one c who left rest total is counting =
    let here : Counting c (who ∷ rest) total = subst (λ us. Counting c us total) is counting in
    record {
      rising = rising_rest c.last (who ∷ rest) here.rising;
      so_far = counted_next c.last who (addresses_of rest) c.count total (no_more c.last who rest here.rising) here.so_far;
    }

none_again : (last : Option UniqueModel) → again last [] ≡ 0
none_again None = refl
none_again (Some u) = refl

pub counting_end : (c : AddressCountModel) (left : List UniqueModel) (total : ℕ) → left ≡ [] → Counting c left total → c.count ≡ total
counting_end c left total is counting =
    let end : Counting c [] total = subst (λ us. Counting c us total) is counting in
    let so_far = end.so_far in
    let none = none_again c.last in
    omega arith

-- the count rises by one at most
pub counted_few : (c : AddressCountModel) (who : UniqueModel) → (counted_with c who).count ≤ c.count + 1
counted_few c who = by_test (is_at_address c.last who)
  where
    by_test : (b : Bool) → cond b c.count (c.count + 1) ≤ c.count + 1
    by_test true = omega arith
    by_test false = omega arith
