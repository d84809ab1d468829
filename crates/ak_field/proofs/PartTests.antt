-- What the checks of a part's fields mean.
use Rattle.std.proofs.Common.{◌≡◌, ℕ, zero, suc, ◌+◌, ◌<◌, ◌≤◌, Bool, true, false, ◌||◌, ◌==◌, not, nat_le, nat_lt, if◌then◌else◌, IsTrue, List, [], ◌∷◌, Option, Some, None, refl, sym, subst, ◌∙◌, arith, true≢false}
use Rattle.std.specs.Prelude.{IsSome}
use Rattle.std.proofs.lemmas.Bool.Decides.{nat_tests}
use Rattle.ak_clock.specs.declared.version.TheConstants.{BOUND}
use Rattle.ak_member.specs.declared.standing.Standing.{Standing}
use Rattle.ak_member.specs.declared.standing.Standing.TheVariants.{Member, Buried}
use Rattle.ak_member.specs.declared.status.Status.TheVariants.{Joining, WeaklyUp, Up, Leaving, Exiting, Down}
use Rattle.ak_member.specs.Standing.{as_member}
use Rattle.ak_gossip.specs.Gossip.{IsStanding}
use Rattle.ak_gossip.specs.Parts.{state_of, number_of, IsState}
use Rattle.ak_gossip.specs.PartsWalk.{ascend_from}
use Rattle.ak_gossip.proofs.PartsOrder.{IsHead, head_of, from_head}
use Rattle.ak_field.specs.Ranges.{is_from}
use Rattle.ak_field.specs.Lists.{AllAfter}
use Rattle.ak_field.specs.Parts.{is_up_number, may_see, is_after}
use Rattle.ak_field.proofs.Whole.{Ranges, in_range, range_of}

eq_is : (a b : ℕ) → (a == b) ≡ true → a ≡ b
eq_is a b e = grind (arith, nat_tests)

is_eq : (a b : ℕ) → a ≡ b → (a == b) ≡ true
is_eq a b e = grind (arith, nat_tests)

at_most : (a b : ℕ) → nat_le a b ≡ true → a ≤ b
at_most a b e = grind (arith, nat_tests)

is_at_most : (a b : ℕ) → a ≤ b → nat_le a b ≡ true
is_at_most a b le = grind (arith, nat_tests)

pub less_than : (a b : ℕ) → nat_lt a b ≡ true → a < b
less_than a b e = grind (arith, nat_tests)

pub is_less_than : (a b : ℕ) → a < b → nat_lt a b ≡ true
is_less_than a b lt = grind (arith, nat_tests)

-- ---- states
small_if : (a b : Bool) (n : ℕ) → (if a then n == 0 else (if b then nat_le n BOUND else is_from 1 BOUND n)) ≡ true → n ≤ BOUND
small_if true b n e = let is : n ≡ 0 = eq_is n 0 e in omega arith
small_if false true n e = at_most n BOUND e
small_if false false n e = (range_of 1 BOUND n e).1

pub up_number_small : (state n : ℕ) → is_up_number state n ≡ true → n ≤ BOUND
up_number_small state n e = small_if (state == 1 || nat_le 6 state) (state == 5) n e

pub state_from : (state n : ℕ) (seen : Bool) → Ranges 1 8 state → is_up_number state n ≡ true → may_see state seen ≡ true → IsState state n seen
state_from zero n seen range up see = absurd (omega (arith, range.0))
state_from (suc zero) n seen range up see = record { standing = Member Joining n; state_is = refl; number_is = refl; may_be = eq_is n 0 up; by_member = λ _. refl }
state_from (suc (suc zero)) n seen range up see = record { standing = Member Up n; state_is = refl; number_is = refl; may_be = range_of 1 BOUND n up; by_member = λ _. refl }
state_from (suc (suc (suc zero))) n seen range up see = record { standing = Member Leaving n; state_is = refl; number_is = refl; may_be = range_of 1 BOUND n up; by_member = λ _. refl }
state_from (suc (suc (suc (suc zero)))) n seen range up see = record { standing = Member Exiting n; state_is = refl; number_is = refl; may_be = range_of 1 BOUND n up; by_member = λ _. refl }
state_from (suc (suc (suc (suc (suc zero))))) n seen range up see = record { standing = Member Down n; state_is = refl; number_is = refl; may_be = at_most n BOUND up; by_member = λ _. refl }
state_from (suc (suc (suc (suc (suc (suc zero)))))) n true range up see = absurd (true≢false (sym see))
state_from (suc (suc (suc (suc (suc (suc zero)))))) n false range up see = record { standing = Buried false; state_is = refl; number_is = eq_is n 0 up; may_be = tt; by_member = λ h. absurd (true≢false (sym h)) }
state_from (suc (suc (suc (suc (suc (suc (suc zero))))))) n true range up see = absurd (true≢false (sym see))
state_from (suc (suc (suc (suc (suc (suc (suc zero))))))) n false range up see = record { standing = Buried true; state_is = refl; number_is = eq_is n 0 up; may_be = tt; by_member = λ h. absurd (true≢false (sym h)) }
state_from (suc (suc (suc (suc (suc (suc (suc (suc zero)))))))) n seen range up see = record { standing = Member WeaklyUp n; state_is = refl; number_is = refl; may_be = eq_is n 0 up; by_member = λ _. refl }
state_from (suc (suc (suc (suc (suc (suc (suc (suc (suc n))))))))) m seen range up see = absurd (omega (arith, range.1))

see_low : (b : Bool) → (not b || true) ≡ true
see_low true = refl
see_low false = refl

see_none : (b : Bool) → (IsTrue b → IsSome {T = ℕ} None) → (not b || false) ≡ true
see_none true h = absurd (true≢false (sym (h refl)))
see_none false h = refl

pub record Passes (state n : ℕ) (seen : Bool) : Type 0 where
  pub range : Ranges 1 8 state
  pub up : is_up_number state n ≡ true
  pub see : may_see state seen ≡ true

passes : (x : Standing) (n : ℕ) (seen : Bool) → IsStanding x → n ≡ number_of x → (IsTrue seen → IsSome (as_member x)) → Passes (state_of x) n seen
passes (Member Joining k) n seen may is by = record { range = (omega arith, omega arith); up = is_eq n 0 (is ∙ may); see = see_low seen }
passes (Member WeaklyUp k) n seen may is by = record { range = (omega arith, omega arith); up = is_eq n 0 (is ∙ may); see = see_low seen }
passes (Member Up k) n seen may is by = record { range = (omega arith, omega arith); up = in_range 1 BOUND n (omega (arith, may.0)) (omega (arith, may.1)); see = see_low seen }
passes (Member Leaving k) n seen may is by = record { range = (omega arith, omega arith); up = in_range 1 BOUND n (omega (arith, may.0)) (omega (arith, may.1)); see = see_low seen }
passes (Member Exiting k) n seen may is by = record { range = (omega arith, omega arith); up = in_range 1 BOUND n (omega (arith, may.0)) (omega (arith, may.1)); see = see_low seen }
passes (Member Down k) n seen may is by = record { range = (omega arith, omega arith); up = is_at_most n BOUND (omega (arith, may)); see = see_low seen }
passes (Buried true) n true may is by = absurd (true≢false (sym (by refl)))
passes (Buried true) n false may is by = record { range = (omega arith, omega arith); up = is_eq n 0 is; see = refl }
passes (Buried false) n true may is by = absurd (true≢false (sym (by refl)))
passes (Buried false) n false may is by = record { range = (omega arith, omega arith); up = is_eq n 0 is; see = refl }

pub state_to : (state n : ℕ) (seen : Bool) → IsState state n seen → Passes state n seen
state_to state n seen s = subst (λ (k : ℕ). Passes k n seen) (sym s.state_is) (passes s.standing n seen s.may_be s.number_is s.by_member)

-- ---- indices
pub record IsIndex (many : ℕ) (last : Option ℕ) (index : ℕ) : Type 0 where
  pub below : index < many
  pub after : IsTrue (is_after last index)

abbrev pub least_after : Option ℕ → ℕ
least_after None = 0
least_after (Some last) = last + 1

after_least : (last : Option ℕ) (index : ℕ) → is_after last index ≡ true → least_after last ≤ index
after_least None index e = omega arith
after_least (Some last) index e = let lt : last < index = less_than last index e in omega arith

least_is_after : (last : Option ℕ) (index : ℕ) → least_after last ≤ index → is_after last index ≡ true
least_is_after None index le = refl
least_is_after (Some last) index le = is_less_than last index (omega (arith, le))

pub ascends : (many : ℕ) (last : Option ℕ) (xs : List ℕ) → AllAfter (IsIndex many) last xs → ascend_from (least_after last) many xs ≡ true
ascends many last [] each = refl
ascends many last (x ∷ xs) each = from_head (least_after last) many x xs (record { above = after_least last x each.0.after; below = each.0.below; after = ascends many (Some x) xs each.1 })

pub ascending : (many : ℕ) (last : Option ℕ) (xs : List ℕ) → ascend_from (least_after last) many xs ≡ true → AllAfter (IsIndex many) last xs
ascending many last [] h = tt
ascending many last (x ∷ xs) h =
    let head : IsHead (least_after last) many x xs = head_of (least_after last) many x xs h in
    (record { below = head.below; after = least_is_after last x head.above }, ascending many (Some x) xs head.after)
