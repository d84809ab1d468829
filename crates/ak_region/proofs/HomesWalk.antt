-- The walk along the homes that asks of each whether it is a member.
use Rattle.std.proofs.Common.{◌≡◌, ℕ, zero, suc, Bool, true, false, ◌&&◌, is_some, ◌+◌, ◌<◌, ◌≤◌, List, [], ◌∷◌, ◌++◌, length, take, drop, set, get_or, slice_get, Some, refl, sym, ap, subst, ◌∙◌, add-one, arith}
use Rattle.std.specs.List.{list_all}
use Rattle.std.specs.FinMap as map
use Rattle.ak_address.specs.Unique.{UniqueModel}
use Rattle.ak_address.proofs.TableLaws.{get_at}
use Rattle.ak_member.specs.declared.standing.Standing.{Standing}
use Rattle.ak_member.specs.declared.standing.Standing.TheVariants.{Member}
use Rattle.ak_member.specs.declared.status.Status.{Status}
use Rattle.ak_member.specs.Standing.{Standings, is_member, member_of}
use Rattle.ak_region.proofs.StoredLemmas.{whole_written}

-- who stands at a pair as a member is one
pub stands_at : (s : Standings) (place : ℕ) (there who : UniqueModel) (standing : Standing) (status : Status) (number : ℕ) → Some (there, standing) ≡ slice_get (map.entries s) place → standing ≡ Member status number
    → there ≡ who → is_member s who ≡ true
stands_at s place there who standing status number at is same =
    subst (λ w. is_member s w ≡ true) same (ap (λ o. is_some (member_of o)) (get_at s place (there, standing) (sym at)) ∙ ap (λ x. is_some (member_of (Some x))) is)

-- one that is left as it is leaves the list so
pub left_so : {X : Type 0} (xs : List X) (i : ℕ) (d x : X) → i < length xs → x ≡ get_or xs i d → set xs i x ≡ xs
left_so [] i d x lt is = absurd (omega (arith, lt))
left_so (y ∷ xs) zero d x lt is = ap (λ z. z ∷ xs) is
left_so (y ∷ xs) (suc i) d x lt is = ap (λ l. y ∷ l) (left_so xs i d x (omega (arith, lt)) is)

all_next : {X : Type 0} (p : X → Bool) (xs : List X) (i : ℕ) (d : X) (b : Bool) → i < length xs → p (get_or xs i d) ≡ b → list_all p (drop i xs) ≡ (b && list_all p (drop (suc i) xs))
all_next p [] i d b lt is = absurd (omega (arith, lt))
all_next p (x ∷ xs) zero d b lt is = ap (λ b. b && list_all p xs) is
all_next p (x ∷ xs) (suc i) d b lt is = all_next p xs i d b (omega (arith, lt)) is

-- one passes, and the next comes
pub all_passed : {X : Type 0} (p : X → Bool) (xs now : List X) (i : ℕ) (d : X) → now ≡ xs → i < length xs → true ≡ p (get_or now i d) → list_all p xs ≡ list_all p (drop i xs)
    → list_all p xs ≡ list_all p (drop (i + 1) xs)
all_passed p xs now i d same lt good before =
    before ∙ all_next p xs i d true lt (ap (λ l. p (get_or l i d)) (sym same) ∙ sym good) ∙ ap (λ n. list_all p (drop n xs)) (sym (add-one i))

-- one does not
pub all_stopped : {X : Type 0} (p : X → Bool) (xs now : List X) (i : ℕ) (d : X) → now ≡ xs → i < length xs → false ≡ p (get_or now i d) → list_all p xs ≡ list_all p (drop i xs) → false ≡ list_all p xs
all_stopped p xs now i d same lt bad before = sym (before ∙ all_next p xs i d false lt (ap (λ l. p (get_or l i d)) (sym same) ∙ sym bad))

nothing_left : {X : Type 0} (p : X → Bool) (xs : List X) (i : ℕ) → length xs ≤ i → list_all p (drop i xs) ≡ true
nothing_left p [] zero past = refl
nothing_left p [] (suc i) past = refl
nothing_left p (x ∷ xs) zero past = absurd (omega (arith, past))
nothing_left p (x ∷ xs) (suc i) past = nothing_left p xs i (omega (arith, past))

-- all have passed
pub all_over : {X : Type 0} (p : X → Bool) (xs : List X) (i : ℕ) → length xs ≤ i → list_all p xs ≡ list_all p (drop i xs) → true ≡ list_all p xs
all_over p xs i past before = sym (before ∙ nothing_left p xs i past)

-- what was walked and left as it was
pub left_whole : {X : Type 0} (len : ℕ) (xs now : List X) → len ≡ length xs → now ≡ xs → take len (now ++ drop (length now) xs) ≡ xs
left_whole len xs now long is = whole_written len xs now long (ap length is) ∙ is
