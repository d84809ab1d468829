-- Under keep-oldest at most one of two sides without a common member goes on.
use Rattle.std.proofs.Common.{◌≡◌, ℕ, ◌+◌, ◌≤◌, nat_le, nat_eq, Bool, true, false, not, ◌&&◌, ◌⊎◌, inl, inr, if◌then◌else◌, List, [], ◌∷◌, Option, None, Some, length, Contains, refl, sym, ap, ◌∙◌, arith, true≢false}
use Rattle.std.proofs.lemmas.Bool.{leb-true}
use Rattle.std.proofs.lemmas.Bool.Decides.{nat_tests, Decides-eqb}
use Rattle.std.proofs.lemmas.List.Filters.{length-filter_both}
use Rattle.std.specs.List.{filter}
use Rattle.ak_address.specs.Unique.{AddressModel, UniqueModel}
use Rattle.ak_address.proofs.Elements.{contains_first, contains_nothing, first_or_rest, in_filter, filter_in}
use Rattle.ak_member.specs.Standing.{Standings, members_of}
use Rattle.ak_member.specs.Age.{role_pairs, least_pair}
use Rattle.ak_member.specs.View.{View, RowTable}
use Rattle.ak_reach.specs.Unreachable.{unreachable_members}
use Rattle.ak_settings.specs.declared.settings.Strategy.TheVariants.{KeepOldest}
use Rattle.ak_downing.specs.declared.decision.Decision.TheVariants as decision
use Rattle.ak_downing.specs.Downing.{counted_beside, counted_apart, gives_way, by_side, with_oldest}
use Rattle.ak_downing.specs.Sides.{seen_with, HaveNoneInCommon, BothGoOn}
use Rattle.ak_downing.proofs.LeastLemmas.{least_there}
use Rattle.ak_downing.proofs.SidesLaws.{disjoint_parts}
use Rattle.ak_downing.proofs.SideLemmas.{beside_pair}

abbrev Pairs : Type 0
Pairs = List (UniqueModel × ℕ)

-- ---- what a decision says of the sides
pub way_means : (asked : Bool) (here there : ℕ) → gives_way asked here there ≡ true → (asked ≡ true) × (here ≡ 1) × (1 ≤ there)
way_means asked here there is = by_case asked (nat_eq here 1) (nat_le 1 there) refl refl refl is
  where
    by_case : (a b c : Bool) → asked ≡ a → nat_eq here 1 ≡ b → nat_le 1 there ≡ c → (a && (b && c)) ≡ true → (asked ≡ true) × (here ≡ 1) × (1 ≤ there)
    by_case true true true p q r is = (p, (Decides-eqb here 1).0 q, leb-true 1 there r)
    by_case true true false p q r is = absurd (true≢false (sym is))
    by_case true false c p q r is = absurd (true≢false (sym is))
    by_case false b c p q r is = absurd (true≢false (sym is))

pub way_given : (asked : Bool) (here there : ℕ) → asked ≡ true → here ≡ 1 → 1 ≤ there → gives_way asked here there ≡ true
way_given asked here there is one some =
    let alone : nat_eq here 1 ≡ true = grind (arith, nat_tests, one) in
    let others : nat_le 1 there ≡ true = grind (arith, nat_tests, some) in
    λ i. is i && (alone i && others i)

pub side_means : (asked : Bool) (beside others : ℕ) (t : Bool) → by_side asked beside others t ≡ decision.DownUnreachable
    → ((t ≡ true) × (gives_way asked beside others ≡ false)) ⊎ ((t ≡ false) × (gives_way asked others beside ≡ true))
side_means asked beside others true is = inl (refl, stays (gives_way asked beside others) is)
  where
    stays : (b : Bool) → (if b then decision.DownReachable else decision.DownUnreachable) ≡ decision.DownUnreachable → b ≡ false
    stays true is = absurd cc
    stays false is = refl
side_means asked beside others false is = inr (refl, goes (gives_way asked others beside) is)
  where
    goes : (b : Bool) → (if b then decision.DownUnreachable else decision.DownReachable) ≡ decision.DownUnreachable → b ≡ true
    goes true is = refl
    goes false is = absurd cc

-- ---- lists with one element, and with some
only_one : {X : Type 0} (l : List X) (x y : X) → length l ≡ 1 → Contains l x → Contains l y → x ≡ y
only_one {X} [] x y one p q = absurd (omega arith)
only_one {X} (z ∷ []) x y one p q = is_first x p ∙ sym (is_first y q)
  where
    is_first : (w : X) → Contains (z ∷ []) w → w ≡ z
    is_first w there = elim (first_or_rest z w [] there) [ inl same ↦ same | inr later ↦ absurd (contains_nothing w later) ]
only_one {X} (z ∷ w ∷ l) x y one p q = absurd (omega arith)

some_element : {X : Type 0} (l : List X) → 1 ≤ length l → (x : X) × Contains l x
some_element {X} [] some = absurd (omega arith)
some_element {X} (x ∷ l) some = (x, contains_first x l)

one_at_least : {X : Type 0} (l : List X) (x : X) → Contains l x → 1 ≤ length l
one_at_least {X} l x there = let lt = there.1 in omega arith

-- ---- two sides
module _ (asked : Bool) (xs : Pairs) (p q : UniqueModel × ℕ → Bool) (never : (x : UniqueModel × ℕ) → Contains xs x → p x ≡ true → q x ≡ true → ⊥) where
  abbrev here : (UniqueModel × ℕ → Bool) → ℕ
  here r = length (filter r xs)

  abbrev there : (UniqueModel × ℕ → Bool) → ℕ
  there r = length (filter (λ x. not (r x)) xs)

  all_of : (r : UniqueModel × ℕ → Bool) → here r + there r ≡ length xs
  all_of r = length-filter_both r (λ x. not (r x)) (λ x. refl) xs

  -- the side of the oldest does not give way, and another one goes on where it is alone on its side
  one_has_it : (r s : UniqueModel × ℕ → Bool) (x : UniqueModel × ℕ) → here r + here s ≤ length xs → Contains xs x → r x ≡ true
      → gives_way asked (here r) (there r) ≡ false → gives_way asked (there s) (here s) ≡ true → ⊥
  one_has_it r s x few among is stays goes =
      let way = way_means asked (there s) (here s) goes in
      let some = one_at_least (filter r xs) x (filter_in r xs x among is) in
      let mine = all_of r in
      let yours = all_of s in
      let apart = way.1 in
      let others = way.2 in
      true≢false (sym (way_given asked (here r) (there r) way.0 (omega arith) (omega arith)) ∙ stays)

  -- neither has it: each goes on with all the others, so that they share one
  nobody_has_it : (x : UniqueModel × ℕ) → Contains xs x → p x ≡ false → q x ≡ false → gives_way asked (there p) (here p) ≡ true → gives_way asked (there q) (here q) ≡ true → ⊥
  nobody_has_it x among mine yours one other =
      let way = way_means asked (there p) (here p) one in
      let also = way_means asked (there q) (here q) other in
      let y = some_element (filter q xs) also.2 in
      let kept = in_filter q xs y.0 y.1 in
      let apart : p y.0 ≡ false = not_both y.0 kept.0 kept.1 (p y.0) refl in
      let same = only_one (filter (λ z. not (p z)) xs) x y.0 way.1 (filter_in (λ z. not (p z)) xs x among (ap not mine)) (filter_in (λ z. not (p z)) xs y.0 kept.0 (ap not apart)) in
      true≢false (sym kept.1 ∙ ap q (sym same) ∙ yours)
    where
      not_both : (y : UniqueModel × ℕ) → Contains xs y → q y ≡ true → (b : Bool) → p y ≡ b → b ≡ false
      not_both y among is true also = absurd (never y among also is)
      not_both y among is false also = refl

  pub not_both_sides : (x : UniqueModel × ℕ) → Contains xs x → by_side asked (here p) (there p) (p x) ≡ decision.DownUnreachable → by_side asked (here q) (there q) (q x) ≡ decision.DownUnreachable → ⊥
  not_both_sides x among one other =
      let few = disjoint_parts p q xs never in
      let mine = side_means asked (here p) (there p) (p x) one in
      let yours = side_means asked (here q) (there q) (q x) other in
      elim mine [
        | inl has ↦ elim yours [
          | inl also ↦ never x among has.0 also.0
          | inr lacks ↦ one_has_it p q x few among has.0 has.1 lacks.1
        ]
        | inr lacks ↦ elim yours [
          | inl has ↦ one_has_it q p x (omega arith) among has.0 has.1 lacks.1
          | inr also ↦ nobody_has_it x among lacks.0 also.0 lacks.1 also.1
        ]
      ]

pub not_both_oldest : (asked : Bool) (role : List AddressModel) (members : Standings) (rows others : RowTable) (me you : UniqueModel)
    → HaveNoneInCommon (counted_beside role (seen_with members rows) me) (counted_beside role (seen_with members others) you) → BothGoOn (KeepOldest asked) role (seen_with members rows) me (seen_with members others) you → ⊥
not_both_oldest asked role members rows others me you apart both = by_least (least_pair counted) refl both.0 both.1
  where
    v : View
    v = seen_with members rows

    w : View
    w = seen_with members others

    counted : Pairs
    counted = role_pairs role (members_of members)

    never : (x : UniqueModel × ℕ) → Contains counted x → beside_pair v me x ≡ true → beside_pair w you x ≡ true → ⊥
    never x there one other = apart x (filter_in (beside_pair v me) counted x there one) (filter_in (beside_pair w you) counted x there other)

    by_least : (o : Option (UniqueModel × ℕ)) → least_pair counted ≡ o
        → with_oldest asked (length (counted_beside role v me)) (length (counted_apart role v me)) (unreachable_members v) me o ≡ decision.DownUnreachable
        → with_oldest asked (length (counted_beside role w you)) (length (counted_apart role w you)) (unreachable_members w) you o ≡ decision.DownUnreachable → ⊥
    by_least None is one other = absurd cc
    by_least (Some x) is one other = not_both_sides asked counted (beside_pair v me) (beside_pair w you) never x (least_there counted x is) one other
