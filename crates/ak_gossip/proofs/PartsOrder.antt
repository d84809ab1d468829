-- What the tests of parts mean: indices that ascend below an end, and processes that ascend.
use Rattle.std.proofs.Common.{◌≡◌, ◌↔◌, ◌⊎◌, inl, inr, ℕ, zero, suc, ◌+◌, ◌<◌, ◌≤◌, Bool, true, List, [], ◌∷◌, length, slice_get, Option, Some, None, refl, sym, ap, ◌∙◌, subst, arith, leb-true, ltb-true, le-leb}
use Rattle.std.proofs.lemmas.Bool.{lt-ltb, and_from}
use Rattle.std.proofs.lemmas.Option.{same_Some}
use Rattle.std.specs.declared.cmp.Ordering.TheVariants.{Less}
use Rattle.std.specs.Ordering.{is_lt}
use Rattle.std.specs.Cmp.{first_so, second_so}
use Rattle.ak_address.specs.Unique.{UniqueModel, unique_cmp}
use Rattle.ak_address.proofs.OrderLemmas.{unique_total, less_of}
use Rattle.ak_address.proofs.BoolLemmas.{none_there}
use Rattle.ak_gossip.specs.declared.part.Part.{Part}
use Rattle.ak_gossip.specs.Parts.{IsAscending, IsPart, AreParts, IsState}
use Rattle.ak_clock.specs.declared.version.TheConstants.{BOUND}
use Rattle.ak_gossip.specs.Gossip.{most_uniques}
use Rattle.ak_gossip.specs.PartsWalk.{ascend_from, is_above, ascend_after}

-- ---- indices
-- the first index, and those that are left
pub record IsHead (least end index : ℕ) (rest : List ℕ) : Type 0 where
  pub above : least ≤ index
  pub below : index < end
  pub after : ascend_from (index + 1) end rest ≡ true

pub head_of : (least end index : ℕ) (rest : List ℕ) → ascend_from least end (index ∷ rest) ≡ true → IsHead least end index rest
head_of least end index rest h = record {
  above = leb-true least index (first_so _ _ h);
  below = ltb-true index end (first_so _ _ (second_so _ _ h));
  after = second_so _ _ (second_so _ _ h);
}

pub from_head : (least end index : ℕ) (rest : List ℕ) → IsHead least end index rest → ascend_from least end (index ∷ rest) ≡ true
from_head least end index rest h = and_from _ _ (le-leb least index h.above) (and_from _ _ (lt-ltb index end h.below) h.after)

pub at_least : (least end : ℕ) (indices : List ℕ) → ascend_from least end indices ≡ true → (i p : ℕ) → slice_get indices i ≡ Some p → least ≤ p
at_least least end [] h i p is = absurd (none_there p is)
at_least least end (x ∷ indices) h zero p is =
    let head : IsHead least end x indices = head_of least end x indices h in
    let same : x ≡ p = same_Some x p is in
    omega (arith, head.above)
at_least least end (x ∷ indices) h (suc i) p is =
    let head : IsHead least end x indices = head_of least end x indices h in
    let later : x + 1 ≤ p = at_least (x + 1) end indices head.after i p is in
    omega (arith, head.above)

pub all_below : (least end : ℕ) (indices : List ℕ) → ascend_from least end indices ≡ true → (i p : ℕ) → slice_get indices i ≡ Some p → p < end
all_below least end [] h i p is = absurd (none_there p is)
all_below least end (x ∷ indices) h zero p is =
    let head : IsHead least end x indices = head_of least end x indices h in
    let same : x ≡ p = same_Some x p is in
    omega (arith, head.below)
all_below least end (x ∷ indices) h (suc i) p is = all_below (x + 1) end indices (head_of least end x indices h).after i p is

pub all_ascend : (least end : ℕ) (indices : List ℕ) → ascend_from least end indices ≡ true → IsAscending indices
all_ascend least end [] h i j p q lt is js = absurd (none_there p is)
all_ascend least end (x ∷ indices) h i zero p q lt is js = absurd (omega arith)
all_ascend least end (x ∷ indices) h zero (suc j) p q lt is js =
    let same : x ≡ p = same_Some x p is in
    let later : x + 1 ≤ q = at_least (x + 1) end indices (head_of least end x indices h).after j q js in
    omega arith
all_ascend least end (x ∷ indices) h (suc i) (suc j) p q lt is js = all_ascend (x + 1) end indices (head_of least end x indices h).after i j p q (omega arith) is js

pub test_of : (least end : ℕ) (indices : List ℕ) → ((i p : ℕ) → slice_get indices i ≡ Some p → least ≤ p) → ((i p : ℕ) → slice_get indices i ≡ Some p → p < end) → IsAscending indices → ascend_from least end indices ≡ true
test_of least end [] above below ascending = refl
test_of least end (x ∷ indices) above below ascending = from_head least end x indices (record {
  above = above 0 x refl;
  below = below 0 x refl;
  after = test_of (x + 1) end indices (λ i p is. let more : x < p = ascending 0 (suc i) x p (omega arith) refl is in omega arith) (λ i p is. below (suc i) p is) (λ i j p q lt is js. ascending (suc i) (suc j) p q (omega arith) is js);
})

-- ---- processes
pub above_next : (last : Option UniqueModel) (k q : UniqueModel) → is_above last k ≡ true → unique_cmp k q ≡ Less → is_above last q ≡ true
above_next None k q h less = refl
above_next (Some last) k q h less = ap is_lt (unique_total.trans last k q (less_of _ h) less)

pub all_above : (last : Option UniqueModel) (parts : List Part) → ascend_after last parts ≡ true → (i : ℕ) (part : Part) → slice_get parts i ≡ Some part → is_above last part.unique ≡ true
all_above last [] h i part is = absurd (none_there part is)
all_above last (x ∷ parts) h zero part is = subst (λ (p : Part). is_above last p.unique ≡ true) (same_Some x part is) (first_so _ _ h)
all_above last (x ∷ parts) h (suc i) part is =
    above_next last x.unique part.unique (first_so _ _ h) (less_of _ (all_above (Some x.unique) parts (second_so _ _ h) i part is))

-- the processes of parts ascend
abbrev pub Ascend : List Part → Type 0
Ascend parts = (i j : ℕ) (one other : Part) → i < j → slice_get parts i ≡ Some one → slice_get parts j ≡ Some other → unique_cmp one.unique other.unique ≡ Less

pub uniques_ascend_from : (last : Option UniqueModel) (parts : List Part) → ascend_after last parts ≡ true → Ascend parts
uniques_ascend_from last [] h i j one other lt is js = absurd (none_there one is)
uniques_ascend_from last (x ∷ parts) h i zero one other lt is js = absurd (omega arith)
uniques_ascend_from last (x ∷ parts) h zero (suc j) one other lt is js =
    subst (λ (p : Part). unique_cmp p.unique other.unique ≡ Less) (same_Some x one is) (less_of _ (all_above (Some x.unique) parts (second_so _ _ h) j other js))
uniques_ascend_from last (x ∷ parts) h (suc i) (suc j) one other lt is js = uniques_ascend_from (Some x.unique) parts (second_so _ _ h) i j one other (omega arith) is js

pub ascend_rest : (x : Part) (parts : List Part) → Ascend (x ∷ parts) → Ascend parts
ascend_rest x parts a i j one other lt is js = a (suc i) (suc j) one other (omega arith) is js

pub uniques_test : (last : Option UniqueModel) (parts : List Part) → ((i : ℕ) (part : Part) → slice_get parts i ≡ Some part → is_above last part.unique ≡ true) → Ascend parts → ascend_after last parts ≡ true
uniques_test last [] above a = refl
uniques_test last (x ∷ parts) above a =
    and_from _ _ (above 0 x refl)
    (uniques_test (Some x.unique) parts (λ i part is. ap is_lt (a 0 (suc i) x part (omega arith) refl is)) (ascend_rest x parts a))

-- ---- the contracts
pub part_when : (many : ℕ) (part : Part) (b : Bool) → part.count ≤ BOUND → IsState part.state part.up_number part.seen → part.row_number ≤ part.count → (part.row_number ≡ 0 → part.subjects ≡ []) → b ≡ ascend_from 0 many part.subjects → (b ≡ true) ↔ IsPart many part
part_when many part b count state row no_row is = (
  λ h. record {
    count = count;
    state = state;
    row_number = row;
    no_row = no_row;
    ascending = all_ascend 0 many part.subjects (sym is ∙ h);
    below = all_below 0 many part.subjects (sym is ∙ h);
  },
  λ p. is ∙ test_of 0 many part.subjects (λ _ _ _. omega arith) p.below p.ascending,
)

pub parts_when : (parts : List Part) (b : Bool) → length parts ≤ most_uniques → ((i : ℕ) (part : Part) → slice_get parts i ≡ Some part → IsPart (length parts) part) → b ≡ ascend_after None parts → (b ≡ true) ↔ AreParts parts
parts_when parts b few each is = (
  λ h. record { few = few; each = each; ascending = uniques_ascend_from None parts (sym is ∙ h) },
  λ p. is ∙ uniques_test None parts (λ _ _ _. refl) p.ascending,
)

-- ---- a walk along all parts
pub all_so_far : (parts : List Part) (P : Part → Type 0) (n : ℕ) (here : Part) → ((i : ℕ) (part : Part) → i < n → slice_get parts i ≡ Some part → P part) → slice_get parts n ≡ Some here → P here → (i : ℕ) (part : Part) → i < n + 1 → slice_get parts i ≡ Some part → P part
all_so_far parts P n here before at holds i part lt is = elim (split_lt i n lt) [
  | inl less ↦ before i part less is
  | inr same ↦ subst P (same_Some here part (sym at ∙ ap (slice_get parts) (sym same) ∙ is)) holds
]
  where
    split_lt : (i n : ℕ) → i < n + 1 → (i < n) ⊎ (i ≡ n)
    split_lt zero zero lt = inr refl
    split_lt zero (suc n) lt = inl (omega arith)
    split_lt (suc i) zero lt = absurd (omega arith)
    split_lt (suc i) (suc n) lt = elim (split_lt i n (omega arith)) [ inl less ↦ inl (omega arith) | inr same ↦ inr (ap suc same) ]
