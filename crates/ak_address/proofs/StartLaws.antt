-- Where the first bytes differ as numbers, the texts stand in the order of these; short texts of one length with the same number
-- are the same.
use Rattle.std.proofs.Common.{◌≡◌, ◌≢◌, ◌+◌, ◌-◌, ◌*◌, ◌%◌, ◌^◌, min, ◌<◌, ◌≤◌, ◌∙◌, ℕ, zero, suc, true, nat_eq, List, [], ◌∷◌, length, get_or, refl, sym, ap, subst, arith, le_refl, le_trans, mul-le-mul_right}
use Rattle.std.proofs.Math.Nat.{mul_left_comm}
use Rattle.std.specs.declared.cmp.Ordering.{Ordering}
use Rattle.std.specs.declared.cmp.Ordering.TheVariants.{Less, Equal, Greater}
use Rattle.std.specs.Cmp.{ranks, nat_cmp_is}
use Rattle.std.specs.Ordering.{MatchOrdering, is_eq, nat_cmp, ordering_then}
use Rattle.std.proofs.lemmas.Bool.{false≢true}
use Rattle.std.specs.Cmp.Lexicographic.{slice_cmp, pointwise, nat_list_eq_equiv}
use Rattle.ak_address.specs.Start.{first_bytes, start_of, IsKept}
use Rattle.std.proofs.lemmas.Map.Lookups.{exact_bytes}

abbrev pub AreBytes : List ℕ → Type 0
AreBytes bytes = (i : ℕ) → get_or bytes i 0 < 256

pub bounded : (n : ℕ) (bytes : List ℕ) → AreBytes bytes → first_bytes n bytes < 256 ^ n
bounded zero bytes are = omega arith
bounded (suc n) bytes are =
    let before = bounded n bytes are in
    let last = are n in
    omega arith

-- another byte fits
power_up : (k n m : ℕ) → n + k ≡ m → 256 ^ n ≤ 256 ^ m
power_up zero n m e =
    let all : n ≡ m = omega arith in
    subst (λ j. 256 ^ n ≤ 256 ^ j) all (le_refl (256 ^ n))
power_up (suc k) n m e =
    let once : 256 ^ n ≤ 256 ^ suc n = omega arith in
    le_trans once (power_up k (suc n) m (omega arith))

pub has_room : (n : ℕ) (bytes : List ℕ) → AreBytes bytes → n < 8 → first_bytes n bytes * 256 + 255 < 2 ^ 64
has_room n bytes are lt =
    let most : 256 ^ n ≤ 256 ^ 7 = power_up (7 - n) n 7 (omega arith) in
    let fits = bounded n bytes are in
    omega arith

of_none : (n : ℕ) → first_bytes n [] ≡ 0
of_none zero = refl
of_none (suc n) =
    let before = of_none n in
    omega arith

times : (x n : ℕ) → x * 256 ^ suc n ≡ 256 * (x * 256 ^ n)
times x n =
    let once : 256 ^ suc n ≡ 256 * 256 ^ n = omega arith in
    ap (λ m. x * m) once ∙ mul_left_comm x 256 (256 ^ n)

of_cons : (n x : ℕ) (bytes : List ℕ) → first_bytes (suc n) (x ∷ bytes) ≡ x * 256 ^ n + first_bytes n bytes
of_cons zero x bytes = omega arith
of_cons (suc n) x bytes =
    let before = of_cons n x bytes in
    omega (arith, before, times x n)

-- of two numbers in two digits the greater first digit decides, and else the second one
lower : (P x y p q : ℕ) → p < P → x < y → x * P + p < y * P + q
lower P x y p q fits lt =
    let times : suc x * P ≤ y * P = mul-le-mul_right P lt in
    omega arith

rest : (P x p q : ℕ) → nat_cmp p q ≡ nat_cmp (x * P + p) (x * P + q)
rest P x p q = nat_cmp_is (x * P + p) (x * P + q) (nat_cmp p q) (shift (nat_cmp p q) (ranks p q))
  where
    shift : (o : Ordering) → MatchOrdering o (p < q) (p ≡ q) (q < p) → MatchOrdering o (x * P + p < x * P + q) (x * P + p ≡ x * P + q) (x * P + q < x * P + p)
    shift Less lt = omega arith
    shift Equal tied = omega arith
    shift Greater gt = omega arith

digits : (P x y p q : ℕ) → p < P → q < P → nat_cmp (x * P + p) (y * P + q) ≡ ordering_then (nat_cmp x y) (nat_cmp p q)
digits P x y p q fits fit = cases (nat_cmp x y) (ranks x y)
  where
    cases : (o : Ordering) → MatchOrdering o (x < y) (x ≡ y) (y < x) → nat_cmp (x * P + p) (y * P + q) ≡ ordering_then o (nat_cmp p q)
    cases Less lt = sym (nat_cmp_is (x * P + p) (y * P + q) Less (lower P x y p q fits lt))
    cases Equal tied = ap (λ z. nat_cmp (x * P + p) (z * P + q)) (sym tied) ∙ sym (rest P x p q)
    cases Greater gt = sym (nat_cmp_is (x * P + p) (y * P + q) Greater (lower P y x q p fit gt))

-- the first of two texts' bytes, and the rest
of_both : (n x y : ℕ) (a b : List ℕ) → AreBytes a → AreBytes b → nat_cmp (first_bytes (suc n) (x ∷ a)) (first_bytes (suc n) (y ∷ b)) ≡ ordering_then (nat_cmp x y) (nat_cmp (first_bytes n a) (first_bytes n b))
of_both n x y a b are_a are_b =
    ap (λ z. nat_cmp z (first_bytes (suc n) (y ∷ b))) (of_cons n x a)
    ∙ ap (nat_cmp (x * 256 ^ n + first_bytes n a)) (of_cons n y b)
    ∙ digits (256 ^ n) x y (first_bytes n a) (first_bytes n b) (bounded n a are_a) (bounded n b are_b)

nat_cmp_same : (n : ℕ) → nat_cmp n n ≡ Equal
nat_cmp_same n = sym (nat_cmp_is n n Equal refl)

then_so : {p q : Ordering} (o : Ordering) → ((p ≢ Equal) → p ≡ q) → (ordering_then o p ≢ Equal) → ordering_then o p ≡ ordering_then o q
then_so Less _ _ = refl
then_so Equal so differ = so differ
then_so Greater _ _ = refl

then_tied : {p q : Ordering} (o : Ordering) → (p ≡ Equal → q ≡ Equal) → ordering_then o p ≡ Equal → ordering_then o q ≡ Equal
then_tied Less _ tie = tie
then_tied Equal so tie = so tie
then_tied Greater _ tie = tie

-- where the first bytes differ as numbers, these tell the order
tells : (n : ℕ) (a b : List ℕ) → AreBytes a → AreBytes b → (nat_cmp (first_bytes n a) (first_bytes n b) ≢ Equal) → nat_cmp (first_bytes n a) (first_bytes n b) ≡ slice_cmp nat_cmp a b
tells zero a b _ _ other = absurd (other refl)
tells (suc n) [] [] _ _ other = absurd (other (nat_cmp_same (first_bytes (suc n) [])))
tells (suc n) [] (y ∷ b) _ _ other = by (nat_cmp (first_bytes (suc n) []) (first_bytes (suc n) (y ∷ b))) (ranks (first_bytes (suc n) []) (first_bytes (suc n) (y ∷ b))) other
  where
    by : (o : Ordering) → MatchOrdering o (first_bytes (suc n) [] < first_bytes (suc n) (y ∷ b)) (first_bytes (suc n) [] ≡ first_bytes (suc n) (y ∷ b)) (first_bytes (suc n) (y ∷ b) < first_bytes (suc n) []) → (o ≢ Equal) → o ≡ Less
    by Less lt _ = refl
    by Equal tied not = absurd (not refl)
    by Greater gt _ = absurd (omega (arith, of_none (suc n)))
tells (suc n) (x ∷ a) [] _ _ other = by (nat_cmp (first_bytes (suc n) (x ∷ a)) (first_bytes (suc n) [])) (ranks (first_bytes (suc n) (x ∷ a)) (first_bytes (suc n) [])) other
  where
    by : (o : Ordering) → MatchOrdering o (first_bytes (suc n) (x ∷ a) < first_bytes (suc n) []) (first_bytes (suc n) (x ∷ a) ≡ first_bytes (suc n) []) (first_bytes (suc n) [] < first_bytes (suc n) (x ∷ a)) → (o ≢ Equal) → o ≡ Greater
    by Less lt _ = absurd (omega (arith, of_none (suc n)))
    by Equal tied not = absurd (not refl)
    by Greater gt _ = refl
tells (suc n) (x ∷ a) (y ∷ b) are_a are_b other =
    let both = of_both n x y a b (λ i. are_a (suc i)) (λ i. are_b (suc i)) in
    both ∙ then_so (nat_cmp x y) (tells n a b (λ i. are_a (suc i)) (λ i. are_b (suc i))) (λ e. other (both ∙ e))

-- texts of one length, no longer than what the number tells, with the same number are the same
same : (n : ℕ) (a b : List ℕ) → AreBytes a → AreBytes b → length a ≤ n → length a ≡ length b → nat_cmp (first_bytes n a) (first_bytes n b) ≡ Equal → slice_cmp nat_cmp a b ≡ Equal
same n [] [] _ _ _ _ _ = refl
same n [] (y ∷ b) _ _ _ long _ = absurd (omega arith)
same n (x ∷ a) [] _ _ _ long _ = absurd (omega arith)
same zero (x ∷ a) (y ∷ b) _ _ short _ _ = absurd (omega arith)
same (suc n) (x ∷ a) (y ∷ b) are_a are_b short long tie =
    then_tied (nat_cmp x y) (same n a b (λ i. are_a (suc i)) (λ i. are_b (suc i)) (omega arith) (omega arith)) (sym (of_both n x y a b (λ i. are_a (suc i)) (λ i. are_b (suc i))) ∙ tie)

then_less : {p q : Ordering} (o : Ordering) → (p ≡ Equal → q ≡ Less) → ordering_then o p ≡ Equal → ordering_then o q ≡ Less
then_less Less _ tie = absurd (false≢true (ap is_eq tie))
then_less Equal so tie = so tie
then_less Greater _ tie = absurd (false≢true (ap is_eq tie))

then_greater : {p q : Ordering} (o : Ordering) → (p ≡ Equal → q ≡ Greater) → ordering_then o p ≡ Equal → ordering_then o q ≡ Greater
then_greater Less _ tie = absurd (false≢true (ap is_eq tie))
then_greater Equal so tie = so tie
then_greater Greater _ tie = absurd (false≢true (ap is_eq tie))

-- where they do not, a text that ends among them comes before a longer one
shorter : (n : ℕ) (a b : List ℕ) → AreBytes a → AreBytes b → length a ≤ n → length a < length b → nat_cmp (first_bytes n a) (first_bytes n b) ≡ Equal → slice_cmp nat_cmp a b ≡ Less
shorter n [] [] _ _ _ less _ = absurd (omega arith)
shorter n [] (y ∷ b) _ _ _ _ _ = refl
shorter n (x ∷ a) [] _ _ _ less _ = absurd (omega arith)
shorter zero (x ∷ a) (y ∷ b) _ _ short _ _ = absurd (omega arith)
shorter (suc n) (x ∷ a) (y ∷ b) are_a are_b short less tie =
    then_less (nat_cmp x y) (shorter n a b (λ i. are_a (suc i)) (λ i. are_b (suc i)) (omega arith) (omega arith)) (sym (of_both n x y a b (λ i. are_a (suc i)) (λ i. are_b (suc i))) ∙ tie)

longer : (n : ℕ) (a b : List ℕ) → AreBytes a → AreBytes b → length b ≤ n → length b < length a → nat_cmp (first_bytes n a) (first_bytes n b) ≡ Equal → slice_cmp nat_cmp a b ≡ Greater
longer n [] [] _ _ _ less _ = absurd (omega arith)
longer n (x ∷ a) [] _ _ _ _ _ = refl
longer n [] (y ∷ b) _ _ _ less _ = absurd (omega arith)
longer zero (x ∷ a) (y ∷ b) _ _ short _ _ = absurd (omega arith)
longer (suc n) (x ∷ a) (y ∷ b) are_a are_b short less tie =
    then_greater (nat_cmp x y) (longer n a b (λ i. are_a (suc i)) (λ i. are_b (suc i)) (omega arith) (omega arith)) (sym (of_both n x y a b (λ i. are_a (suc i)) (λ i. are_b (suc i))) ∙ tie)

-- ---- at a text
is_tie : (m n : ℕ) → m ≡ n → nat_cmp m n ≡ Equal
is_tie m n e = ap (nat_cmp m) (sym e) ∙ nat_cmp_same m

no_tie : (m n : ℕ) → (m ≢ n) → (nat_cmp m n ≢ Equal)
no_tie m n other = by (nat_cmp m n) (ranks m n)
  where
    by : (o : Ordering) → MatchOrdering o (m < n) (m ≡ n) (n < m) → (o ≢ Equal)
    by Less lt e = false≢true (ap is_eq e)
    by Equal tied _ = other tied
    by Greater gt e = false≢true (ap is_eq e)

module _ (a b : List ℕ) (are_a : AreBytes a) (are_b : AreBytes b) where
  by_length : (o : Ordering) → nat_cmp (first_bytes 7 a) (first_bytes 7 b) ≡ Equal → MatchOrdering o (min (length a) 8 < min (length b) 8) (min (length a) 8 ≡ min (length b) 8) (min (length b) 8 < min (length a) 8) → (o ≢ Equal)
      → o ≡ slice_cmp nat_cmp a b
  by_length Less tie lt _ = sym (shorter 7 a b are_a are_b (omega arith) (omega arith) tie)
  by_length Equal tie _ other = absurd (other refl)
  by_length Greater tie gt _ = sym (longer 7 a b are_a are_b (omega arith) (omega arith) tie)

  by_first : (o : Ordering) → o ≡ nat_cmp (first_bytes 7 a) (first_bytes 7 b) → (ordering_then o (nat_cmp (min (length a) 8) (min (length b) 8)) ≢ Equal) → ordering_then o (nat_cmp (min (length a) 8) (min (length b) 8)) ≡ slice_cmp nat_cmp a b
  by_first Less is other = is ∙ tells 7 a b are_a are_b (λ e. false≢true (ap is_eq (is ∙ e)))
  by_first Equal is other = by_length (nat_cmp (min (length a) 8) (min (length b) 8)) (sym is) (ranks (min (length a) 8) (min (length b) 8)) other
  by_first Greater is other = is ∙ tells 7 a b are_a are_b (λ e. false≢true (ap is_eq (is ∙ e)))

  -- a start in its two digits
  two_digits : nat_cmp (first_bytes 7 a * 256 + min (length a) 8) (first_bytes 7 b * 256 + min (length b) 8) ≡ ordering_then (nat_cmp (first_bytes 7 a) (first_bytes 7 b)) (nat_cmp (min (length a) 8) (min (length b) 8))
  two_digits = digits 256 (first_bytes 7 a) (first_bytes 7 b) (min (length a) 8) (min (length b) 8) (omega arith) (omega arith)

-- the starts differ, and so the texts do
pub starts_differ : {m n : ℕ} {a b : List ℕ} → IsKept m a → IsKept n b → (m ≢ n) → nat_cmp m n ≡ slice_cmp nat_cmp a b
unfolding start_of
starts_differ {m} {n} {a} {b} at_a at_b other =
    let first : m ≡ first_bytes 7 a * 256 + min (length a) 8 = at_a.told in
    let second : n ≡ first_bytes 7 b * 256 + min (length b) 8 = at_b.told in
    let both : nat_cmp m n ≡ ordering_then (nat_cmp (first_bytes 7 a) (first_bytes 7 b)) (nat_cmp (min (length a) 8) (min (length b) 8)) = (λ i. nat_cmp (first i) (second i)) ∙ two_digits a b at_a.are_bytes at_b.are_bytes in
    both ∙ by_first a b at_a.are_bytes at_b.are_bytes (nat_cmp (first_bytes 7 a) (first_bytes 7 b)) refl (λ e. no_tie m n other (both ∙ e))

-- a start says whether it tells all
pub start_counts : {m : ℕ} {a : List ℕ} → IsKept m a → m % 256 ≡ min (length a) 8
unfolding start_of
start_counts {m} {a} at_a =
    let first : m ≡ first_bytes 7 a * 256 + min (length a) 8 = at_a.told in
    omega arith

-- the starts are the same, and tell all
pub starts_tell_all : {m n : ℕ} {a b : List ℕ} → IsKept m a → IsKept n b → length a ≤ 7 → m ≡ n → slice_cmp nat_cmp a b ≡ Equal
unfolding start_of
starts_tell_all {m} {n} {a} {b} at_a at_b short tied =
    let first : m ≡ first_bytes 7 a * 256 + min (length a) 8 = at_a.told in
    let second : n ≡ first_bytes 7 b * 256 + min (length b) 8 = at_b.told in
    let alike : first_bytes 7 a ≡ first_bytes 7 b = omega arith in
    let long : length a ≡ length b = omega arith in
    same 7 a b at_a.are_bytes at_b.are_bytes short long (is_tie (first_bytes 7 a) (first_bytes 7 b) alike)

pub starts_are_same : {m n : ℕ} {a b : List ℕ} → IsKept m a → IsKept n b → length a ≤ 7 → m ≡ n → a ≡ b
starts_are_same {m} {n} {a} {b} at_a at_b short tied = exact_bytes a b (starts_tell_all at_a at_b short tied)

pub pointwise_same : (a b : List ℕ) → a ≡ b → true ≡ pointwise nat_eq a b
pointwise_same a b e = sym (ap (pointwise nat_eq a) (sym e) ∙ nat_list_eq_equiv.refl a)
