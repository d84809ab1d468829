-- Which observers report a process, and which processes are reported.
use Rattle.std.proofs.Common.{◌≡◌, ℕ, zero, suc, ◌+◌, ◌≤◌, Bool, true, false, ◌||◌, ◌&&◌, cond, if◌then◌else◌, nat_lt, IsTrue, ◌↔◌, List, [], ◌∷◌, drop, slice_get, Option, Some, None, is_some, refl, sym, ap, ◌∙◌, arith, true≢false}
use Rattle.std.proofs.lemmas.Bool.{leb-true, le-ltb}
use Rattle.std.proofs.Math.ListN.{drop_of_length-le}
use Rattle.std.proofs.lemmas.Option.{same_Some}
use Rattle.std.specs.List.{list_any}
use Rattle.std.specs.Prelude as list
use Rattle.std.specs.Ordering.{eq_by_cmp}
use Rattle.std.specs.FinMap as map
use Rattle.ak_address.specs.Unique.{UniqueModel, unique_cmp}
use Rattle.ak_address.specs.Table.{value_with}
use Rattle.ak_address.specs.Uniques.{UniqueSet, no_one, has, with_one, those, in_order, how_many}
use Rattle.ak_address.proofs.TableLaws.{key_itself, same_key, same_table, get-insert}
use Rattle.ak_address.proofs.UniquesLaws.{has-no_one, has-with_one, has-those, has_at, index_of_has, same_uniques, length-in_order}
use Rattle.ak_member.specs.View.{Row, RowTable, later_row}
use Rattle.ak_reach.specs.Reach.{with_row, is_as_new, row_has, reported, IsReported}
use Rattle.ak_reach.specs.Walk.{reports, with_reported, with_all_reported}

-- ---- a row that is there
pub insert_present : {X : Type 0} (m : map.FinMap unique_cmp X) (k : UniqueModel) (v : X) → map.get m k ≡ Some v → map.insert m k v ≡ m
insert_present m k v is = same_table (map.insert m k v) m (λ q. get-insert m k v q ∙ by_key q (eq_by_cmp unique_cmp q k) refl)
  where
    by_key : (q : UniqueModel) (b : Bool) → eq_by_cmp unique_cmp q k ≡ b → cond b (Some v) (map.get m q) ≡ map.get m q
    by_key q true tied = sym is ∙ ap (map.get m) (sym (same_key q k tied))
    by_key q false tied = refl

-- a row with the same number or a greater one stays
pub row_stays : (rows : RowTable) (observer : UniqueModel) (row : Row) → is_as_new (map.get rows observer) row.number ≡ true → with_row rows observer row ≡ rows
row_stays rows observer row new = by_row (map.get rows observer) refl new
  where
    by_row : (o : Option Row) → map.get rows observer ≡ o → is_as_new o row.number ≡ true → map.insert rows observer (value_with later_row o row) ≡ rows
    by_row None is new = absurd (true≢false (sym new))
    by_row (Some own) is new =
        ap (λ b. map.insert rows observer (if b then row else own)) (stays own new)
        ∙ insert_present rows observer own is
      where
        stays : (own : Row) → is_as_new (Some own) row.number ≡ true → nat_lt own.number row.number ≡ false
        stays own new = let le = leb-true row.number own.number new in le-ltb own.number row.number le

-- ---- walks
next : (n : ℕ) → suc n ≡ n + 1
next n = omega arith

any_from : (rows : RowTable) (subject : UniqueModel) (xs : List UniqueModel) (i : ℕ) →
    list_any (λ observer. row_has (map.get rows observer) subject) (drop i xs)
    ≡ (reports rows subject (slice_get xs i) || list_any (λ observer. row_has (map.get rows observer) subject) (drop (suc i) xs))
any_from rows subject [] zero = refl
any_from rows subject [] (suc i) = refl
any_from rows subject (x ∷ xs) zero = refl
any_from rows subject (x ∷ xs) (suc i) = any_from rows subject xs i

any_left : (rows : RowTable) (subject : UniqueModel) (xs : List UniqueModel) (i : ℕ) →
    list_any (λ observer. row_has (map.get rows observer) subject) (drop i xs)
    ≡ (reports rows subject (slice_get xs i) || list_any (λ observer. row_has (map.get rows observer) subject) (drop (i + 1) xs))
any_left rows subject xs i =
    any_from rows subject xs i
    ∙ ap (λ n. reports rows subject (slice_get xs i) || list_any (λ observer. row_has (map.get rows observer) subject) (drop n xs)) (next i)

pub any_found : (rows : RowTable) (subject : UniqueModel) (xs : List UniqueModel) (i : ℕ) → reports rows subject (slice_get xs i) ≡ true
    → list_any (λ observer. row_has (map.get rows observer) subject) (drop i xs) ≡ true
any_found rows subject xs i is = any_left rows subject xs i ∙ ap (λ b. b || list_any (λ observer. row_has (map.get rows observer) subject) (drop (i + 1) xs)) is

pub any_passed : (rows : RowTable) (subject : UniqueModel) (xs : List UniqueModel) (i : ℕ) → reports rows subject (slice_get xs i) ≡ false
    → list_any (λ observer. row_has (map.get rows observer) subject) (drop (i + 1) xs) ≡ list_any (λ observer. row_has (map.get rows observer) subject) (drop i xs)
any_passed rows subject xs i is = sym (any_left rows subject xs i ∙ ap (λ b. b || list_any (λ observer. row_has (map.get rows observer) subject) (drop (i + 1) xs)) is)

with_from : (test : UniqueModel → Bool) (xs : List UniqueModel) (i : ℕ) (them : UniqueSet) →
    with_all_reported test (drop i xs) them ≡ with_all_reported test (drop (suc i) xs) (with_reported test (slice_get xs i) them)
with_from test [] zero them = refl
with_from test [] (suc i) them = refl
with_from test (x ∷ xs) zero them = refl
with_from test (x ∷ xs) (suc i) them = with_from test xs i them

pub with_left : (test : UniqueModel → Bool) (xs : List UniqueModel) (i : ℕ) (them : UniqueSet) →
    with_all_reported test (drop i xs) them ≡ with_all_reported test (drop (i + 1) xs) (with_reported test (slice_get xs i) them)
with_left test xs i them =
    with_from test xs i them
    ∙ ap (λ n. with_all_reported test (drop n xs) (with_reported test (slice_get xs i) them)) (next i)

-- past the last index nobody is left
pub none_left : (s : UniqueSet) (index : ℕ) → how_many s ≤ index → drop index (in_order s) ≡ []
none_left s index past = drop_of_length-le (in_order s) (omega (arith, length-in_order s))

-- ---- who is reported
module _ {X : Type 0} (p : X → Bool) where
  pub index_of_any : (xs : List X) → list_any p xs ≡ true → (i : ℕ) × (x : X) × (slice_get xs i ≡ Some x) × (p x ≡ true)
  index_of_any [] is = absurd (true≢false (sym is))
  index_of_any (x ∷ xs) is = by_head (p x) refl (index_of_any xs) is
    where
      by_head : (b : Bool) → p x ≡ b → (list_any p xs ≡ true → (i : ℕ) × (y : X) × (slice_get xs i ≡ Some y) × (p y ≡ true))
          → (b || list_any p xs) ≡ true → (i : ℕ) × (y : X) × (slice_get (x ∷ xs) i ≡ Some y) × (p y ≡ true)
      by_head true here later is = (0, x, refl, here)
      by_head false here later is = let rest = later is in (suc rest.0, rest.1, rest.2, rest.3)

  pub any_at : (xs : List X) (i : ℕ) (x : X) → slice_get xs i ≡ Some x → p x ≡ true → list_any p xs ≡ true
  any_at [] i x at is = absurd (true≢false (sym (ap is_some at)))
  any_at (y ∷ xs) zero x at is = ap (λ b. b || list_any p xs) (ap p (same_Some y x at) ∙ is)
  any_at (y ∷ xs) (suc i) x at is = by_head (p y) (any_at xs i x at is)
    where
      by_head : (b : Bool) → list_any p xs ≡ true → (b || list_any p xs) ≡ true
      by_head true rest = refl
      by_head false rest = rest

row_of : (subject : UniqueModel) (o : Option Row) → row_has o subject ≡ true → (row : Row) × (o ≡ Some row) × (has row.subjects subject ≡ true)
row_of subject None is = absurd (true≢false (sym is))
row_of subject (Some row) is = (row, refl, is)

pub reported_means : (rows : RowTable) (observers : UniqueSet) (subject : UniqueModel) → IsTrue (reported rows observers subject) ↔ IsReported rows observers subject
reported_means rows observers subject = (there, back)
  where
    test : UniqueModel → Bool
    test observer = row_has (map.get rows observer) subject

    there : IsTrue (reported rows observers subject) → IsReported rows observers subject
    there is =
        let at = index_of_any test (in_order observers) is in
        let row = row_of subject (map.get rows at.1) at.3 in
        record { observer = at.1; row = row.0; observes = has_at observers at.0 at.1 at.2; has_row = row.1; in_row = row.2 }

    back : IsReported rows observers subject → IsTrue (reported rows observers subject)
    back r =
        let at = index_of_has observers r.observer r.observes in
        any_at test (in_order observers) at.0 r.observer at.1 (ap (λ o. row_has o subject) r.has_row ∙ r.in_row)

-- ---- those of a set that pass a test
abbrev pub is_among : UniqueModel → List UniqueModel → Bool
is_among q xs = list_any (eq_by_cmp unique_cmp q) xs

one_more : (test : UniqueModel → Bool) (x q : UniqueModel) (b among : Bool) (them : UniqueSet) → test x ≡ b
    → (has (if b then with_one them x else them) q || (among && test q)) ≡ (has them q || ((eq_by_cmp unique_cmp q x || among) && test q))
one_more test x q true among them is =
    ap (λ b. b || (among && test q)) (has-with_one them x q) ∙ by_key (eq_by_cmp unique_cmp q x) refl
  where
    by_key : (tied : Bool) → eq_by_cmp unique_cmp q x ≡ tied → ((tied || has them q) || (among && test q)) ≡ (has them q || ((tied || among) && test q))
    by_key true tied = sym (ap (λ b. has them q || b) (ap test (same_key q x tied) ∙ is) ∙ or_true (has them q))
      where
        or_true : (b : Bool) → (b || true) ≡ true
        or_true true = refl
        or_true false = refl
    by_key false tied = refl
one_more test x q false among them is = ap (λ b. has them q || b) (by_key (eq_by_cmp unique_cmp q x) refl)
  where
    by_key : (tied : Bool) → eq_by_cmp unique_cmp q x ≡ tied → (among && test q) ≡ ((tied || among) && test q)
    by_key true tied = ap (λ b. among && b) (ap test (same_key q x tied) ∙ is) ∙ and_false among ∙ sym (ap test (same_key q x tied) ∙ is)
      where
        and_false : (b : Bool) → (b && false) ≡ false
        and_false true = refl
        and_false false = refl
    by_key false tied = refl

pub has-with_all : (test : UniqueModel → Bool) (xs : List UniqueModel) (them : UniqueSet) (q : UniqueModel) → has (with_all_reported test xs them) q ≡ (has them q || (is_among q xs && test q))
has-with_all test [] them q = nobody (has them q)
  where
    nobody : (b : Bool) → b ≡ (b || false)
    nobody true = refl
    nobody false = refl
has-with_all test (x ∷ xs) them q = has-with_all test xs (with_reported test (Some x) them) q ∙ one_more test x q (test x) (is_among q xs) them refl

-- a set has those that its indices have
among_is_has : (s : UniqueSet) (q : UniqueModel) → is_among q (in_order s) ≡ has s q
among_is_has s q = by_has (has s q) refl
  where
    by_has : (b : Bool) → has s q ≡ b → is_among q (in_order s) ≡ b
    by_has true is = let at = index_of_has s q is in any_at (eq_by_cmp unique_cmp q) (in_order s) at.0 q at.1 (key_itself q)
    by_has false is = by_among (is_among q (in_order s)) refl
      where
        by_among : (b : Bool) → is_among q (in_order s) ≡ b → b ≡ false
        by_among true among =
            let at = index_of_any (eq_by_cmp unique_cmp q) (in_order s) among in
            absurd (true≢false (sym (ap (has s) (same_key q at.1 at.3) ∙ has_at s at.0 at.1 at.2) ∙ is))
        by_among false among = refl

pub all_with : (test : UniqueModel → Bool) (s : UniqueSet) → with_all_reported test (in_order s) no_one ≡ those s test
all_with test s = same_uniques (with_all_reported test (in_order s) no_one) (those s test) (λ q.
    has-with_all test (in_order s) no_one q
    ∙ ap (λ b. b || (is_among q (in_order s) && test q)) (has-no_one q)
    ∙ ap (λ b. b && test q) (among_is_has s q)
    ∙ sym (has-those s test q))
