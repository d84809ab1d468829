-- How a map from addresses to their uses is seen as a finite map, and what one use more or less makes of it.
use Rattle.std.proofs.Common.{◌≡◌, ℕ, ◌+◌, ◌-◌, ◌≤◌, ◌<◌, Bool, true, false, cond, ◌||◌, List, [], ◌∷◌, length, if◌then◌else◌, Option, Some, None, is_some, nat_eq, refl, sym, ap, ◌∙◌, true≢false, arith}
use Rattle.std.proofs.lemmas.Bool.{lt-ltb, le-ltb}
use Rattle.std.specs.Ordering.{is_eq, eq_by_cmp}
use Rattle.std.specs.Cmp.Lexicographic.{pointwise}
use Rattle.std.specs.List.{AllByRecursion, IsDistinct, list_any, fold}
use Rattle.std.specs.Map.{keys_of, lookup}
use Rattle.std.specs.FinMap as map
use Rattle.std.specs.Cmp.{both_ways}
use Rattle.ak_address.specs.Keys.{address_key}
use Rattle.ak_address.specs.Unique.{AddressModel, address_cmp}
use Rattle.ak_address.specs.Distinct.{distinct}
use Rattle.ak_address.proofs.KeyLaws.{address_keys}
use Rattle.ak_address.proofs.OrderLemmas.{address_total, address_exact, tied_is, tied_self}
use Rattle.ak_converge.specs.Tally.{Uses, uses_or_none, uses_at, with_use, without_use, uses_of}

-- ---- keys
abbrev pub key_eq : AddressModel → AddressModel → Bool
key_eq a b = pointwise nat_eq (address_key a) (address_key b)

abbrev pub tied : AddressModel → AddressModel → Bool
tied a b = eq_by_cmp address_cmp a b

is_tied : (a b : AddressModel) → a ≡ b → tied a b ≡ true
is_tied a b same = sym (ap (tied a) same) ∙ tied_self a

tied_back : (a b : AddressModel) → tied a b ≡ tied b a
tied_back a b = both_ways (tied a b) (tied b a) (λ is. is_tied b a (sym (tied_is a b is))) (λ is. is_tied a b (sym (tied_is b a is)))

pub same_keys : (a b : AddressModel) → key_eq a b ≡ tied a b
same_keys a b = sym (address_keys a b (tied a b) (λ is. tied_is a b is, λ same. is_tied a b same))

-- ---- a list of pairs as a finite map
abbrev pub Counts : Type 0
Counts = List (AddressModel × ℕ)

found : (es : Counts) (q : AddressModel) → map.find address_cmp q es ≡ lookup (key_eq q) es
found [] q = refl
found (e ∷ es) q = λ i. cond (sym (same_keys q e.0) i) (Some e.1) (found es q i)

pub get_uses : (es : Counts) (q : AddressModel) → map.get (map.from_entries {R = address_cmp} es) q ≡ lookup (key_eq q) es
get_uses es q = map.get-from_entries address_total es q ∙ found es q

pub uses_are : (es : Counts) (at : AddressModel) (u : Uses) (o : Option ℕ) → map.from_entries es ≡ u → o ≡ lookup (key_eq at) es → uses_at u at ≡ uses_or_none o
uses_are es at u o is there = ap (λ u. uses_at u at) (sym is) ∙ ap uses_or_none (get_uses es at ∙ sym there)

-- each address once
pub uses_len : (es : Counts) → IsDistinct key_eq (keys_of es) → map.len (map.from_entries {R = address_cmp} es) ≡ length es
unfolding IsDistinct
uses_len [] apart = map.len-empty address_cmp ℕ
uses_len (e ∷ es) apart =
    map.len-insert address_total (map.from_entries es) e.0 e.1
    ∙ ap (λ o. cond (is_some o) (map.len (map.from_entries {R = address_cmp} es)) (map.len (map.from_entries {R = address_cmp} es) + 1)) (get_uses es e.0 ∙ none_there e.0 es apart.0)
    ∙ ap (λ n. n + 1) (uses_len es apart.1)
    ∙ (let one : length es + 1 ≡ length (e ∷ es) = omega arith in one)
  where
    none_there : (at : AddressModel) (es : Counts) → AllByRecursion (λ y. key_eq at y ≡ false) (keys_of es) → lookup (key_eq at) es ≡ None
    none_there at [] all = refl
    none_there at (e ∷ es) all = ap (λ b. cond b (Some e.1) (lookup (key_eq at) es)) all.0 ∙ none_there at es all.1

-- ---- one use more, and one less
abbrev pub IsUpdated : Counts → AddressModel → Option ℕ → Counts → Type 0
IsUpdated es at o fs = (q : AddressModel) → lookup (key_eq q) fs ≡ cond (key_eq at q) o (lookup (key_eq q) es)

same_uses : (u v : Uses) → ((q : AddressModel) → map.get u q ≡ map.get v q) → u ≡ v
same_uses u v is = map.same_map address_total address_exact u v is

is_inserted : (es fs : Counts) (at : AddressModel) (n : ℕ) → IsUpdated es at (Some n) fs → map.from_entries {R = address_cmp} fs ≡ map.insert (map.from_entries es) at n
is_inserted es fs at n is =
    same_uses _ _ (λ q.
    get_uses fs q ∙ is q
    ∙ (λ i. cond ((same_keys at q ∙ tied_back at q) i) (Some n) (sym (get_uses es q) i))
    ∙ sym (map.get-insert address_total (map.from_entries es) at n q))

is_removed : (es fs : Counts) (at : AddressModel) → IsUpdated es at None fs → map.from_entries {R = address_cmp} fs ≡ map.remove (map.from_entries es) at
is_removed es fs at is =
    same_uses _ _ (λ q.
    get_uses fs q ∙ is q
    ∙ (λ i. cond ((same_keys at q ∙ tied_back at q) i) None (sym (get_uses es q) i))
    ∙ sym (map.get-remove address_total (map.from_entries es) at q))

pub entered : (es fs : Counts) (at : AddressModel) (u : Uses) (o : Option ℕ) → map.from_entries es ≡ u → o ≡ lookup (key_eq at) es → IsUpdated es at (Some (uses_or_none o + 1)) fs → map.from_entries fs ≡ with_use u at
entered es fs at u o is there updated =
    is_inserted es fs at (uses_or_none o + 1) updated
    ∙ (λ i. map.insert (is i) at (sym (uses_are es at u o is there) i + 1))

pub left_more : (es fs : Counts) (at : AddressModel) (u : Uses) (n : ℕ) → map.from_entries es ≡ u → Some n ≡ lookup (key_eq at) es → 1 < uses_at u at → IsUpdated es at (Some (n - 1)) fs → map.from_entries fs ≡ without_use u at
left_more es fs at u n is there many updated =
    is_inserted es fs at (n - 1) updated
    ∙ (λ i. map.insert (is i) at (sym (uses_are es at u (Some n) is there) i - 1))
    ∙ sym (ap (λ b. if b then map.insert u at (uses_at u at - 1) else map.remove u at) (lt-ltb 1 (uses_at u at) many))

pub left_last : (es fs : Counts) (at : AddressModel) (u : Uses) → map.from_entries es ≡ u → uses_at u at ≤ 1 → IsUpdated es at None fs → map.from_entries fs ≡ without_use u at
left_last es fs at u is few updated =
    is_removed es fs at updated
    ∙ ap (λ u. map.remove u at) is
    ∙ sym (ap (λ b. if b then map.insert u at (uses_at u at - 1) else map.remove u at) (le-ltb 1 (uses_at u at) few))

-- ---- the uses of a list
pub at_with_use : (u : Uses) (a q : AddressModel) → map.get (with_use u a) q ≡ cond (tied q a) (Some (uses_at u a + 1)) (map.get u q)
at_with_use u a q = map.get-insert address_total u a (uses_at u a + 1) q

same_or_apart : (a b : AddressModel) → (P : Type 0) → (a ≡ b → P) → (tied a b ≡ false → tied b a ≡ false → P) → P
same_or_apart a b P same apart =
    elim (tied a b) as (λ c. tied a b ≡ c → P) [ true ↦ λ is. same (tied_is a b is) | false ↦ λ is. apart is (tied_back b a ∙ is) ] refl

elsewhere : (u : Uses) (a b : AddressModel) → tied b a ≡ false → uses_at (with_use u a) b ≡ uses_at u b
elsewhere u a b apart = ap uses_or_none (at_with_use u a b ∙ ap (λ c. cond c (Some (uses_at u a + 1)) (map.get u b)) apart)

pub uses_swap : (u : Uses) (a b : AddressModel) → with_use (with_use u a) b ≡ with_use (with_use u b) a
uses_swap u a b = same_or_apart a b _ (λ same i. with_use (with_use u (same i)) (sym same i)) (λ ab ba. same_uses _ _ (λ q. at_each q ab ba))
  where
    by_case : (c d : Bool) (m n : ℕ) (o : Option ℕ) → (c ≡ true → d ≡ true → ⊥) → cond c (Some m) (cond d (Some n) o) ≡ cond d (Some n) (cond c (Some m) o)
    by_case true true m n o never = absurd (never refl refl)
    by_case true false m n o never = refl
    by_case false true m n o never = refl
    by_case false false m n o never = refl

    at_each : (q : AddressModel) → tied a b ≡ false → tied b a ≡ false → map.get (with_use (with_use u a) b) q ≡ map.get (with_use (with_use u b) a) q
    at_each q ab ba =
        at_with_use (with_use u a) b q
        ∙ (λ i. cond (tied q b) (Some (elsewhere u a b ba i + 1)) (at_with_use u a q i))
        ∙ by_case (tied q b) (tied q a) (uses_at u b + 1) (uses_at u a + 1) (map.get u q) (λ qb qa. true≢false (sym (is_tied a b (sym (tied_is q a qa) ∙ tied_is q b qb)) ∙ ab))
        ∙ (λ i. cond (tied q a) (Some (sym (elsewhere u b a ab) i + 1)) (sym (at_with_use u b q) i))
        ∙ sym (at_with_use (with_use u b) a q)

pub uses_after : (ads : List AddressModel) (u : Uses) (a : AddressModel) → fold with_use (with_use u a) ads ≡ with_use (fold with_use u ads) a
uses_after [] u a = refl
uses_after (b ∷ ads) u a = ap (λ u. fold with_use u ads) (uses_swap u a b) ∙ uses_after ads (with_use u b) a

pub uses_first : (a : AddressModel) (ads : List AddressModel) → uses_of (a ∷ ads) ≡ with_use (uses_of ads) a
uses_first a ads = uses_after ads map.empty a

in_use : (ads : List AddressModel) (q : AddressModel) → map.contains_key (uses_of ads) q ≡ list_any (λ b. is_eq (address_cmp q b)) ads
in_use [] q = ap is_some (map.get-empty address_cmp q)
in_use (a ∷ ads) q =
    ap (λ u. map.contains_key u q) (uses_first a ads)
    ∙ ap is_some (at_with_use (uses_of ads) a q)
    ∙ by_case (tied q a) (uses_at (uses_of ads) a + 1) (map.get (uses_of ads) q)
    ∙ ap (λ b. tied q a || b) (in_use ads q)
  where
    by_case : (c : Bool) (n : ℕ) (o : Option ℕ) → is_some (cond c (Some n) o) ≡ (c || is_some o)
    by_case true n o = refl
    by_case false n o = refl

-- as many addresses are in use as there are different ones
pub uses_distinct : (ads : List AddressModel) → map.len (uses_of ads) ≡ distinct ads
uses_distinct [] = map.len-empty address_cmp ℕ
uses_distinct (a ∷ ads) =
    ap map.len (uses_first a ads)
    ∙ map.len-insert address_total (uses_of ads) a (uses_at (uses_of ads) a + 1)
    ∙ (λ i. cond (in_use ads a i) (uses_distinct ads i) (uses_distinct ads i + 1))

-- one use more adds one at most, to how many there are and to how many uses each address has
pub few_more : (u : Uses) (a : AddressModel) → map.len (with_use u a) ≤ map.len u + 1
few_more u a = by_case (map.contains_key u a) (map.len (with_use u a)) (map.len-insert address_total u a (uses_at u a + 1))
  where
    by_case : (b : Bool) (n : ℕ) → n ≡ cond b (map.len u) (map.len u + 1) → n ≤ map.len u + 1
    by_case true n is = omega arith
    by_case false n is = omega arith

pub often_more : (u : Uses) (a : AddressModel) (most : ℕ) → ((q : AddressModel) → uses_at u q ≤ most) → (q : AddressModel) → uses_at (with_use u a) q ≤ most + 1
often_more u a most all q = by_case (tied q a) (map.get (with_use u a) q) (at_with_use u a q)
  where
    by_case : (b : Bool) (o : Option ℕ) → o ≡ cond b (Some (uses_at u a + 1)) (map.get u q) → uses_or_none o ≤ most + 1
    by_case true o is = let here = all a in let e = ap uses_or_none is in omega arith
    by_case false o is = let here = all q in let e = ap uses_or_none is in omega arith
