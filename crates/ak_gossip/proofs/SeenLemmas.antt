-- What is added to those that have seen a gossip, and how many processes two views know together.
use Rattle.std.proofs.Common.{◌≡◌, ℕ, zero, suc, ◌+◌, ◌<◌, ◌≤◌, Bool, true, false, ◌||◌, ◌&&◌, if◌then◌else◌, List, [], ◌∷◌, length, take, Some, None, is_some, slice_get, cond, refl, sym, ap, ◌∙◌, subst, arith, true≢false}
use Rattle.std.proofs.lemmas.Option.{get_or_from_slice_get, slice_get_within}
use Rattle.std.proofs.lemmas.List.{take_all}
use Rattle.std.proofs.lemmas.List.Folds.{list_any_more, list_any_at}
use Rattle.std.proofs.lemmas.Bool.{le-ltb}
use Rattle.std.specs.List.{list_any}
use Rattle.std.specs.Ordering.{eq_by_cmp}
use Rattle.std.specs.FinMap as map
use Rattle.ak_address.specs.Unique.{UniqueModel, unique_cmp}
use Rattle.ak_address.specs.Uniques.{UniqueSet, has, with_one, those, union, in_order, how_many}
use Rattle.ak_address.specs.Table.{with_pairs, merged_tables}
use Rattle.ak_address.proofs.OrderLemmas.{unique_total}
use Rattle.ak_address.proofs.TableLaws.{key_itself, same_key}
use Rattle.ak_address.proofs.UniquesLaws.{has-with_one, has-those, has-union, same_uniques, with_present, has_at, index_of_has, length-in_order}
use Rattle.ak_member.specs.Standing.{Standings, is_member}
use Rattle.ak_clock.specs.Version.{Counts, count, IsBelow}
use Rattle.ak_gossip.specs.GossipContracts.{excess_of, foreign_of}
use Rattle.ak_gossip.specs.Gossip.{GossipState, most_uniques, seen_by}

-- whether a process is among these
abbrev pub is_among : UniqueModel → List UniqueModel → Bool
is_among q = list_any (eq_by_cmp unique_cmp q)

-- after the first few of the others, those are added that pass the test
pub record HasAdded (before : UniqueSet) (some : List UniqueModel) (test : UniqueModel → Bool) (seen : UniqueSet) : Type 0 where
  pub has_each : (q : UniqueModel) → has seen q ≡ (has before q || (is_among q some && test q))

nobody : (b : Bool) → b ≡ (b || false)
nobody true = refl
nobody false = refl

pub added_none : (before : UniqueSet) (test : UniqueModel → Bool) → HasAdded before [] test before
added_none before test = record { has_each = λ q. nobody (has before q) }

-- one is added
added : (before among tied passes : Bool) → (tied ≡ true → passes ≡ true) → (tied || (before || (among && passes))) ≡ (before || ((among || tied) && passes))
added true true true passes is = refl
added true true false passes is = refl
added true false true passes is = refl
added true false false passes is = refl
added false true true passes is = sym (is refl)
added false true false passes is = refl
added false false true passes is = sym (is refl)
added false false false passes is = refl

-- another is not
passed : (before among tied passes : Bool) → (tied ≡ true → passes ≡ false) → (before || (among && passes)) ≡ (before || ((among || tied) && passes))
passed true among tied passes is = refl
passed false true tied passes is = refl
passed false false true passes is = sym (is refl)
passed false false false passes is = refl

among_more : (q k : UniqueModel) (some : List UniqueModel) (i : ℕ) → slice_get some i ≡ Some k → is_among q (take (i + 1) some) ≡ (is_among q (take i some) || eq_by_cmp unique_cmp q k)
among_more q k some i at =
    list_any_more (eq_by_cmp unique_cmp q) some i k (slice_get_within some i k at)
    ∙ ap (λ x. is_among q (take i some) || eq_by_cmp unique_cmp q x) (get_or_from_slice_get some i k k at)

module _ (before others seen : UniqueSet) (test : UniqueModel → Bool) (i : ℕ) (k : UniqueModel) (h : HasAdded before (take i (in_order others)) test seen) (at : slice_get (in_order others) i ≡ Some k) where
  more_at : (q : UniqueModel) → (before_q : Bool) → (before_q || ((is_among q (take i (in_order others)) || eq_by_cmp unique_cmp q k) && test q)) ≡ (before_q || (is_among q (take (i + 1) (in_order others)) && test q))
  more_at q b = ap (λ a. b || (a && test q)) (sym (among_more q k (in_order others) i at))

  alike : (q : UniqueModel) (b : Bool) → test k ≡ b → eq_by_cmp unique_cmp q k ≡ true → test q ≡ b
  alike q b is tied = ap test (same_key q k tied) ∙ is

  one_added : test k ≡ true → HasAdded before (take (i + 1) (in_order others)) test (with_one seen k)
  one_added is = record {
    has_each = λ q.
        has-with_one seen k q
        ∙ ap (λ a. eq_by_cmp unique_cmp q k || a) (h.has_each q)
        ∙ added (has before q) (is_among q (take i (in_order others))) (eq_by_cmp unique_cmp q k) (test q) (alike q true is)
        ∙ more_at q (has before q);
  }

  other_passed : test k ≡ false → HasAdded before (take (i + 1) (in_order others)) test seen
  other_passed is = record {
    has_each = λ q.
        h.has_each q
        ∙ passed (has before q) (is_among q (take i (in_order others))) (eq_by_cmp unique_cmp q k) (test q) (alike q false is)
        ∙ more_at q (has before q);
  }

  by_case : (b : Bool) → test k ≡ b → HasAdded before (take (i + 1) (in_order others)) test (if b then with_one seen k else seen)
  by_case true is = one_added is
  by_case false is = other_passed is

  pub added_more : (next : UniqueSet) → next ≡ (if test k then with_one seen k else seen) → HasAdded before (take (i + 1) (in_order others)) test next
  added_more next is = subst (HasAdded before (take (i + 1) (in_order others)) test) (sym is) (by_case (test k) refl)

-- a set has those that its indices have
among_has : (s : UniqueSet) (q : UniqueModel) → has s q ≡ true → is_among q (in_order s) ≡ true
among_has s q is =
    let there = index_of_has s q is in
    list_any_at (eq_by_cmp unique_cmp q) (in_order s) there.0 q (slice_get_within (in_order s) there.0 q there.1)
    (ap (eq_by_cmp unique_cmp q) (get_or_from_slice_get (in_order s) there.0 q q there.1) ∙ key_itself q)

head_or_rest : (s : UniqueSet) (q x : UniqueModel) (b : Bool) → eq_by_cmp unique_cmp q x ≡ b → has s x ≡ true → (eq_by_cmp unique_cmp q x ≡ false → has s q ≡ true) → has s q ≡ true
head_or_rest s q x true tied here rest = ap (has s) (same_key q x tied) ∙ here
head_or_rest s q x false apart here rest = rest apart

found : (s : UniqueSet) (q : UniqueModel) (some : List UniqueModel) → ((i : ℕ) (x : UniqueModel) → slice_get some i ≡ Some x → has s x ≡ true) → is_among q some ≡ true → has s q ≡ true
found s q [] each is = absurd (true≢false (sym is))
found s q (x ∷ some) each is =
    head_or_rest s q x (eq_by_cmp unique_cmp q x) refl (each 0 x refl)
    (λ apart. found s q some (λ i y at. each (suc i) y at) (sym (ap (λ b. b || is_among q some) apart) ∙ is))

has_from_among : (s : UniqueSet) (q : UniqueModel) → is_among q (in_order s) ≡ true → has s q ≡ true
has_from_among s q is = found s q (in_order s) (λ i x at. has_at s i x at) is

among_is_has : (s : UniqueSet) (q : UniqueModel) → is_among q (in_order s) ≡ has s q
among_is_has s q = by_cases (is_among q (in_order s)) (has s q) refl refl
  where
    by_cases : (a b : Bool) → is_among q (in_order s) ≡ a → has s q ≡ b → is_among q (in_order s) ≡ has s q
    by_cases true b is are = is ∙ sym (has_from_among s q is)
    by_cases false true is are = among_has s q are ∙ sym are
    by_cases false false is are = is ∙ sym are

-- after all of the others
pub added_all : (before others seen : UniqueSet) (test : UniqueModel → Bool) → HasAdded before (in_order others) test seen → seen ≡ union before (those others test)
added_all before others seen test h = same_uniques seen (union before (those others test)) (λ q.
    h.has_each q
    ∙ ap (λ a. has before q || (a && test q)) (among_is_has others q)
    ∙ ap (λ a. has before q || a) (sym (has-those others test q))
    ∙ sym (has-union before (those others test) q))

-- where all others are there already, none is added
pub among_all : (seen others : UniqueSet) → ((who : UniqueModel) → has others who ≡ true → has seen who ≡ true) → (test : UniqueModel → Bool) → seen ≡ union seen (those others test)
among_all seen others all test = same_uniques seen (union seen (those others test)) (λ q.
    nothing_new (has seen q) (has others q) (test q) (all q) ∙ ap (λ a. has seen q || a) (sym (has-those others test q)) ∙ sym (has-union seen (those others test) q))
  where
    nothing_new : (there other passes : Bool) → (other ≡ true → there ≡ true) → there ≡ (there || (other && passes))
    nothing_new true other passes is = refl
    nothing_new false true passes is = absurd (true≢false (sym (is refl)))
    nothing_new false false passes is = refl

-- ---- indices of a set
pub not_none : {X : Type 0} (xs : List X) (i : ℕ) → i < length xs → slice_get xs i ≡ None → ⊥
not_none [] i lt none = omega arith
not_none (x ∷ xs) zero lt none = true≢false (ap is_some none)
not_none (x ∷ xs) (suc i) lt none = not_none xs i (omega arith) none

pub take_indices : (s : UniqueSet) (n : ℕ) → how_many s ≤ n → take n (in_order s) ≡ in_order s
take_indices s n le = take_all n (in_order s) (omega (arith, length-in_order s))

-- ---- how many two tables have together
one_row : (b : Bool) (n m : ℕ) → n ≤ m → cond b n (n + 1) ≤ m + 1
one_row true n m le = omega arith
one_row false n m le = omega arith

pub len-insert-most : {X : Type 0} (m : map.FinMap unique_cmp X) (k : UniqueModel) (v : X) → map.len (map.insert m k v) ≤ map.len m + 1
len-insert-most m k v = subst (λ n. n ≤ map.len m + 1) (sym (map.len-insert unique_total m k v)) (one_row (map.contains_key m k) (map.len m) (map.len m) (omega arith))

len-with_pairs : {X : Type 0} (f : X → X → X) (m : map.FinMap unique_cmp X) (es : List (UniqueModel × X)) → map.len (with_pairs f m es) ≤ map.len m + length es
len-with_pairs f m [] = omega arith
len-with_pairs {X} f m (e ∷ es) =
    let n : map.FinMap unique_cmp X = with_pairs f m es in
    let grown : map.len (with_pairs f m (e ∷ es)) ≤ map.len m + length es + 1 =
    subst (λ k. k ≤ map.len m + length es + 1) (sym (map.len-insert unique_total n e.0 _)) (one_row (map.contains_key n e.0) (map.len n) (map.len m + length es) (len-with_pairs f m es)) in
    omega (arith, grown)

pub len-merged_tables-most : {X : Type 0} (f : X → X → X) (m n : map.FinMap unique_cmp X) → map.len (merged_tables f m n) ≤ map.len m + map.len n
unfolding merged_tables
len-merged_tables-most f m n = omega (arith, len-with_pairs f m (map.entries n), map.len-entries n)

-- few enough are no excess
pub few_of : (n : ℕ) → n ≤ most_uniques → None ≡ excess_of n
few_of n few = sym (ap (λ b. if b then Some n else None) (le-ltb _ _ few))

-- a gossip whose version is covered counts no more of anybody
module _ (v w : Counts) (me : UniqueModel) where
  not_foreign : count w me ≤ count v me → None ≡ foreign_of (count v me) (count w me)
  not_foreign le = sym (ap (λ b. if b then Some (count v me, count w me) else None) (le-ltb _ _ le))

  pub not_foreign_same : v ≡ w → None ≡ foreign_of (count v me) (count w me)
  not_foreign_same same = let counts : count v me ≡ count w me = ap (λ (x : Counts). count x me) same in not_foreign (omega (arith, counts))

  pub not_foreign_after : IsBelow w v → None ≡ foreign_of (count v me) (count w me)
  not_foreign_after below = not_foreign (below.0 me)

-- ---- nobody is added
-- who is there already is not added
pub there_already : (s : UniqueSet) (k : UniqueModel) (member : Bool) → has s k ≡ true → s ≡ (if member then with_one s k else s)
there_already s k true there = with_present s k there
there_already s k false there = refl

seen_by_case : (me : UniqueModel) (g : GossipState) (member : Bool) → record g { seen = if member then with_one g.seen me else g.seen } ≡ (if member then record g { seen = with_one g.seen me } else g)
seen_by_case me g true = refl
seen_by_case me g false = refl

-- what a node has seen, by those that have seen it then
pub seen_by_as : (me : UniqueModel) (g : GossipState) (s : Standings) (seen before : UniqueSet) → s ≡ g.view.standings → before ≡ g.seen → seen ≡ (if is_member s me then with_one before me else before)
    → record g { seen = seen } ≡ seen_by me g
seen_by_as me g s seen before a b is =
    ap (λ (them : UniqueSet). record g { seen = them }) (is ∙ (λ i. if is_member (a i) me then with_one (b i) me else (b i)))
    ∙ seen_by_case me g (is_member g.view.standings me)
