-- Which processes have counters, which a set made of a list has, and walks that make them one process at a time.
use Rattle.std.proofs.Common.{◌≡◌, ℕ, zero, suc, ◌+◌, ◌≤◌, min, Bool, true, false, cond, ◌&&◌, ◌||◌, T, List, [], ◌∷◌, map, length, take, Option, Some, None, is_some, Contains, refl, sym, ap, ◌∙◌, subst, arith, true≢false}
use Rattle.std.specs.List.{fold, filter, list_any}
use Rattle.std.specs.Ordering.{eq_by_cmp}
use Rattle.std.specs.FinMap as finmap
use Rattle.ak_address.specs.Unique.{UniqueModel, unique_cmp}
use Rattle.ak_address.specs.Uniques.{UniqueSet, no_one, has, with_one, how_many, in_order, set_of}
use Rattle.ak_address.specs.Changed.{keys_of}
use Rattle.ak_address.specs.Counters.{Counters, counter, raised, with_each}
use Rattle.ak_address.proofs.OrderLemmas.{unique_total}
use Rattle.ak_address.proofs.Pairs.{first, second, is_equal, below_tied, find_below}
use Rattle.ak_address.proofs.TableLaws.{same_key, key_itself, same_table, get-empty, get-insert}
use Rattle.ak_address.proofs.UniquesLaws.{has-no_one, has-with_one, same_uniques}
use Rattle.ak_address.proofs.ChangedLaws.{contains_key-changed, has-keys_of}

-- ---- who is in a list
abbrev pub among : UniqueModel → List UniqueModel → Bool
among q whos = list_any (eq_by_cmp unique_cmp q) whos

pub among-filter : (p : UniqueModel → Bool) (whos : List UniqueModel) (q : UniqueModel) → among q (filter p whos) ≡ (among q whos && p q)
among-filter p [] q = refl
among-filter p (k ∷ whos) q = by_key (eq_by_cmp unique_cmp q k) refl (p k) refl (p q) refl (among-filter p whos q)
  where
    and_false : (b : Bool) → (b && false) ≡ false
    and_false true = refl
    and_false false = refl

    by_key : (t : Bool) → eq_by_cmp unique_cmp q k ≡ t → (b : Bool) → p k ≡ b → (c : Bool) → p q ≡ c → among q (filter p whos) ≡ (among q whos && p q)
        → among q (cond b (k ∷ filter p whos) (filter p whos)) ≡ ((t || among q whos) && p q)
    by_key true tied true here true there rest = ap (λ t. t || among q (filter p whos)) tied ∙ sym there
    by_key true tied true here false there rest = absurd (true≢false (sym here ∙ ap p (sym (same_key q k tied)) ∙ there))
    by_key true tied false here true there rest = absurd (true≢false (sym there ∙ ap p (same_key q k tied) ∙ here))
    by_key true tied false here false there rest = rest ∙ ap (λ b. among q whos && b) there ∙ and_false (among q whos) ∙ sym there
    by_key false apart true here c there rest = ap (λ t. t || among q (filter p whos)) apart ∙ rest
    by_key false apart false here c there rest = rest

pub among-take : (n : ℕ) (whos : List UniqueModel) (q : UniqueModel) → among q (take n whos) ≡ true → among q whos ≡ true
among-take zero whos q is = absurd (true≢false (sym is))
among-take (suc n) [] q is = is
among-take (suc n) (k ∷ whos) q is = by_key (eq_by_cmp unique_cmp q k) is (λ there. among-take n whos q there)
  where
    by_key : (t : Bool) → (t || among q (take n whos)) ≡ true → (among q (take n whos) ≡ true → among q whos ≡ true) → (t || among q whos) ≡ true
    by_key true is rest = refl
    by_key false is rest = rest is

-- ---- sets of lists
pub has-set_of : (whos : List UniqueModel) (q : UniqueModel) → has (set_of whos) q ≡ among q whos
has-set_of [] q = has-no_one q
has-set_of (k ∷ whos) q = has-with_one (set_of whos) k q ∙ ap (λ b. eq_by_cmp unique_cmp q k || b) (has-set_of whos q)

-- a set has the processes of its list, and no more of them than the list
pub set_of-in_order : (s : UniqueSet) → set_of (in_order s) ≡ s
set_of-in_order s = same_uniques (set_of (in_order s)) s (λ q. has-set_of (in_order s) q ∙ sym (finmap.contains_key-keys s q))

pub how_many-set_of : (whos : List UniqueModel) → how_many (set_of whos) ≤ length whos
how_many-set_of [] = let none = finmap.len-empty unique_cmp (Unit {0}) in omega arith
how_many-set_of (k ∷ whos) = by_presence (has (set_of whos) k) (finmap.len-insert unique_total (set_of whos) k tt) (how_many-set_of whos)
  where
    by_presence : (b : Bool) → how_many (with_one (set_of whos) k) ≡ cond b (how_many (set_of whos)) (how_many (set_of whos) + 1) → how_many (set_of whos) ≤ length whos → how_many (with_one (set_of whos) k) ≤ suc (length whos)
    by_presence true is le = omega arith
    by_presence false is le = omega arith

-- a set that is made one process at a time
pub has-walked : (s : UniqueSet) (whos : List UniqueModel) (q : UniqueModel) → has (fold with_one s whos) q ≡ (has s q || among q whos)
has-walked s [] q = nothing_more (has s q)
  where
    nothing_more : (b : Bool) → b ≡ (b || false)
    nothing_more true = refl
    nothing_more false = refl
has-walked s (k ∷ whos) q =
    has-walked (with_one s k) whos q
    ∙ ap (λ b. b || among q whos) (has-with_one s k q)
    ∙ grouped (eq_by_cmp unique_cmp q k) (has s q) (among q whos)
  where
    grouped : (a b c : Bool) → ((a || b) || c) ≡ (b || (a || c))
    grouped true true c = refl
    grouped true false c = refl
    grouped false b c = refl

pub set_walked : (whos : List UniqueModel) → fold with_one no_one whos ≡ set_of whos
set_walked whos = same_uniques _ _ (λ q. has-walked no_one whos q ∙ ap (λ b. b || among q whos) (has-no_one q) ∙ sym (has-set_of whos q))

-- ---- counters that are raised stand for the same processes
pub raised_same : (most : ℕ) (c : Counters) (q : UniqueModel) → finmap.contains_key (raised most c) q ≡ finmap.contains_key c q
raised_same most c q = contains_key-changed (λ n. min (n + 1) most) c q

-- ---- with a counter for each of some processes
pub get-with_each : (kept : Counters) (whos : List UniqueModel) (c : Counters) (q : UniqueModel) → finmap.get (with_each kept whos c) q ≡ cond (among q whos) (Some (counter kept q)) (finmap.get c q)
get-with_each kept [] c q = refl
get-with_each kept (k ∷ whos) c q = get-insert (with_each kept whos c) k (counter kept k) q ∙ by_key (eq_by_cmp unique_cmp q k) refl (get-with_each kept whos c q)
  where
    by_key : (t : Bool) → eq_by_cmp unique_cmp q k ≡ t → finmap.get (with_each kept whos c) q ≡ cond (among q whos) (Some (counter kept q)) (finmap.get c q) → cond t (Some (counter kept k)) (finmap.get (with_each kept whos c) q) ≡ cond (t || among q whos) (Some (counter kept q)) (finmap.get c q)
    by_key true tied rest = ap (λ u. Some (counter kept u)) (sym (same_key q k tied))
    by_key false apart rest = rest

-- one process at a time
pub each_walked : (kept : Counters) (whos : List UniqueModel) (c : Counters) → fold (λ c who. finmap.insert c who (counter kept who)) c whos ≡ with_each kept whos c
each_walked kept [] c = refl
each_walked kept (k ∷ whos) c =
    each_walked kept whos (finmap.insert c k (counter kept k))
    ∙ same_table _ _ (λ q.
    get-with_each kept whos (finmap.insert c k (counter kept k)) q
    ∙ ap (cond (among q whos) (Some (counter kept q))) (get-insert c k (counter kept k) q)
    ∙ by_key q (eq_by_cmp unique_cmp q k) refl (among q whos)
    ∙ sym (get-with_each kept (k ∷ whos) c q))
  where
    by_key : (q : UniqueModel) (t : Bool) → eq_by_cmp unique_cmp q k ≡ t → (b : Bool)
        → cond b (Some (counter kept q)) (cond t (Some (counter kept k)) (finmap.get c q)) ≡ cond (t || b) (Some (counter kept q)) (finmap.get c q)
    by_key q true tied true = refl
    by_key q true tied false = ap (λ u. Some (counter kept u)) (sym (same_key q k tied))
    by_key q false apart true = refl
    by_key q false apart false = refl

-- and these are the processes that then have one
pub keys-with_each : (kept : Counters) (whos : List UniqueModel) → keys_of (with_each kept whos finmap.empty) ≡ set_of whos
keys-with_each kept whos = same_uniques _ _ (λ q.
    has-keys_of (with_each kept whos finmap.empty) q
    ∙ ap is_some (get-with_each kept whos finmap.empty q ∙ ap (cond (among q whos) (Some (counter kept q))) (get-empty q))
    ∙ there (among q whos) (counter kept q)
    ∙ sym (has-set_of whos q))
  where
    there : (b : Bool) (n : ℕ) → is_some (cond b (Some n) None) ≡ b
    there true n = refl
    there false n = refl

-- ---- lists and sets of processes
in_first : (who : UniqueModel) (rest : List UniqueModel) → Contains (who ∷ rest) who
in_first who rest = (0, omega arith, refl)

in_rest : (k who : UniqueModel) (whos : List UniqueModel) → Contains whos who → Contains (k ∷ whos) who
in_rest k who whos there = (suc there.0, let lt = there.1 in omega arith, there.2)

-- who is among them is in the list
pub contained : (whos : List UniqueModel) (who : UniqueModel) → among who whos ≡ true → Contains whos who
contained [] who is = absurd (true≢false (sym is))
contained (k ∷ whos) who is = by_key (eq_by_cmp unique_cmp who k) refl is (λ there. contained whos who there)
  where
    by_key : (t : Bool) → eq_by_cmp unique_cmp who k ≡ t → (t || among who whos) ≡ true → (among who whos ≡ true → Contains whos who) → Contains (k ∷ whos) who
    by_key true tied is rest = subst (Contains (k ∷ whos)) (sym (same_key who k tied)) (in_first k whos)
    by_key false apart is rest = in_rest k who whos (rest is)

pub is_among : (whos : List UniqueModel) (who : UniqueModel) → Contains whos who → among who whos ≡ true
is_among [] who there = absurd (let lt = there.1 in omega arith)
is_among (k ∷ whos) who (zero, lt, is) = ap (λ b. b || among who whos) (ap (eq_by_cmp unique_cmp who) is ∙ key_itself who)
is_among (k ∷ whos) who (suc n, lt, is) = ap (λ b. eq_by_cmp unique_cmp who k || b) (is_among whos who (n, omega arith, is)) ∙ or_true (eq_by_cmp unique_cmp who k)
  where
    or_true : (b : Bool) → (b || true) ≡ true
    or_true true = refl
    or_true false = refl

pub set_from : (whos : List UniqueModel) (who : UniqueModel) → has (set_of whos) who ≡ true → Contains whos who
set_from whos who is = contained whos who (sym (has-set_of whos who) ∙ is)

-- ---- who is at the pairs that pass a test
module _ {X : Type 0} (p : UniqueModel × X → Bool) where
  -- what stands at a process passes
  abbrev pub passes : UniqueModel → Option X → Bool
  passes q None = false
  passes q (Some x) = p (q, x)

  among_rows : (q : UniqueModel) (es : List (UniqueModel × X)) → T (finmap.is_sorted unique_cmp es) → among q (map (λ (e : UniqueModel × X). e.0) (filter p es)) ≡ passes q (finmap.find unique_cmp q es)
  among_rows q [] h = refl
  among_rows q (e ∷ es) h =
      by_key (eq_by_cmp unique_cmp q e.0) refl (p e) refl (among_rows q es (second _ _ h))
      (λ tied. find_below unique_cmp unique_total q es (below_tied unique_cmp unique_total q e.0 es (is_equal _ _ refl tied) (first _ _ h)))
    where
      by_key : (t : Bool) → eq_by_cmp unique_cmp q e.0 ≡ t → (b : Bool) → p e ≡ b
          → among q (map (λ (e : UniqueModel × X). e.0) (filter p es)) ≡ passes q (finmap.find unique_cmp q es)
          → (eq_by_cmp unique_cmp q e.0 ≡ true → finmap.find unique_cmp q es ≡ None)
          → among q (map (λ (e : UniqueModel × X). e.0) (cond b (e ∷ filter p es) (filter p es))) ≡ passes q (cond t (Some e.1) (finmap.find unique_cmp q es))
      by_key true tied true here later none = ap (λ t. t || among q (map (λ (e : UniqueModel × X). e.0) (filter p es))) tied ∙ sym (ap (λ k. p (k, e.1)) (same_key q e.0 tied) ∙ here)
      by_key true tied false here later none = later ∙ ap (passes q) (none tied) ∙ sym (ap (λ k. p (k, e.1)) (same_key q e.0 tied) ∙ here)
      by_key false apart true here later none = ap (λ t. t || among q (map (λ (e : UniqueModel × X). e.0) (filter p es))) apart ∙ later
      by_key false apart false here later none = later

  pub among_passing : (m : finmap.FinMap unique_cmp X) (q : UniqueModel) → among q (map (λ (e : UniqueModel × X). e.0) (filter p (finmap.entries m))) ≡ passes q (finmap.get m q)
  among_passing m q = among_rows q (finmap.entries m) (finmap.entries_sorted m) ∙ ap (passes q) (sym (finmap.get-entries m q))
