-- Walks along the pairs of a table, and along the processes of a set.
use Rattle.std.proofs.Common.{◌≡◌, ◌≢◌, ◌⊎◌, inl, inr, ℕ, ◌+◌, ◌≤◌, Bool, true, false, true≢false, cond, ◌||◌, List, [], ◌∷◌, ◌++◌, map, length, drop, slice_get, Option, None, Some, option_to_list, unwrap_or, refl, sym, ap, ◌∙◌, subst, arith}
use Rattle.std.proofs.lemmas.List.{map-append}
use Rattle.std.specs.FinMap as finmap
use Rattle.std.specs.Ordering.{is_eq}
use Rattle.ak_address.specs.Unique.{UniqueModel, unique_cmp}
use Rattle.ak_address.specs.Counters.{Counters, counter}
use Rattle.ak_address.proofs.TableLaws.{key_itself, other_key, same_or_apart, get-empty, get-insert_here, get-insert_elsewhere}
use Rattle.ak_member.specs.declared.standing.Standing.{Standing}
use Rattle.ak_address.specs.Uniques.{UniqueSet}
use Rattle.ak_member.specs.declared.status.Status.{Status}
use Rattle.ak_member.specs.Standing.{member_pairs}
use Rattle.ak_member.proofs.MemberLemmas.{KeepsPairs, drop_from, keeps_members, kept_pair}
use Rattle.ak_member.proofs.Folds.{keeps_mapped, keeps_filtered, keeps_all}
use Rattle.std.specs.List.{filter, list_any}
use Rattle.std.proofs.lemmas.Bool.{or_parts}
use Rattle.ak_coordinator.specs.Table.{Home, ShardEntry, ShardTable}
use Rattle.ak_coordinator.specs.Entry.{is_at, is_owner}
use Rattle.ak_coordinator.specs.Coordinator.{load_of, may_host, loads_among}
use Rattle.ak_coordinator.specs.Homes.{with_home, AreHomes, counted_load, loads_counted}

pub keeps_counted : (counts : Counters) (granted : UniqueSet) → KeepsPairs (loads_counted counts granted)
keeps_counted counts granted =
    keeps_mapped (λ pairs. filter (may_host granted) (member_pairs pairs)) (keeps_filtered member_pairs keeps_members (may_host granted)) (λ (pair : UniqueModel × (Status × ℕ)). counted_load counts pair.0)

-- what is counted are the loads
pub counted_loads : (table : ShardTable) (counts : Counters) → AreHomes table counts → (granted : UniqueSet) (pairs : List (UniqueModel × Standing))
    → loads_counted counts granted pairs ≡ loads_among table granted pairs
counted_loads table counts are granted pairs = each (filter (may_host granted) (member_pairs pairs))
  where
    each : (pairs : List (UniqueModel × (Status × ℕ))) → map (λ (pair : UniqueModel × (Status × ℕ)). counted_load counts pair.0) pairs ≡ map (λ (pair : UniqueModel × (Status × ℕ)). load_of table pair.0) pairs
    each [] = refl
    each (pair ∷ rest) = ap (λ (n : ℕ). record { unique = pair.0; shards = n } ∷ map (λ (pair : UniqueModel × (Status × ℕ)). counted_load counts pair.0) rest) (are pair.0)
        ∙ ap (λ loads. load_of table pair.0 ∷ loads) (each rest)

-- a home is one shard more at its node, and at no other
pub counted_home : (counts : Counters) (entry : ShardEntry) (who : UniqueModel) → counter (with_home counts entry.home) who ≡ counter counts who + length (filter (is_at who) (entry ∷ []))
counted_home counts entry who = by_home entry.home refl
  where
    by_node : (home : Home) → (who ≡ home.owner) ⊎ (who ≢ home.owner) → counter (finmap.insert counts home.owner (counter counts home.owner + 1)) who ≡ counter counts who + length (cond (is_eq (unique_cmp home.owner who)) (entry ∷ []) [])
    by_node home (inl same) =
        subst (λ w. counter (finmap.insert counts home.owner (counter counts home.owner + 1)) w ≡ counter counts w + length (cond (is_eq (unique_cmp home.owner w)) (entry ∷ []) [])) (sym same)
        (ap (λ found. unwrap_or found 0) (get-insert_here counts home.owner _) ∙ ap (λ b. counter counts home.owner + length (cond b (entry ∷ []) [])) (sym (key_itself home.owner)))
    by_node home (inr apart) =
        ap (λ found. unwrap_or found 0) (get-insert_elsewhere counts home.owner _ who apart)
        ∙ (omega arith)
        ∙ ap (λ b. counter counts who + length (cond b (entry ∷ []) [])) (sym (other_key home.owner who (λ same. apart (sym same))))

    by_home : (home : Option Home) → entry.home ≡ home → counter (with_home counts home) who ≡ counter counts who + length (filter (is_at who) (entry ∷ []))
    by_home None is = (omega arith) ∙ ap (λ h. counter counts who + length (cond (is_owner who h) (entry ∷ []) [])) (sym is)
    by_home (Some home) is = by_node home (same_or_apart who home.owner) ∙ ap (λ h. counter counts who + length (cond (is_owner who h) (entry ∷ []) [])) (sym is)

-- what is made of the process at an index, and of those after it
pub begins_next : {Y : Type 0} (f : UniqueModel → Y) (whos : List UniqueModel) (i : ℕ) (who : Option UniqueModel) → who ≡ slice_get whos i
    → map f (option_to_list who) ++ map f (drop (i + 1) whos) ≡ map f (drop i whos)
begins_next f whos i who is =
    sym (map-append f (option_to_list who) (drop (i + 1) whos))
    ∙ ap (map f) (sym (kept_pair (λ xs. xs) keeps_all whos i who (ap option_to_list is)))

-- at first nothing is counted
pub counted_none : (counts : Counters) → counts ≡ finmap.empty → (who : UniqueModel) → counter counts who ≡ 0
counted_none counts is who = ap (λ m. counter m who) is ∙ ap (λ found. unwrap_or found 0) (get-empty who)

-- with one home more counted, and those that are left, all are counted
pub counted_next : (entries : List ShardEntry) (i : ℕ) (entry : ShardEntry) → slice_get entries i ≡ Some entry → (counts after : Counters) → after ≡ with_home counts entry.home
    → (who : UniqueModel) (all : ℕ) → counter counts who + length (filter (is_at who) (drop i entries)) ≡ all
    → counter after who + length (filter (is_at who) (drop (i + 1) entries)) ≡ all
counted_next entries i entry at counts after is who all before =
    let here = ap (λ m. counter m who) is ∙ counted_home counts entry who in
    let split = ap (λ es. length (filter (is_at who) es)) (drop_from entries i ∙ ap (λ o. option_to_list o ++ drop (i + 1) entries) at) in
    let both = one_and_rest (is_at who entry) in
    omega arith
  where
    one_and_rest : (b : Bool) → length (cond b (entry ∷ []) []) + length (filter (is_at who) (drop (i + 1) entries)) ≡ length (cond b (entry ∷ filter (is_at who) (drop (i + 1) entries)) (filter (is_at who) (drop (i + 1) entries)))
    one_and_rest true = omega arith
    one_and_rest false = omega arith

-- a walk counts at most one shard a step
pub counted_few : (counts after : Counters) (entry : ShardEntry) → after ≡ with_home counts entry.home → (who : UniqueModel) (i : ℕ) → counter counts who ≤ i → counter after who ≤ i + 1
counted_few counts after entry is who i few =
    let here = ap (λ m. counter m who) is ∙ counted_home counts entry who in
    let one = at_most_one (is_at who entry) in
    omega arith
  where
    at_most_one : (b : Bool) → length (cond b (entry ∷ []) []) ≤ 1
    at_most_one true = omega arith
    at_most_one false = omega arith

-- ---- where there are loads
module _ {X Y : Type 0} (p : X → Bool) (f : X → Y) where
  -- nobody passes, and nothing is made
  pub nothing_made : (xs : List X) → list_any p xs ≡ false → [] ≡ map f (filter p xs)
  nothing_made [] none = refl
  nothing_made (x ∷ xs) none =
      let parts = or_parts (p x) (list_any p xs) none in
      nothing_made xs parts.1 ∙ ap (λ b. map f (cond b (x ∷ filter p xs) (filter p xs))) (sym parts.0)

  pub something_made : (xs : List X) → list_any p xs ≡ true → map f (filter p xs) ≢ []
  something_made [] some none = true≢false (sym some)
  something_made (x ∷ xs) some none = by_test (p x) (something_made xs) some none
    where
      by_test : (b : Bool) → (list_any p xs ≡ true → map f (filter p xs) ≢ []) → (b || list_any p xs) ≡ true → map f (cond b (x ∷ filter p xs) (filter p xs)) ≡ [] → ⊥
      by_test true rest some none = let e = ap length none in omega arith
      by_test false rest some none = rest some none

-- where nobody may host there is no load, and where somebody may there is one
pub no_loads : (table : ShardTable) (granted : UniqueSet) (pairs : List (UniqueModel × Standing)) → list_any (may_host granted) (member_pairs pairs) ≡ false → [] ≡ loads_among table granted pairs
no_loads table granted pairs none = nothing_made (may_host granted) (λ (pair : UniqueModel × (Status × ℕ)). load_of table pair.0) (member_pairs pairs) none

pub some_loads : (table : ShardTable) (granted : UniqueSet) (pairs : List (UniqueModel × Standing)) → list_any (may_host granted) (member_pairs pairs) ≡ true → loads_among table granted pairs ≢ []
some_loads table granted pairs some = something_made (may_host granted) (λ (pair : UniqueModel × (Status × ℕ)). load_of table pair.0) (member_pairs pairs) some
