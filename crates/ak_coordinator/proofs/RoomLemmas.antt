-- Where a tick takes memory: nodes are waited for, or something is ordered.
use Rattle.std.proofs.Common.{◌≡◌, ◌≢◌, ℕ, zero, suc, ◌+◌, ◌<◌, ◌==◌, Bool, true, false, true≢false, cond, List, [], ◌∷◌, ◌++◌, map, length, take, drop, get_or, Option, None, Some, refl, sym, ap, ◌∙◌, subst, length-append, arith}
use Rattle.std.specs.Option.{IfSome, IsSome}
use Rattle.std.proofs.lemmas.Bool.{eq-eqb, lt-ltb}
use Rattle.std.proofs.lemmas.List.{length-map, length-set, nil_from_length, get_or-map, get_or-set_same}
use Rattle.ak_address.specs.Uniques.{UniqueSet, no_one, how_many, in_order}
use Rattle.ak_address.proofs.UniquesLaws.{length-in_order}
use Rattle.ak_settled.specs.SettledView.{SettledView}
use Rattle.ak_settled.specs.Settled.{standings_of}
use Rattle.ak_coordinator.specs.declared.entry.Stage.TheVariants as stages
use Rattle.ak_coordinator.specs.Table.{Home, ShardEntry, ShardTable}
use Rattle.ak_coordinator.specs.Entry.{unplaced}
use Rattle.ak_coordinator.specs.Coordinator.{entry_of, with_entry}
use Rattle.ak_coordinator.specs.Tick.{unfinished, noticed, hurried, moving, first_leaver, after_begin, begun, with_begun, begin_order, orders_of, orders_from, AnyWaited}

-- ---- who is waited for
walked_at : (f : ShardEntry → ShardEntry) (xs : List ShardEntry) (i : ℕ) (d : ShardEntry) → i < length xs → get_or (map f (take i xs) ++ drop i xs) i d ≡ get_or xs i d
walked_at f [] i d lt = absurd (omega arith)
walked_at f (x ∷ xs) zero d lt = refl
walked_at f (x ∷ xs) (suc i) d lt = walked_at f xs i d (omega arith)

-- of an entry that a walk comes to nodes are still waited for
pub waited_at : (margin : ℕ) (settled : SettledView) (old now : List ShardEntry) (i : ℕ) (d : ShardEntry) → i < length old
    → now ≡ map (noticed margin settled) (take i old) ++ drop i old → (noticed margin settled (get_or now i d)).waits ≢ no_one → AnyWaited (map (noticed margin settled) old)
waited_at margin settled old now i d lt is some =
    let f = noticed margin settled in
    let at : get_or now i d ≡ get_or old i d = ap (λ l. get_or l i d) is ∙ walked_at f old i d lt in
    (i, λ none. some (ap (λ e. (f e).waits) at ∙ ap (λ e. e.waits) (sym (get_or-map f old i d unplaced lt)) ∙ none))

-- ---- what is ordered
left_none : {X : Type 0} (xs ys : List X) → xs ++ ys ≡ [] → xs ≡ []
left_none xs ys none = nil_from_length xs (let many = length-append xs ys in let all = ap length none in omega arith)

right_none : {X : Type 0} (xs ys : List X) → xs ++ ys ≡ [] → ys ≡ []
right_none xs ys none = nil_from_length ys (let many = length-append xs ys in let all = ap length none in omega arith)

-- where nothing is ordered, nothing is of a shard
none_ordered : (start : ℕ) (table : ShardTable) (k : ℕ) (d : ShardEntry) → k < length table → orders_from start table ≡ [] → orders_of (start + k) (get_or table k d) ≡ []
none_ordered start [] k d lt none = absurd (omega arith)
none_ordered start (entry ∷ entries) zero d lt none =
    subst (λ s. orders_of s entry ≡ []) (let e : start ≡ start + zero = omega arith in e) (left_none (orders_of start entry) (orders_from (start + 1) entries) none)
none_ordered start (entry ∷ entries) (suc k) d lt none =
    subst (λ s. orders_of s (get_or entries k d) ≡ []) (let e : start + 1 + k ≡ start + suc k = omega arith in e)
    (none_ordered (start + 1) entries k d (omega arith) (right_none (orders_of start entry) (orders_from (start + 1) entries) none))

-- a walk comes to a shard that has an order
pub ordered_at : (table : ShardTable) (shard : ℕ) (entry : ShardEntry) → shard < length table → entry ≡ entry_of table shard → orders_of shard entry ≢ [] → orders_from 0 table ≢ []
ordered_at table shard entry lt here some none =
    some (ap (orders_of shard) here ∙ subst (λ s. orders_of s (entry_of table shard) ≡ []) (let e : 0 + shard ≡ shard = omega arith in e) (none_ordered 0 table shard unplaced lt none))

-- of a shard that begins to move something is ordered
begun_ordered : (shard last : ℕ) (home : Option Home) (started : Bool) (waits : UniqueSet) → IsSome home → (b : Bool) → (how_many waits == 0) ≡ b
    → orders_of shard (cond b (record { last = last; home = home; started = started; stage = stages.Leaving; waits = waits }) (record { last = last; home = home; started = started; stage = stages.Holding; waits = waits })) ≢ []
begun_ordered shard last None started waits there b is none = true≢false (sym there)
begun_ordered shard last (Some home) started waits there true is none = let e = ap length none in omega arith
begun_ordered shard last (Some home) started waits there false is none =
    let nobody : how_many waits ≡ 0 = sym (length-in_order waits) ∙ sym (length-map (in_order waits) (begin_order shard home.number)) ∙ ap length none in
    true≢false (sym (eq-eqb (how_many waits) 0 nobody) ∙ is)

pub begin_ordered : (waits : UniqueSet) (table : ShardTable) (shard : ℕ) → shard < length table → IsSome (entry_of table shard).home → orders_from 0 (map hurried (with_begun waits table (Some shard))) ≢ []
begin_ordered waits table shard lt there none =
    let entry = entry_of table shard in
    let after = with_entry table shard (begun waits entry) in
    let within : shard < length after = (let e = length-set table shard (begun waits entry) in omega arith) in
    let at : get_or (map hurried after) shard unplaced ≡ hurried (begun waits entry) =
    get_or-map hurried after shard unplaced unplaced within ∙ ap hurried (get_or-set_same table shard (begun waits entry) unplaced lt) in
    begun_ordered shard entry.last entry.home entry.started waits there (how_many waits == 0) refl
    (sym (ap (orders_of shard) at)
    ∙ subst (λ s. orders_of s (get_or (map hurried after) shard unplaced) ≡ []) (let e : 0 + shard ≡ shard = omega arith in e)
    (none_ordered 0 (map hurried after) shard unplaced (let e = length-map after hurried in omega arith) none))

-- where fewer shards move than may, something is ordered of the one that begins
pub begins_ordered : (granted : UniqueSet) (settled : SettledView) (margin threshold limit : ℕ) (table now : ShardTable) (found : Option ℕ) (shard : ℕ) → now ≡ table → moving table < limit
    → found ≡ first_leaver granted (standings_of settled) threshold now → found ≡ Some shard → IfSome found (λ shard. (shard < length now) × IsSome (entry_of now shard).home)
    → orders_from 0 (map hurried (after_begin granted settled margin threshold limit table)) ≢ []
begins_ordered granted settled margin threshold limit table now found shard same few first is placed none =
    let waits = unfinished margin settled granted in
    let leaves : first_leaver granted (standings_of settled) threshold table ≡ Some shard = ap (first_leaver granted (standings_of settled) threshold) (sym same) ∙ sym first ∙ is in
    let there : (shard < length table) × IsSome (entry_of table shard).home =
    subst (λ t. (shard < length t) × IsSome (entry_of t shard).home) same (subst (λ o. IfSome o (λ shard. (shard < length now) × IsSome (entry_of now shard).home)) is placed) in
    let begins : after_begin granted settled margin threshold limit table ≡ with_begun waits table (Some shard) =
    ap (λ b. cond b (with_begun waits table (first_leaver granted (standings_of settled) threshold table)) table) (lt-ltb (moving table) limit few) ∙ ap (with_begun waits table) leaves in
    begin_ordered waits table shard there.0 there.1 (ap (λ t. orders_from 0 (map hurried t)) (sym begins) ∙ none)
