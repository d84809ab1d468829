-- A tick of a coordinator, as moves: shards of finished homes are freed, and what is ordered is said.
use Rattle.std.proofs.Common.{◌≡◌, ℕ, zero, suc, ◌+◌, inl, inr, Bool, true, false, cond, List, [], ◌∷◌, length, length-set, map, get_or, set, Contains, Option, Some, None, is_some, IsTrue, nat_lt, refl, sym, ap, ◌∙◌, subst, arith, true≢false}
use Rattle.std.proofs.lemmas.Option.{same_Some}
use Rattle.std.proofs.lemmas.List.{length-map}
use Rattle.ak_address.specs.Unique.{UniqueModel}
use Rattle.ak_address.specs.Uniques.{UniqueSet}
use Rattle.ak_address.proofs.Elements.{contains_first, contains_rest, contains_nothing, first_or_rest, in_map, map_in}
use Rattle.ak_promise.specs.Ballot.{BallotModel}
use Rattle.ak_settled.specs.SettledView.{SettledView}
use Rattle.ak_settled.specs.Settled.{standings_of, is_finished}
use Rattle.ak_line.specs.Name.{Name}
use Rattle.ak_line.specs.Line.{Line}
use Rattle.ak_line.specs.Shards as line
use Rattle.ak_line.specs.Shards.{freed}
use Rattle.ak_line.specs.Moves as moves
use Rattle.ak_line.specs.Moves.{Node, Trial, Said, Move}
use Rattle.ak_line.specs.Local.{spoken}
use Rattle.ak_line.specs.Becomes.{Becomes}
use Rattle.ak_line.proofs.LocalRuns.{OnlySays, frees, freed_table, Apart, local_frees, after_frees, freed_other, freed_one}
use Rattle.ak_line.proofs.BecomesLemmas.{then, becomes_same, only_says}
use Rattle.ak_coordinator.specs.declared.orders.Order.{Order}
use Rattle.ak_coordinator.specs.declared.orders.Order.TheVariants as order
use Rattle.ak_coordinator.specs.Table.{Home, ShardEntry, ShardTable}
use Rattle.ak_coordinator.specs.Entry.{unplaced}
use Rattle.ak_coordinator.specs.Coordinator.{entry_of}
use Rattle.ak_coordinator.specs.Tick.{unfinished, noticed, has_finished_home, hurried, begun, with_begun, first_leaver, moving, after_begin, after_tick, orders_from}
use Rattle.ak_coordinator.specs.Meaning.{IsFor}
use Rattle.ak_coordinator.specs.Placements.{home_as, placed_as, placements_of}
use Rattle.ak_coordinator.proofs.OrderLaws.{orders_each, orders_mean}
use Rattle.ak_coordinator.proofs.PlacementLemmas.{hurried_placed, noticed_placed}

-- ---- what a tick leaves of placements, but for those of finished homes
same_placed : (es : List ShardEntry) (k : ℕ) (e : ShardEntry) → placed_as e ≡ placed_as (get_or es k unplaced) → (j : ℕ) → placed_as (get_or (set es k e) j unplaced) ≡ placed_as (get_or es j unplaced)
same_placed [] k e same j = refl
same_placed (x ∷ es) zero e same zero = same
same_placed (x ∷ es) zero e same (suc j) = refl
same_placed (x ∷ es) (suc k) e same zero = refl
same_placed (x ∷ es) (suc k) e same (suc j) = same_placed es k e same j

hurried_all : (es : List ShardEntry) (j : ℕ) → placed_as (get_or (map hurried es) j unplaced) ≡ placed_as (get_or es j unplaced)
hurried_all [] j = refl
hurried_all (e ∷ es) zero = hurried_placed e
hurried_all (e ∷ es) (suc j) = hurried_all es j

begun_all : (waits : UniqueSet) (table : ShardTable) (o : Option ℕ) (j : ℕ) → placed_as (get_or (with_begun waits table o) j unplaced) ≡ placed_as (get_or table j unplaced)
begun_all waits table None j = refl
begun_all waits table (Some shard) j = same_placed table shard (begun waits (entry_of table shard)) refl j

begin_placed : (granted : UniqueSet) (settled : SettledView) (margin threshold limit : ℕ) (table : ShardTable) (j : ℕ) → placed_as (get_or (after_begin granted settled margin threshold limit table) j unplaced) ≡ placed_as (get_or table j unplaced)
begin_placed granted settled margin threshold limit table j = by_test (nat_lt (moving table) limit)
  where
    by_test : (b : Bool) → placed_as (get_or (cond b (with_begun (unfinished margin settled granted) table (first_leaver granted (standings_of settled) threshold table)) table) j unplaced) ≡ placed_as (get_or table j unplaced)
    by_test true = begun_all (unfinished margin settled granted) table (first_leaver granted (standings_of settled) threshold table) j
    by_test false = refl

module _ (margin : ℕ) (settled : SettledView) where
  -- the home, where it is finished
  abbrev finished_of : Option Home → Option line.Home
  finished_of None = None
  finished_of (Some home) = cond (is_finished margin settled home.owner) (Some (record { node = home.owner; number = home.number })) None

  record IsFinishedHome (o : Option Home) (h : line.Home) : Type 0 where
    test : has_finished_home margin settled o ≡ true
    home : home_as o ≡ Some h
    over : IsTrue (is_finished margin settled h.node)

  finished_tells : (o : Option Home) (h : line.Home) → finished_of o ≡ Some h → IsFinishedHome o h
  finished_tells None h is = absurd (true≢false (sym (ap is_some is)))
  finished_tells (Some home) h is = by_test (is_finished margin settled home.owner) refl is
    where
      by_test : (b : Bool) → is_finished margin settled home.owner ≡ b → cond {A = Option line.Home} b (Some (record { node = home.owner; number = home.number })) None ≡ Some h → IsFinishedHome (Some home) h
      by_test true over at = record { test = over; home = at; over = subst (λ (x : line.Home). IsTrue (is_finished margin settled x.node)) (same_Some (record { node = home.owner; number = home.number }) h at) over }
      by_test false not_over at = absurd (true≢false (sym (ap is_some at)))

  finished_not : (o : Option Home) → finished_of o ≡ None → has_finished_home margin settled o ≡ false
  finished_not None is = refl
  finished_not (Some home) is = by_test (is_finished margin settled home.owner) is
    where
      by_test : (b : Bool) → cond {A = Option line.Home} b (Some (record { node = home.owner; number = home.number })) None ≡ None → b ≡ false
      by_test true at = absurd (true≢false (ap is_some at))
      by_test false at = refl

  -- shards with their finished homes, from a number on
  abbrev paired : ℕ → Option line.Home → List (ℕ × line.Home) → List (ℕ × line.Home)
  paired shard None pairs = pairs
  paired shard (Some h) pairs = (shard, h) ∷ pairs

  abbrev pairs_from : ℕ → ShardTable → List (ℕ × line.Home)
  pairs_from start [] = []
  pairs_from start (e ∷ es) = paired start (finished_of e.home) (pairs_from (start + 1) es)

  record IsPair (start : ℕ) (es : ShardTable) (pair : ℕ × line.Home) : Type 0 where
    index : ℕ
    shard : pair.0 ≡ start + index
    is : finished_of (get_or es index unplaced).home ≡ Some pair.1

  later_pair : (start : ℕ) (e : ShardEntry) (es : ShardTable) (pair : ℕ × line.Home) → IsPair (start + 1) es pair → IsPair start (e ∷ es) pair
  later_pair start e es pair p = record { index = suc p.index; shard = let s = p.shard in omega arith; is = p.is }

  pair_there : (start : ℕ) (es : ShardTable) (pair : ℕ × line.Home) → Contains (pairs_from start es) pair → IsPair start es pair
  pair_there start [] pair there = absurd (contains_nothing pair there)
  pair_there start (e ∷ es) pair there = by_first (finished_of e.home) refl (pair_there (start + 1) es pair) there
    where
      by_first : (o : Option line.Home) → finished_of e.home ≡ o → (Contains (pairs_from (start + 1) es) pair → IsPair (start + 1) es pair) → Contains (paired start o (pairs_from (start + 1) es)) pair → IsPair start (e ∷ es) pair
      by_first None is rest there = later_pair start e es pair (rest there)
      by_first (Some h) is rest there = elim (first_or_rest (start, h) pair (pairs_from (start + 1) es) there) [
        | inl same ↦ record { index = zero; shard = ap (λ (p : ℕ × line.Home). p.0) same ∙ (omega arith); is = is ∙ ap (λ (p : ℕ × line.Home). Some p.1) (sym same) }
        | inr after ↦ later_pair start e es pair (rest after)
      ]

  in_pairs : (start : ℕ) (es : ShardTable) (k : ℕ) (h : line.Home) → finished_of (get_or es k unplaced).home ≡ Some h → Contains (pairs_from start es) (start + k, h)
  in_pairs start [] k h is = absurd (true≢false (sym (ap is_some is)))
  in_pairs start (e ∷ es) zero h is =
      subst (λ o. Contains (paired start o (pairs_from (start + 1) es)) (start + zero, h)) (sym is)
      (subst (λ (s : ℕ). Contains ((start, h) ∷ pairs_from (start + 1) es) (s, h)) (let z : start ≡ start + zero = omega arith in z) (contains_first (start, h) (pairs_from (start + 1) es)))
  in_pairs start (e ∷ es) (suc k) h is = by_first (finished_of e.home) (subst (λ (s : ℕ). Contains (pairs_from (start + 1) es) (s, h)) (let z : start + 1 + k ≡ start + suc k = omega arith in z) (in_pairs (start + 1) es k h is))
    where
      by_first : (o : Option line.Home) → Contains (pairs_from (start + 1) es) (start + suc k, h) → Contains (paired start o (pairs_from (start + 1) es)) (start + suc k, h)
      by_first None there = there
      by_first (Some first) there = contains_rest (start, first) (start + suc k, h) (pairs_from (start + 1) es) there

  noticed_all : (es : List ShardEntry) (k : ℕ) → placed_as (get_or (map (noticed margin settled) es) k unplaced) ≡ cond (has_finished_home margin settled (get_or es k unplaced).home) (freed (placed_as (get_or es k unplaced))) (placed_as (get_or es k unplaced))
  noticed_all [] k = refl
  noticed_all (e ∷ es) zero = noticed_placed margin settled e
  noticed_all (e ∷ es) (suc k) = noticed_all es k

  module _ {V : Type 0} (l : Line V) (above : BallotModel → BallotModel → Type 0) (heard : Name → Said V → Type 0) (stopped : Name → Type 0) (me : Name) where
    pairs_apart : (start : ℕ) (es : ShardTable) → Apart l above heard stopped me (pairs_from start es)
    pairs_apart start [] = tt
    pairs_apart start (e ∷ es) = by_first (finished_of e.home) (pairs_apart (start + 1) es)
      where
        by_first : (o : Option line.Home) → Apart l above heard stopped me (pairs_from (start + 1) es) → Apart l above heard stopped me (paired start o (pairs_from (start + 1) es))
        by_first None rest = rest
        by_first (Some h) rest = ((λ other there same. let p = pair_there (start + 1) es other there in let s = p.shard in omega (arith, same, s)), rest)

    freed_is : (table : ShardTable) (s : ℕ) → freed_table l above heard stopped me (pairs_from 0 table) (placements_of table) s ≡ placed_as (get_or (map (noticed margin settled) table) s unplaced)
    freed_is table s = by_finished (finished_of (entry_of table s).home) refl ∙ sym (noticed_all table s)
      where
        by_finished : (o : Option line.Home) → finished_of (entry_of table s).home ≡ o
            → freed_table l above heard stopped me (pairs_from 0 table) (placements_of table) s ≡ cond (has_finished_home margin settled (entry_of table s).home) (freed (placements_of table s)) (placements_of table s)
        by_finished None is =
            freed_other l above heard stopped me (pairs_from 0 table) (placements_of table) s
            (λ pair there same.
            let p = pair_there 0 table pair there in
            let at : p.index ≡ s = (let x = p.shard in omega (arith, x, same)) in
            true≢false (sym (ap is_some (sym is ∙ ap (λ k. finished_of (get_or table k unplaced).home) (sym at) ∙ p.is))))
            ∙ ap (λ b. cond b (freed (placements_of table s)) (placements_of table s)) (sym (finished_not (entry_of table s).home is))
        by_finished (Some h) is =
            freed_one l above heard stopped me (pairs_from 0 table) (placements_of table) (s, h) (pairs_apart 0 table)
            (subst (λ (k : ℕ). Contains (pairs_from 0 table) (k, h)) (let z : 0 + s ≡ s = omega arith in z) (in_pairs 0 table s h is))
            ∙ ap (λ b. cond b (freed (placements_of table s)) (placements_of table s)) (sym (finished_tells (entry_of table s).home h is).test)

    -- ---- what is ordered, as it is said
    abbrev pub order_said : BallotModel → Order → Said V
    order_said b (order.Begin shard number who) = Said.Names b
    order_said b (order.HandOff shard number who) = Said.HandOff b who shard number
    order_said b (order.Host shard number who) = Said.HostShard b who shard number

    abbrev order_move : Trial V → Order → Move V
    order_move t (order.Begin shard number who) = Move.Say me t.ballot
    order_move t (order.HandOff shard number who) = Move.Recall me t shard (record { node = who; number = number })
    order_move t (order.Host shard number who) = Move.Order me t shard (record { node = who; number = number })

    order_spoken : (n : Node V) (t : Trial V) (given : Order) → spoken l above n (order_move t given) ≡ Some (order_said t.ballot given)
    order_spoken n t (order.Begin shard number who) = refl
    order_spoken n t (order.HandOff shard number who) = refl
    order_spoken n t (order.Host shard number who) = refl

    order_says : (n : Node V) (t : Trial V) (table : ShardTable) → n.phase ≡ moves.Active t → n.last ≡ Some t.ballot → n.table ≡ placements_of table → (shard : ℕ) (given : Order) → IsFor shard (entry_of table shard) given
        → OnlySays l above heard stopped me n (order_move t given)
    order_says n t table active last same shard (order.Begin s number who) is = record { by = refl; same = refl; guard = inl last }
    order_says n t table active last same shard (order.HandOff s number who) is =
        record { by = refl; same = refl; guard = (active, ap (λ f. (f s).home) same ∙ ap (λ k. home_as (entry_of table k).home) is.0 ∙ ap home_as is.2) }
    order_says n t table active last same shard (order.Host s number who) is =
        record { by = refl; same = refl; guard = (active, ap (λ f. (f s).home) same ∙ ap (λ k. home_as (entry_of table k).home) is.0 ∙ ap home_as is.3) }

    -- ---- a tick
    pub tick_is_moves : (n : Node V) → n.runs ≡ true → (t : Trial V) → n.phase ≡ moves.Active t → n.last ≡ Some t.ballot → (table : ShardTable) → n.table ≡ placements_of table
        → ((q : UniqueModel) → IsTrue (is_finished margin settled q) → Contains n.finished q) → (granted : UniqueSet) (threshold limit : ℕ)
        → Becomes l above heard stopped me n (record n { table = placements_of (after_tick granted settled margin threshold limit table) })
        (map (order_said t.ballot) (orders_from 0 (after_tick granted settled margin threshold limit table)))
    tick_is_moves n running t active last table same finished granted threshold limit =
        then l above heard stopped me n m m [] _
        (becomes_same l above heard stopped me n _ m [] (λ i. record n { table = table_is i }) freed_moves)
        (only_says l above heard stopped me m (map (order_move t) orders) (map (order_said t.ballot) orders) running
        (λ k there.
        let h = in_map (order_move t) orders k there in
        let o = (orders_each after h.0).0 h.1 in
        subst (OnlySays l above heard stopped me m) (sym h.2) (order_says m t after active last refl o.0 h.0 (orders_mean o.0 (entry_of after o.0) h.0 o.2)))
        (λ x there.
        let h = in_map (order_said t.ballot) orders x there in
        (order_move t h.0, map_in (order_move t) orders h.0 h.1, order_spoken m t h.0 ∙ ap Some (sym h.2))))
      where
        after : ShardTable
        after = after_tick granted settled margin threshold limit table

        orders : List Order
        orders = orders_from 0 (after_tick granted settled margin threshold limit table)

        m : Node V
        m = record n { table = placements_of (after_tick granted settled margin threshold limit table) }

        pairs : List (ℕ × line.Home)
        pairs = pairs_from 0 table

        table_is : freed_table l above heard stopped me (pairs_from 0 table) n.table ≡ placements_of (after_tick granted settled margin threshold limit table)
        table_is = ap (freed_table l above heard stopped me (pairs_from 0 table)) same ∙ (λ i s.
            (freed_is table s
            ∙ sym (begin_placed granted settled margin threshold limit (map (noticed margin settled) table) s)
            ∙ sym (hurried_all (after_begin granted settled margin threshold limit (map (noticed margin settled) table)) s)) i)

        freed_moves : Becomes l above heard stopped me n (record n { table = freed_table l above heard stopped me (pairs_from 0 table) n.table }) []
        freed_moves = record {
          list = frees l above heard stopped me t (pairs_from 0 table);
          local = local_frees l above heard stopped me n t (pairs_from 0 table) running active (pairs_apart 0 table)
              (λ pair there.
              let p = pair_there 0 table pair there in
              let f = finished_tells (get_or table p.index unplaced).home pair.1 p.is in
              let at : p.index ≡ pair.0 = (let x = p.shard in omega (arith, x)) in
              (ap (λ g. (g pair.0).home) same ∙ ap (λ k. home_as (get_or table k unplaced).home) (sym at) ∙ f.home, inl (finished pair.1.node f.over)));
          becomes = after_frees l above heard stopped me n t (pairs_from 0 table);
          spoken = λ x there. absurd (contains_nothing x there);
        }

-- a tick leaves as many entries
begun_many : (waits : UniqueSet) (table : ShardTable) (o : Option ℕ) → length (with_begun waits table o) ≡ length table
begun_many waits table None = refl
begun_many waits table (Some shard) = length-set table shard (begun waits (entry_of table shard))

pub ticked_many : (granted : UniqueSet) (settled : SettledView) (margin threshold limit : ℕ) (table : ShardTable) → length (after_tick granted settled margin threshold limit table) ≡ length table
ticked_many granted settled margin threshold limit table =
    length-map (after_begin granted settled margin threshold limit (map (noticed margin settled) table)) hurried ∙ by_test (nat_lt (moving (map (noticed margin settled) table)) limit) ∙ length-map table (noticed margin settled)
  where
    by_test : (b : Bool) → length (cond b (with_begun (unfinished margin settled granted) (map (noticed margin settled) table) (first_leaver granted (standings_of settled) threshold (map (noticed margin settled) table))) (map (noticed margin settled) table)) ≡ length (map (noticed margin settled) table)
    by_test true = begun_many (unfinished margin settled granted) (map (noticed margin settled) table) (first_leaver granted (standings_of settled) threshold (map (noticed margin settled) table))
    by_test false = refl
