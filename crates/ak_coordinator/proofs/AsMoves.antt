-- Each call of a coordinator changes the placements of its node as a short list of moves does. What the guards say of packets,
-- of the last promise and of settled versions is given.
use Rattle.std.proofs.Common.{◌≡◌, ℕ, suc, ◌-◌, ◌<◌, ◌==◌, inl, inr, Bool, true, false, cond, List, [], ◌∷◌, length, map, Contains, Option, Some, None, refl, sym, ap, ◌∙◌, subst, arith}
use Rattle.std.specs.Ordering.{is_eq}
use Rattle.ak_address.specs.Unique.{UniqueModel, unique_cmp}
use Rattle.ak_address.proofs.Elements.{contains_nothing, first_or_rest, in_map}
use Rattle.ak_allocation.specs.declared.load.Load.{Load}
use Rattle.ak_promise.specs.Ballot.{BallotModel}
use Rattle.ak_line.specs.Name.{Name}
use Rattle.ak_line.specs.Line.{Line}
use Rattle.ak_line.specs.Shards as line
use Rattle.ak_line.specs.Shards.{Placement, put_at, assigned, freed}
use Rattle.ak_line.specs.Moves as moves
use Rattle.ak_line.specs.Moves.{Node, Trial, Said, Move}
use Rattle.ak_line.specs.Becomes.{Becomes}
use Rattle.ak_line.proofs.PlacedPuts.{at_put}
use Rattle.ak_line.proofs.BecomesLemmas.{stays, then, becomes_same, one_move}
use Rattle.ak_coordinator.specs.declared.entry.Homing.{Homing}
use Rattle.ak_coordinator.specs.declared.entry.Homing.TheVariants as homings
use Rattle.ak_coordinator.specs.Table.{Home, ShardEntry, ShardTable}
use Rattle.ak_coordinator.specs.Entry as entries
use Rattle.ak_coordinator.specs.Entry.{allotted, after_allotment, told, homing_of, homing, placed_if_free, after_get_home, after_started, after_ack, awaits_stop}
use Rattle.ak_coordinator.specs.Coordinator.{entry_of, with_entry, less_one, stopped_placed, after_stopped}
use Rattle.ak_coordinator.specs.Placements.{home_as, placed_as, placements_of}
use Rattle.ak_coordinator.proofs.CoordinatorLaws.{allotted_is, awaited_means}
use Rattle.ak_coordinator.proofs.PlacementLemmas.{placements_put, placements_same, started_placed, ack_placed, allotted_placed}

module _ {V : Type 0} (l : Line V) (above : BallotModel → BallotModel → Type 0) (heard : Name → Said V → Type 0) (stopped : Name → Type 0) (me : Name) where
  says_one : (x y : Said V) → Contains (x ∷ []) y → x ≡ y
  says_one x y there = elim (first_or_rest x y [] there) [ inl is ↦ sym is | inr nowhere ↦ absurd (contains_nothing y nowhere) ]

  -- the order to host, as it is said
  abbrev pub host_said : BallotModel → ℕ → Home → Said V
  host_said b shard home = Said.HostShard b home.owner shard home.number

  abbrev pub hand_off_said : BallotModel → ℕ → Home → Said V
  hand_off_said b shard home = Said.HandOff b home.owner shard home.number

  -- each load is of a process that aged in the settled version and has granted
  abbrev pub AreGranters : Node V → Trial V → List Load → Type 0
  AreGranters n t loads = (load : Load) → Contains loads load → l.aged n.settled load.unique × Contains t.granted load.unique

  -- what is put at a shard twice is what was put last
  put_twice : (s : ℕ) (x y : Placement) (f : ℕ → Placement) → put_at s y (put_at s x f) ≡ put_at s y f
  put_twice s x y f = λ i j. by_test j (j == s) i
    where
      by_test : (j : ℕ) (b : Bool) → cond b y (cond b x (f j)) ≡ cond b y (f j)
      by_test j true = refl
      by_test j false = refl

  module _ (n : Node V) (running : n.runs ≡ true) (t : Trial V) (active : n.phase ≡ moves.Active t) (last : n.last ≡ Some t.ballot) (table : ShardTable) (same : n.table ≡ placements_of table)
      (shard : ℕ) (inside : shard < length table) where
    abbrev entry : ShardEntry
    entry = entry_of table shard

    abbrev With : ShardEntry → Node V
    With e = record n { table = placements_of (with_entry table shard e) }

    abbrev Does : ShardEntry → List (Said V) → Type 0
    Does e says = Becomes l above heard stopped me n (With e) says

    placement_is : n.table shard ≡ placed_as entry
    placement_is = ap (λ f. f shard) same

    put_is : (e : ShardEntry) (p : Placement) → p ≡ placed_as e → record n { table = put_at shard p n.table } ≡ With e
    put_is e p is = λ i. record n { table = ((λ j. put_at shard (is j) (same j)) ∙ sym (placements_put table shard e inside)) i }

    same_is : (e : ShardEntry) → placed_as e ≡ placed_as entry → n ≡ With e
    same_is e is = λ i. record n { table = (same ∙ sym (placements_same table shard e inside is)) i }

    names_live : (m : Node V) → m.runs ≡ true → m.last ≡ Some t.ballot → Becomes l above heard stopped me m m (Said.Names t.ballot ∷ [])
    names_live m runs is = one_move l above heard stopped me m (Move.Say me t.ballot) (Said.Names t.ballot ∷ []) runs refl (inl is) (λ x there. ap Some (says_one (Said.Names t.ballot) x there))

    -- ---- a free shard is placed, and its home is told to host it
    placed_moves : (loads : List Load) → AreGranters n t loads → (m : Node V) → (e : ShardEntry) → m.runs ≡ true → m.phase ≡ moves.Active t → m.settled ≡ n.settled → m.table shard ≡ placed_as e → e.home ≡ None
        → (home : Home) → allotted loads e ≡ Some home
        → Becomes l above heard stopped me m (record m { table = put_at shard (assigned home.owner (m.table shard)) m.table }) (host_said t.ballot shard home ∷ [])
    placed_moves loads granters m e runs act settled at free home placed =
        let a = allotted_is loads e home placed in
        let load = a.0.0 in
        let g = granters load a.0.1.there in
        let k : Node V = record m { table = put_at shard (assigned home.owner (m.table shard)) m.table } in
        let h : line.Home = record { node = home.owner; number = home.number } in
        let next : suc (m.table shard).last ≡ home.number = (let x = ap (λ (p : Placement). p.last) at in let y = a.1 in omega (arith, x, y)) in
        then l above heard stopped me m k k [] (host_said t.ballot shard home ∷ [])
        (one_move l above heard stopped me m (Move.Assign me t shard home.owner) [] runs refl (
          act,
          ap (λ (p : Placement). p.home) at ∙ ap home_as free,
          subst (λ v. l.aged v home.owner) (sym settled) (subst (λ w. l.aged n.settled w) (sym a.0.2) g.0),
          subst (Contains t.granted) (sym a.0.2) g.1,
        )
        (λ x there. absurd (contains_nothing x there)))
        (one_move l above heard stopped me k (Move.Order me t shard h) (host_said t.ballot shard home ∷ []) runs refl
        (act, at_put (λ (p : Placement). p.home ≡ Some h) shard (assigned home.owner (m.table shard)) m.table shard (λ _. ap (λ k. Some (record { node = home.owner; number = k })) next) (λ other. absurd (other refl)))
        (λ x there. ap Some (says_one _ x there)))

    assigned_is : (loads : List Load) (e : ShardEntry) (home : Home) → allotted loads e ≡ Some home → (p : Placement) → p ≡ placed_as e → assigned home.owner p ≡ placed_as (after_allotment (Some home) e)
    assigned_is loads e home placed p is = ap (assigned home.owner) is ∙ sym (allotted_placed home e (allotted_is loads e home placed).1)

    -- ---- a node asks for the home of the shard: it is told it, and a free shard is placed first
    abbrev pub SaysHoming : Homing → List (Said V) → Type 0
    SaysHoming (homings.Known owner) says = says ≡ Said.Names t.ballot ∷ []
    SaysHoming (homings.Placed owner number) says = says ≡ Said.HostShard t.ballot owner shard number ∷ Said.Names t.ballot ∷ []
    SaysHoming homings.Moving says = says ≡ []
    SaysHoming homings.NoRegion says = says ≡ []

    pub get_home_is_moves : (loads : List Load) → AreGranters n t loads → (says : List (Said V)) × SaysHoming (homing loads entry) says × Does (after_get_home loads entry) says
    get_home_is_moves loads granters = by_home entry.home refl
      where
        by_moving : (home : Home) (b : Bool) → (says : List (Said V)) × SaysHoming (cond b homings.Moving (homings.Known home.owner)) says × Does entry says
        by_moving home true = ([], refl, becomes_same l above heard stopped me n n (With entry) [] (same_is entry refl) (stays l above heard stopped me n))
        by_moving home false = (Said.Names t.ballot ∷ [], refl, becomes_same l above heard stopped me n n (With entry) (Said.Names t.ballot ∷ []) (same_is entry refl) (names_live n running last))

        by_placed : entry.home ≡ None → (o : Option Home) → allotted loads entry ≡ o → (says : List (Said V)) × SaysHoming (told o) says × Does (after_allotment o entry) says
        by_placed free None is = ([], refl, becomes_same l above heard stopped me n n (With entry) [] (same_is entry refl) (stays l above heard stopped me n))
        by_placed free (Some home) is =
            let k : Node V = record n { table = put_at shard (assigned home.owner (n.table shard)) n.table } in (
              host_said t.ballot shard home ∷ Said.Names t.ballot ∷ [],
              refl,
              becomes_same l above heard stopped me n k (With (after_allotment (Some home) entry)) _ (put_is (after_allotment (Some home) entry) (assigned home.owner (n.table shard)) (assigned_is loads entry home is (n.table shard) placement_is))
                  (then l above heard stopped me n k k (host_said t.ballot shard home ∷ []) (Said.Names t.ballot ∷ []) (placed_moves loads granters n entry running active refl placement_is free home is) (names_live k running last)),
            )

        by_home : (o : Option Home) → entry.home ≡ o → (says : List (Said V)) × SaysHoming (homing_of loads entry o) says × Does (placed_if_free loads entry o) says
        by_home None free = by_placed free (allotted loads entry) refl
        by_home (Some home) at = by_moving home (entries.moves entry)

    -- ---- the home says that it hosts the shard
    pub started_is_moves : (from : UniqueModel) (number : ℕ) → Does (after_started from number entry) []
    started_is_moves from number = becomes_same l above heard stopped me n n _ [] (same_is (after_started from number entry) (started_placed from number entry)) (stays l above heard stopped me n)

    -- ---- a node holds the shard; after the last one the home is told to hand it off
    pub ack_is_moves : (from : UniqueModel) (number : ℕ) → Does (after_ack from number entry) []
    ack_is_moves from number = becomes_same l above heard stopped me n n _ [] (same_is (after_ack from number entry) (ack_placed from number entry)) (stays l above heard stopped me n)

    pub recall_is_moves : (home : Home) → entry.home ≡ Some home → Becomes l above heard stopped me n n (hand_off_said t.ballot shard home ∷ [])
    recall_is_moves home at =
        let h : line.Home = record { node = home.owner; number = home.number } in
        one_move l above heard stopped me n (Move.Recall me t shard h) (hand_off_said t.ballot shard home ∷ []) running refl (active, ap (λ (p : Placement). p.home) placement_is ∙ ap home_as at) (λ x there. ap Some (says_one _ x there))

    -- ---- the shard is stopped at its home: it is free, and is placed again
    abbrev pub SaysPlaced : Option Home → List (Said V) → Type 0
    SaysPlaced None says = says ≡ []
    SaysPlaced (Some home) says = says ≡ host_said t.ballot shard home ∷ []

    lighter_granters : (from : UniqueModel) (loads : List Load) → AreGranters n t loads → AreGranters n t (map (less_one from) loads)
    lighter_granters from loads granters load there =
        let h = in_map (less_one from) loads load there in
        let g = granters h.0 h.1 in
        let who : load.unique ≡ h.0.unique = ap (λ (x : Load). x.unique) h.2 ∙ by_test h.0 (is_eq (unique_cmp h.0.unique from)) in
        (subst (l.aged n.settled) (sym who) g.0, subst (Contains t.granted) (sym who) g.1)
      where
        by_test : (x : Load) (b : Bool) → (cond b (record x { shards = x.shards - 1 }) x).unique ≡ x.unique
        by_test x true = refl
        by_test x false = refl

    pub stopped_is_moves : (from : UniqueModel) (number : ℕ) (loads : List Load) → AreGranters n t loads → heard from (Said.ShardStopped t.ballot shard number)
        → (says : List (Said V)) × SaysPlaced (stopped_placed from number loads entry) says × Does (after_stopped from number loads entry) says
    stopped_is_moves from number loads granters was_heard = by_awaited (awaits_stop from number entry) refl
      where
        free_moves : entry.home ≡ Some (record { owner = from; number = number }) → Becomes l above heard stopped me n (record n { table = put_at shard (freed (n.table shard)) n.table }) []
        free_moves at =
            one_move l above heard stopped me n (Move.Free me t shard (record { node = from; number = number })) [] running refl (active, ap (λ (p : Placement). p.home) placement_is ∙ ap home_as at, inr was_heard) (λ x there. absurd (contains_nothing x there))

        freed_at : put_at shard (freed (n.table shard)) n.table shard ≡ placed_as (entries.freed entry)
        freed_at = at_put (λ (p : Placement). p ≡ placed_as (entries.freed entry)) shard (freed (n.table shard)) n.table shard (λ _. ap freed placement_is) (λ other. absurd (other refl))

        by_placed : Becomes l above heard stopped me n (record n { table = put_at shard (freed (n.table shard)) n.table }) [] → put_at shard (freed (n.table shard)) n.table shard ≡ placed_as (entries.freed entry)
            → (o : Option Home) → allotted (map (less_one from) loads) (entries.freed entry) ≡ o → (says : List (Said V)) × SaysPlaced o says × Does (after_allotment o (entries.freed entry)) says
        by_placed free at_m None is = ([], refl, becomes_same l above heard stopped me n _ _ [] (put_is (entries.freed entry) (freed (n.table shard)) (ap freed placement_is)) free)
        by_placed free at_m (Some home) is =
            let m : Node V = record n { table = put_at shard (freed (n.table shard)) n.table } in
            let k : Node V = record m { table = put_at shard (assigned home.owner (m.table shard)) m.table } in (
              host_said t.ballot shard home ∷ [],
              refl,
              becomes_same l above heard stopped me n k _ _
                  ((λ i. record n { table = put_twice shard (freed (n.table shard)) (assigned home.owner (m.table shard)) n.table i })
                  ∙ put_is (after_allotment (Some home) (entries.freed entry)) (assigned home.owner (m.table shard)) (assigned_is (map (less_one from) loads) (entries.freed entry) home is (m.table shard) at_m))
                  (then l above heard stopped me n m k [] (host_said t.ballot shard home ∷ []) free
                  (placed_moves (map (less_one from) loads) (lighter_granters from loads granters) m (entries.freed entry) running active refl at_m refl home is)),
            )

        by_awaited : (b : Bool) → awaits_stop from number entry ≡ b
            → (says : List (Said V)) × SaysPlaced (cond b (allotted (map (less_one from) loads) (entries.freed entry)) None) says
            × Does (cond b (after_allotment (allotted (map (less_one from) loads) (entries.freed entry)) (entries.freed entry)) entry) says
        by_awaited true is = by_placed (free_moves ((awaited_means from number entry).0 is).1) freed_at (allotted (map (less_one from) loads) (entries.freed entry)) refl
        by_awaited false is = ([], refl, becomes_same l above heard stopped me n n _ [] (same_is entry refl) (stays l above heard stopped me n))
