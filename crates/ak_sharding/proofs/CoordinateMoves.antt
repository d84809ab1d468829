-- What a node does as the coordinator, as moves.
use Rattle.std.proofs.Common.{◌≡◌, ℕ, ◌<◌, Bool, true, false, cond, List, [], ◌∷◌, ◌++◌, length, length-set, map, Option, None, Some, refl, sym, ◌∙◌, subst, true≢false}
use Rattle.std.proofs.lemmas.Bool.{ltb-true}
use Rattle.std.proofs.lemmas.Option.{same_Some}
use Rattle.ak_address.specs.Unique.{UniqueModel}
use Rattle.ak_address.proofs.Elements.{contains_left}
use Rattle.ak_address.proofs.BoolLemmas.{both_true}
use Rattle.ak_clock.specs.Version.{Counts}
use Rattle.ak_coordinator.specs.declared.entry.Homing.{Homing}
use Rattle.ak_coordinator.specs.declared.entry.Homing.TheVariants as homings
use Rattle.ak_coordinator.specs.declared.orders.Order.{Order}
use Rattle.ak_coordinator.specs.declared.orders.Order.TheVariants as order
use Rattle.ak_coordinator.specs.Table.{Home, ShardTable}
use Rattle.ak_coordinator.specs.Entry.{homing, after_get_home, after_started, is_last_ack, after_ack}
use Rattle.ak_coordinator.specs.Coordinator.{entry_of, with_entry, stopped_placed, after_stopped}
use Rattle.ak_coordinator.specs.Tick.{orders_from}
use Rattle.ak_coordinator.specs.Placements.{placements_of}
use Rattle.ak_coordinator.proofs.AsMoves.{AreGranters, SaysHoming, SaysPlaced, get_home_is_moves, started_is_moves, ack_is_moves, recall_is_moves, stopped_is_moves}
use Rattle.ak_coordinator.proofs.TickMoves.{order_said, tick_is_moves, ticked_many}
use Rattle.ak_line.specs.BallotOrder.{IsLater}
use Rattle.ak_line.specs.Moves as moves
use Rattle.ak_line.specs.Moves.{Node, Trial, Said}
use Rattle.ak_line.proofs.BecomesLemmas.{stays, then, says_less}
use Rattle.ak_promise.specs.Ballot.{BallotModel}
use Rattle.ak_promise.specs.Promise.{is_some_ballot}
use Rattle.ak_promise.proofs.PromiseLemmas.{last_is}
use Rattle.ak_singleton.specs.declared.phase.Phase.{Phase}
use Rattle.ak_singleton.specs.declared.phase.Phase.TheVariants as phases
use Rattle.ak_singleton.proofs.AsMoves.{line, IsTrial, HasPhase}
use Rattle.ak_wire.specs.declared.action.Action.{Action}
use Rattle.ak_sharding.specs.Sharding.{ShardingModel, Around, Outcome, nothing}
use Rattle.ak_sharding.specs.Hosts.{has_shard}
use Rattle.ak_sharding.specs.Coordinates.{is_active, is_active_with, on_table, if_active, loads, tells_home, on_get_home, on_shard_started, orders_hand_off, on_ack, orders_placed, on_shard_stopped, gives_order, ticked_table, coordinates_with, coordinates}
use Rattle.ak_sharding.specs.Said.{said_by, says_of}
use Rattle.ak_sharding.specs.Sharing.{LiveIsLast, HaveRisen}
use Rattle.ak_sharding.proofs.LoadMoves.{loads_are}
use Rattle.ak_sharding.proofs.PartLemmas.{IsLikeHere, Turns, IsPart, Does, part_table, nothing_does, if_both}

module _ (on : Counts → Type 0) (aged removed : Counts → UniqueModel → Type 0) (heard : UniqueModel → Said Counts → Type 0) (stopped : UniqueModel → Type 0) (around : Around)
    (bound : LiveIsLast around.singleton) (risen : HaveRisen aged around.settled) where
  abbrev Part : ShardingModel → Node Counts → Type 0
  Part s n = IsPart on aged removed heard stopped around s n

  abbrev Done : Node Counts → Outcome → Type 0
  Done n o = Does on aged removed heard stopped around n o

  -- ---- an active node
  -- the node of the moves is active with the trial of this ballot
  record IsActive (n : Node Counts) (b : BallotModel) : Type 0 where
    trial : Trial Counts
    phase : n.phase ≡ moves.Active trial
    is : IsTrial around.singleton trial
    ballot : trial.ballot ≡ b
    last : n.last ≡ Some trial.ballot

  active_from : (n : Node Counts) → IsLikeHere on aged removed heard stopped around n → (ph : Phase) → around.singleton.phase ≡ ph → is_active ph ≡ true → (b : BallotModel) → around.singleton.live ≡ Some b → IsActive n b
  active_from n k phases.Younger at is b live = absurd (true≢false (sym is))
  active_from n k phases.Asking at is b live = absurd (true≢false (sym is))
  active_from n k phases.Active at is b live =
      let t = subst (λ ph. HasPhase around.singleton ph n) at k.phase in
      record { trial = t.0; phase = t.1; is = t.2; ballot = same_Some t.0.ballot b (sym t.2.ballot ∙ live); last = k.last ∙ bound t.0.ballot t.2.ballot }
  active_from n k phases.Ended at is b live = absurd (true≢false (sym is))

  granters : (n : Node Counts) → IsLikeHere on aged removed heard stopped around n → (b : BallotModel) (a : IsActive n b) (table : ShardTable) → AreGranters (line on aged removed) IsLater heard stopped around.me n a.trial (loads around table)
  granters n k b a table load there =
      let g = loads_are aged around.settled risen table around.singleton.granted load there in
      (subst (λ v. aged v load.unique) (sym k.settled_is) g.0, (a.is.granted load.unique).0 g.1)

  -- a rule on the table for one shard, of an active node
  abbrev Rule : Type 0
  Rule = ShardTable → ShardTable × List Action

  -- what has to be shown of it
  abbrev Fits : Rule → ShardingModel → Node Counts → BallotModel → ℕ → Type 0
  Fits rule s n b shard =
      (table : ShardTable) → s.table ≡ Some table → shard < length table → n.table ≡ placements_of table → IsActive n b
      → Turns on aged removed heard stopped around n (record n { table = placements_of (rule table).0 }) (says_of (rule table).1) × (length (rule table).0 ≡ length table)

  table_does : (rule : Rule) (s : ShardingModel) (n : Node Counts) → Part s n
      → ((table : ShardTable) → s.table ≡ Some table → n.table ≡ placements_of table → length table ≡ length s.region.slots
      → Turns on aged removed heard stopped around n (record n { table = placements_of (rule table).0 }) (says_of (rule table).1) × (length (rule table).0 ≡ length table))
      → Done n (on_table rule s.table s)
  table_does rule s n p fits = by_table s.table refl
    where
      by_table : (o : Option ShardTable) → s.table ≡ o → Done n (on_table rule o s)
      by_table None none = nothing_does on aged removed heard stopped around s n p
      by_table (Some table) at =
          let h = p.sharing.table table at in
          let f = fits table at h.0 h.1 in
          record { after = record n { table = placements_of (rule table).0 }; becomes = f.0; part = part_table on aged removed heard stopped around s n (rule table).0 (f.1 ∙ h.1) p }

  if_active_does : (b : BallotModel) (shard : ℕ) (rule : Rule) (s : ShardingModel) (n : Node Counts) → Part s n → Fits rule s n b shard → Done n (if_active around b shard rule s)
  if_active_does b shard rule s n p fits =
      if_both on aged removed heard stopped around (has_shard shard s) (is_active_with around b) n (on_table rule s.table s) s p (λ inside act.
      let two = both_true (is_active around.singleton.phase) (is_some_ballot around.singleton.live b) act in
      let a = active_from n p.like around.singleton.phase refl two.0 b (last_is around.singleton.live b two.1) in
      table_does rule s n p (λ table at same many. fits table at (subst (λ k. shard < k) (sym many) (ltb-true shard (length s.region.slots) inside)) same a))

  -- what is said with the trial's ballot is said with that ballot
  said_with : (n m : Node Counts) (b c : BallotModel) (f : BallotModel → List (Said Counts)) → b ≡ c → Turns on aged removed heard stopped around n m (f b) → Turns on aged removed heard stopped around n m (f c)
  said_with n m b c f same t = subst (λ x. Turns on aged removed heard stopped around n m (f x)) same t

  -- ---- a node asks for a home
  abbrev homing_said : ℕ → Homing → BallotModel → List (Said Counts)
  homing_said shard (homings.Known owner) b = moves.Names b ∷ []
  homing_said shard (homings.Placed owner number) b = moves.HostShard b owner shard number ∷ moves.Names b ∷ []
  homing_said shard homings.Moving b = []
  homing_said shard homings.NoRegion b = []

  told_says : (from : UniqueModel) (b : BallotModel) (shard : ℕ) (h : Homing) → says_of (tells_home around from b shard h) ≡ homing_said shard h b
  told_says from b shard (homings.Known owner) = refl
  told_says from b shard (homings.Placed owner number) = refl
  told_says from b shard homings.Moving = refl
  told_says from b shard homings.NoRegion = refl

  pub on_get_home_does : (from : UniqueModel) (b : BallotModel) (shard : ℕ) (s : ShardingModel) (n : Node Counts) → Part s n → Done n (on_get_home around from b shard s)
  on_get_home_does from b shard s n p =
      if_active_does b shard (λ table. (with_entry table shard (after_get_home (loads around table) (entry_of table shard)), tells_home around from b shard (homing (loads around table) (entry_of table shard)))) s n p
      (λ table at inside same a.
      let m = get_home_is_moves (line on aged removed) IsLater heard stopped around.me n p.like.runs a.trial a.phase a.last table same shard inside (loads around table) (granters n p.like b a table) in
      let after : Node Counts = record n { table = placements_of (with_entry table shard (after_get_home (loads around table) (entry_of table shard))) } in (
        subst (λ xs. Turns on aged removed heard stopped around n after xs) (sym (told_says from b shard (homing (loads around table) (entry_of table shard))))
            (said_with n after a.trial.ballot b (homing_said shard (homing (loads around table) (entry_of table shard))) a.ballot
            (by_homing after table same inside a (homing (loads around table) (entry_of table shard)) m.0 m.1 m.2)),
        length-set table shard (after_get_home (loads around table) (entry_of table shard)),
      ))
    where
      by_homing : (after : Node Counts) (table : ShardTable) (same : n.table ≡ placements_of table) (inside : shard < length table) (a : IsActive n b) (h : Homing) (says : List (Said Counts))
          → SaysHoming (line on aged removed) IsLater heard stopped around.me n p.like.runs a.trial a.phase a.last table same shard inside h says → Turns on aged removed heard stopped around n after says
          → Turns on aged removed heard stopped around n after (homing_said shard h a.trial.ballot)
      by_homing after table same inside a (homings.Known owner) says is t = subst (λ xs. Turns on aged removed heard stopped around n after xs) is t
      by_homing after table same inside a (homings.Placed owner number) says is t = subst (λ xs. Turns on aged removed heard stopped around n after xs) is t
      by_homing after table same inside a homings.Moving says is t = subst (λ xs. Turns on aged removed heard stopped around n after xs) is t
      by_homing after table same inside a homings.NoRegion says is t = subst (λ xs. Turns on aged removed heard stopped around n after xs) is t

  -- ---- the home hosts the shard
  pub on_shard_started_does : (from : UniqueModel) (b : BallotModel) (shard number : ℕ) (s : ShardingModel) (n : Node Counts) → Part s n → Done n (on_shard_started around from b shard number s)
  on_shard_started_does from b shard number s n p =
      if_active_does b shard (λ table. (with_entry table shard (after_started from number (entry_of table shard)), [])) s n p (λ table at inside same a. (
        started_is_moves (line on aged removed) IsLater heard stopped around.me n p.like.runs a.trial a.phase a.last table same shard inside from number,
        length-set table shard (after_started from number (entry_of table shard)),
      ))

  -- ---- a node holds the shard
  pub on_ack_does : (from : UniqueModel) (b : BallotModel) (shard number : ℕ) (s : ShardingModel) (n : Node Counts) → Part s n → Done n (on_ack around from b shard number s)
  on_ack_does from b shard number s n p =
      if_active_does b shard (λ table.
      (with_entry table shard (after_ack from number (entry_of table shard)), orders_hand_off around b shard (is_last_ack from number (entry_of table shard)) (entry_of table shard).home)) s n p (λ table at inside same a.
      let acked = ack_is_moves (line on aged removed) IsLater heard stopped around.me n p.like.runs a.trial a.phase a.last table same shard inside from number in
      let after : Node Counts = record n { table = placements_of (with_entry table shard (after_ack from number (entry_of table shard))) } in (
        says_less (line on aged removed) IsLater heard stopped around.me n after (says_of (orders_hand_off around b shard (is_last_ack from number (entry_of table shard)) (entry_of table shard).home) ++ []) _
            (λ x there. contains_left (says_of (orders_hand_off around b shard (is_last_ack from number (entry_of table shard)) (entry_of table shard).home)) [] x there)
            (then (line on aged removed) IsLater heard stopped around.me n n after (says_of (orders_hand_off around b shard (is_last_ack from number (entry_of table shard)) (entry_of table shard).home)) []
            (by_last table same inside a (is_last_ack from number (entry_of table shard)) (entry_of table shard).home refl) acked),
        length-set table shard (after_ack from number (entry_of table shard)),
      ))
    where
      by_last : (table : ShardTable) → n.table ≡ placements_of table → shard < length table → (a : IsActive n b) → (t : Bool) (o : Option Home) → (entry_of table shard).home ≡ o
          → Turns on aged removed heard stopped around n n (says_of (orders_hand_off around b shard t o))
      by_last table same inside a false o at = stays (line on aged removed) IsLater heard stopped around.me n
      by_last table same inside a true None at = stays (line on aged removed) IsLater heard stopped around.me n
      by_last table same inside a true (Some home) at =
          said_with n n a.trial.ballot b (λ c. moves.HandOff c home.owner shard home.number ∷ []) a.ballot
          (recall_is_moves (line on aged removed) IsLater heard stopped around.me n p.like.runs a.trial a.phase a.last table same shard inside home at)

  -- ---- the shard is stopped at its home
  pub on_shard_stopped_does : (from : UniqueModel) (b : BallotModel) (shard number : ℕ) (s : ShardingModel) (n : Node Counts) → Part s n → heard from (moves.ShardStopped b shard number) → Done n (on_shard_stopped around from b shard number s)
  on_shard_stopped_does from b shard number s n p was_heard =
      if_active_does b shard (λ table. (with_entry table shard (after_stopped from number (loads around table) (entry_of table shard)), orders_placed around b shard (stopped_placed from number (loads around table) (entry_of table shard)))) s n p
      (λ table at inside same a.
      let m = stopped_is_moves (line on aged removed) IsLater heard stopped around.me n p.like.runs a.trial a.phase a.last table same shard inside from number (loads around table) (granters n p.like b a table)
      (subst (λ c. heard from (moves.ShardStopped c shard number)) (sym a.ballot) was_heard) in
      let after : Node Counts = record n { table = placements_of (with_entry table shard (after_stopped from number (loads around table) (entry_of table shard))) } in (
        by_placed after table same inside a (stopped_placed from number (loads around table) (entry_of table shard)) m.0 m.1 m.2,
        length-set table shard (after_stopped from number (loads around table) (entry_of table shard)),
      ))
    where
      by_placed : (after : Node Counts) (table : ShardTable) (same : n.table ≡ placements_of table) (inside : shard < length table) (a : IsActive n b) (o : Option Home) (says : List (Said Counts))
          → SaysPlaced (line on aged removed) IsLater heard stopped around.me n p.like.runs a.trial a.phase a.last table same shard inside o says → Turns on aged removed heard stopped around n after says
          → Turns on aged removed heard stopped around n after (says_of (orders_placed around b shard o))
      by_placed after table same inside a None says is t = subst (λ xs. Turns on aged removed heard stopped around n after xs) is t
      by_placed after table same inside a (Some home) says is t =
          said_with n after a.trial.ballot b (λ c. moves.HostShard c home.owner shard home.number ∷ []) a.ballot (subst (λ xs. Turns on aged removed heard stopped around n after xs) is t)

  -- ---- a tick
  order_says : (b : BallotModel) (given : Order) → said_by (gives_order around b given) ≡ order_said around.settings.margin around.settled (line on aged removed) IsLater heard stopped around.me b given ∷ []
  order_says b (order.Begin shard number who) = refl
  order_says b (order.HandOff shard number who) = refl
  order_says b (order.Host shard number who) = refl

  orders_say : (b : BallotModel) (orders : List Order) → says_of (map (gives_order around b) orders) ≡ map (order_said around.settings.margin around.settled (line on aged removed) IsLater heard stopped around.me b) orders
  orders_say b [] = refl
  orders_say b (given ∷ orders) = λ i. order_says b given i ++ orders_say b orders i

  coordinates_with_does : (b : BallotModel) (s : ShardingModel) (n : Node Counts) → Part s n → IsActive n b → Done n (coordinates_with around (Some b) s)
  coordinates_with_does b s n p a =
      table_does (λ table. (ticked_table around table, map (gives_order around b) (orders_from 0 (ticked_table around table)))) s n p (λ table at same many.
      let after : Node Counts = record n { table = placements_of (ticked_table around table) } in (
        subst (λ xs. Turns on aged removed heard stopped around n after xs) (sym (orders_say b (orders_from 0 (ticked_table around table))))
            (said_with n after a.trial.ballot b (λ c. map (order_said around.settings.margin around.settled (line on aged removed) IsLater heard stopped around.me c) (orders_from 0 (ticked_table around table))) a.ballot
            (tick_is_moves around.settings.margin around.settled (line on aged removed) IsLater heard stopped around.me n p.like.runs a.trial a.phase a.last table same p.like.finished around.singleton.granted around.settings.threshold around.settings.limit)),
        ticked_many around.singleton.granted around.settled around.settings.margin around.settings.threshold around.settings.limit table,
      ))

  pub coordinates_does : (s : ShardingModel) (n : Node Counts) → Part s n → Done n (coordinates around s)
  coordinates_does s n p = by_phase (is_active around.singleton.phase) refl
    where
      by_live : is_active around.singleton.phase ≡ true → (o : Option BallotModel) → around.singleton.live ≡ o → Done n (coordinates_with around o s)
      by_live act None none = nothing_does on aged removed heard stopped around s n p
      by_live act (Some b) live = coordinates_with_does b s n p (active_from n p.like around.singleton.phase refl act b live)

      by_phase : (t : Bool) → is_active around.singleton.phase ≡ t → Done n (cond t (coordinates_with around around.singleton.live s) (nothing s))
      by_phase true act = by_live act around.singleton.live refl
      by_phase false rests = nothing_does on aged removed heard stopped around s n p
