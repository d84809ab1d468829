-- While the removal margin is kept no shard is hosted at two running nodes, and the running coordinator's table has each shard that a
-- running node hosts; so no entity is active at two running nodes.
use Rattle.std.proofs.Common.{◌≡◌, ℕ, zero, suc, ◌≤◌, true, List, [], ◌∷◌, length, replicate, Option, Some, None, is_some, Result, Ok, Err, slice_get, take, IsTrue, refl, sym, ap, ◌∙◌, subst, true≢false}
use Rattle.ak_coordinator.specs.Table.{ShardTable}
use Rattle.ak_coordinator.specs.Coordinator.{entry_of}
use Rattle.ak_region.specs.Slot.{untold}
use Rattle.ak_line.specs.Shards.{Mark}
use Rattle.ak_singleton.specs.declared.phase.Phase.TheVariants.{Active}
use Rattle.ak_singleton.proofs.AsMoves.{HasPhase}
use Rattle.ak_address.specs.Unique.{UniqueModel}
use Rattle.ak_clock.specs.Version.{Counts}
use Rattle.ak_line.specs.BallotOrder.{IsLater}
use Rattle.ak_line.specs.Moves.{Cluster}
use Rattle.ak_line.proofs.OneHome.{one_home}
use Rattle.ak_line.proofs.OneHome.{in_table as line_table}
use Rattle.ak_sharding.proofs.FlightLemmas.{home_back}
use Rattle.ak_node.proofs.StepHosts.{IsWell, step_well}
use Rattle.ak_node.proofs.StepTables.{HasTable}
use Rattle.ak_node.proofs.StepTables.{step_well as step_tabled}
use Rattle.ak_world.specs.declared.world.Reason.{Reason}
use Rattle.ak_world.proofs.IndexLemmas.{push_at, set_at}
use Rattle.ak_world.proofs.WhatHappened.{begins, steps, nobody, IsAnswer, happened}
use Rattle.ak_region.specs.Marks.{marks_of}
use Rattle.ak_settings.specs.Settings.{SettingsModel, division_of, shard_by}
use Rattle.ak_shard_id.specs.Division.{shard_in}
use Rattle.ak_region.specs.Region.{entity_shard}
use Rattle.ak_schedule.specs.declared.event.Event.{Event}
use Rattle.ak_sharding.specs.Alive.{IsActive, Hosts}
use Rattle.ak_sharding.proofs.NewEntities.{new_hosted}
use Rattle.ak_sharding.proofs.NoDouble.{one_place}
use Rattle.ak_node.specs.declared.node.State.{State}
use Rattle.ak_node.specs.Node.{started, me_of, step}
use Rattle.ak_node.proofs.StepMoves.{IsPart}
use Rattle.ak_world.specs.declared.margin.Margin.TheVariants.{Kept}
use Rattle.ak_world.specs.Margin.{IsMargin}
use Rattle.ak_world.specs.RunLine.{line_of}
use Rattle.ak_world.specs.SettledLine.{IsOverHalf}
use Rattle.ak_world.specs.World.{WorldState, Done, empty_world, happens, after, run_from, run}
use Rattle.ak_world.proofs.FoldRuns.{run_sound}
use Rattle.ak_world.specs.Homes.{HasOneHome}
use Rattle.ak_world.specs.Uids.{HaveUids}
use Rattle.ak_world.proofs.Addressed.{uids_first}
use Rattle.ak_world.proofs.Mirrored as mirrors
use Rattle.ak_world.proofs.Mirrored.{IsMirrored}

-- ---- each node of a run keeps entities of hosted shards alone, and divides entities as its settings do
module _ (settings : SettingsModel) where
  abbrev AllWell : WorldState → Type 0
  AllWell w = (index : ℕ) (n : State) → slice_get w.nodes index ≡ Some n → IsWell (division_of settings) n

  new_well : (u : UniqueModel) → IsWell (division_of settings) (started u settings)
  new_well u = (new_hosted settings, refl)

  happened_well : (w : WorldState) → AllWell w → (r : Result Done Reason) → IsAnswer settings w r → AllWell (after w r)
  happened_well w all (Err why) is = all
  happened_well w all (Ok done) is = elim is as (λ d h. AllWell d.world) [
    | begins u unknown free listed few ↦ push_at (λ j m. IsWell (division_of settings) m) w.nodes (started u settings) all (new_well u)
    | steps ev index n founded at runs was_sent ↦ set_at (λ j m. IsWell (division_of settings) m) w.nodes index (step ev n).0 (λ j m is apart. all j m is) (step_well (division_of settings) ev n (all index n at))
    | nobody ↦ all
  ]

  run_well : (events : List Event) (w : WorldState) → AllWell w → AllWell (run_from settings w events)
  run_well [] w all = all
  run_well (e ∷ events) w all = run_well events (after w (happens settings e w)) (happened_well w all (happens settings e w) (happened settings w e))

  pub all_well : (events : List Event) → AllWell (run settings events)
  all_well events = run_well events empty_world (λ index n at. absurd (cc))

  -- an entity has the same shard at each node of a run
  pub one_shard : (events : List Event) (index : ℕ) (n : State) (entity : List ℕ) → slice_get (run settings events).nodes index ≡ Some n → entity_shard n.sharding.region entity ≡ shard_by settings entity
  one_shard events index n entity at = ap (λ d. shard_in d entity) (all_well events index n at).1

-- ---- each node of a run that asks or is active has a table
module _ (settings : SettingsModel) where
  abbrev AllTabled : WorldState → Type 0
  AllTabled w = (index : ℕ) (n : State) → slice_get w.nodes index ≡ Some n → HasTable n

  happened_tabled : (w : WorldState) → AllTabled w → (r : Result Done Reason) → IsAnswer settings w r → AllTabled (after w r)
  happened_tabled w all (Err why) is = all
  happened_tabled w all (Ok done) is = elim is as (λ d h. AllTabled d.world) [
    | begins u unknown free listed few ↦ push_at (λ j m. HasTable m) w.nodes (started u settings) all (λ b live. absurd (true≢false (sym (ap is_some live))))
    | steps ev index n founded at runs was_sent ↦ set_at (λ j m. HasTable m) w.nodes index (step ev n).0 (λ j m is apart. all j m is) (step_tabled ev n (all index n at))
    | nobody ↦ all
  ]

  run_tabled : (events : List Event) (w : WorldState) → AllTabled w → AllTabled (run_from settings w events)
  run_tabled [] w all = all
  run_tabled (e ∷ events) w all = run_tabled events (after w (happens settings e w)) (happened_tabled w all (happens settings e w) (happened settings w e))

  pub all_tabled : (events : List Event) → AllTabled (run settings events)
  all_tabled events = run_tabled events empty_world (λ index n at. absurd (cc))

module _ (settings : SettingsModel) (events : List Event) (quorum : ℕ) (over_half : IsOverHalf settings quorum) (least : 1 ≤ settings.margin) (kept : IsMargin settings events Kept) (uids : HaveUids (run settings events)) where
  mirrored : (c : Cluster Counts) × IsMirrored settings quorum events c
  mirrored = mirrors.mirrored settings quorum over_half events kept least uids

  part_of : (index : ℕ) (n : State) → slice_get (run settings events).nodes index ≡ Some n → IsTrue n.runs → IsPart n (mirrored.0.node (me_of n))
  part_of index n at runs = (mirrored.1.at index n at).running runs

  -- no shard is hosted at two running nodes
  pub one_host : (i j : ℕ) (n m : State) → slice_get (run settings events).nodes i ≡ Some n → slice_get (run settings events).nodes j ≡ Some m → IsTrue n.runs → IsTrue m.runs
      → (shard : ℕ) → Hosts n.sharding shard → Hosts m.sharding shard → i ≡ j
  one_host i j n m at_i at_j runs_n runs_m shard hosts_n hosts_m =
      let p = part_of i n at_i runs_n in
      let q = part_of j m at_j runs_m in
      (run_sound settings events).apart i j n m at_i at_j
      (one_home (line_of settings events quorum) IsLater mirrored.0 mirrored.1.safe (me_of n) (me_of m) shard
      (p.like.runs, ap (λ f. (f shard).hosts) p.sharing.marks ∙ hosts_n) (q.like.runs, ap (λ f. (f shard).hosts) q.sharing.marks ∙ hosts_m))

  -- no entity is active at two running nodes
  pub one_entity : (i j : ℕ) (n m : State) → slice_get (run settings events).nodes i ≡ Some n → slice_get (run settings events).nodes j ≡ Some m → IsTrue n.runs → IsTrue m.runs
      → (e : List ℕ) → IsActive n.sharding e → IsActive m.sharding e → i ≡ j
  one_entity i j n m at_i at_j runs_n runs_m e active_n active_m =
      let p = part_of i n at_i runs_n in
      let q = part_of j m at_j runs_m in
      let w = all_well settings events i n at_i in
      let v = all_well settings events j m at_j in
      (run_sound settings events).apart i j n m at_i at_j
      (one_place (line_of settings events quorum) IsLater mirrored.0 mirrored.1.safe (me_of n) (me_of m) n.sharding m.sharding p.sharing q.sharing w.0 v.0 (w.1 ∙ sym v.1) p.like.runs q.like.runs e active_n active_m)

  -- while a node coordinates, its table has each shard that a running node hosts, with that node and that number
  in_its_table : (i j : ℕ) (n m : State) → slice_get (run settings events).nodes i ≡ Some n → slice_get (run settings events).nodes j ≡ Some m → IsTrue n.runs → IsTrue m.runs → n.singleton.phase ≡ Active
      → (table : ShardTable) → n.sharding.table ≡ Some table → (shard : ℕ) → Hosts m.sharding shard → (entry_of table shard).home ≡ Some (record { owner = me_of m; number = (marks_of m.sharding.region shard).number })
  in_its_table i j n m at_i at_j runs_n runs_m active table has shard hosts =
      let p = part_of i n at_i runs_n in
      let q = part_of j m at_j runs_m in
      let t = subst (λ ph. HasPhase n.singleton ph (mirrored.0.node (me_of n))) active p.like.phase in
      let marks = ap (λ f. f shard) q.sharing.marks in
      let placed = line_table (line_of settings events quorum) IsLater mirrored.0 mirrored.1.safe (me_of n) (me_of m) shard t.0 p.like.runs t.1 (q.like.runs, ap (λ (k : Mark). k.hosts) marks ∙ hosts) in
      home_back (entry_of table shard).home (record { node = me_of m; number = ((mirrored.0.node (me_of m)).marks shard).number }) (sym (ap (λ f. (f shard).home) (p.sharing.table table has).0) ∙ placed)
      ∙ ap (λ (k : Mark). Some (record { owner = me_of m; number = k.number })) marks

  -- so an active node has a table, and there each such shard stands
  pub in_table : (i j : ℕ) (n m : State) → slice_get (run settings events).nodes i ≡ Some n → slice_get (run settings events).nodes j ≡ Some m → IsTrue n.runs → IsTrue m.runs → n.singleton.phase ≡ Active
      → (shard : ℕ) → Hosts m.sharding shard → (table : ShardTable) × (n.sharding.table ≡ Some table) × ((entry_of table shard).home ≡ Some (record { owner = me_of m; number = (marks_of m.sharding.region shard).number }))
  in_table i j n m at_i at_j runs_n runs_m active shard hosts =
      let t = subst (λ ph. HasPhase n.singleton ph (mirrored.0.node (me_of n))) active (part_of i n at_i runs_n).like.phase in
      by_table n.sharding.table refl (all_tabled settings events i n at_i t.0.ballot t.2.ballot)
    where
      by_table : (o : Option ShardTable) → n.sharding.table ≡ o → is_some n.sharding.table ≡ true → (table : ShardTable) × (n.sharding.table ≡ Some table) × ((entry_of table shard).home ≡ Some (record { owner = me_of m; number = (marks_of m.sharding.region shard).number }))
      by_table None none some = absurd (true≢false (sym some ∙ ap is_some none))
      by_table (Some table) has some = (table, has, in_its_table i j n m at_i at_j runs_n runs_m active table has shard hosts)

-- ---- as a clause of `apply` says it
pub one_home-of_run : (settings : SettingsModel) (events : List Event) → HaveUids (run settings events) → 1 ≤ settings.margin → (quorum time : ℕ) → IsOverHalf settings quorum → IsMargin settings (take time events) Kept → HasOneHome settings (take time events)
one_home-of_run settings events uids least quorum time over_half kept =
    let now = uids_first settings events time uids in
    record {
      hosted = one_host settings (take time events) quorum over_half least kept now;
      table = λ i j n m at_i at_j active runs shard hosts. in_table settings (take time events) quorum over_half least kept now i j n m at_i at_j active.0 runs active.1 shard hosts;
    }
