-- While the margin is kept at most one node of a run runs the singleton.
use Rattle.std.proofs.Common.{◌≡◌, ℕ, ◌≤◌, List, Some, slice_get, take, true, subst}
use Rattle.ak_clock.specs.Version.{Counts}
use Rattle.ak_line.specs.Moves as moves
use Rattle.ak_line.specs.Moves.{Trial, Cluster}
use Rattle.ak_line.specs.BallotOrder.{IsLater}
use Rattle.ak_line.proofs.OneSingleton.{one_singleton}
use Rattle.ak_settings.specs.Settings.{SettingsModel}
use Rattle.ak_schedule.specs.declared.event.Event.{Event}
use Rattle.ak_singleton.proofs.AsMoves.{HasPhase}
use Rattle.ak_node.specs.declared.node.State.{State}
use Rattle.ak_node.specs.Node.{me_of}
use Rattle.ak_world.specs.declared.margin.Margin.TheVariants.{Kept}
use Rattle.ak_world.specs.Margin.{IsMargin}
use Rattle.ak_world.specs.RunLine.{line_of}
use Rattle.ak_world.specs.SettledLine.{IsOverHalf}
use Rattle.ak_world.specs.Singletons.{FinishedHaveStopped, OneIsActive, RunsSingleton}
use Rattle.ak_world.specs.World.{run}
use Rattle.ak_world.specs.Uids.{HaveUids}
use Rattle.ak_world.proofs.Addressed.{uids_first}
use Rattle.ak_world.proofs.AsLine.{run_is_line}
use Rattle.ak_world.proofs.FinishedRuns.{all_rest}
use Rattle.ak_world.proofs.FoldRuns.{run_sound}
use Rattle.ak_world.proofs.Mirrored.{IsMirrored, mirrored}
use Rattle.ak_world.proofs.TellsRuns.{tells_exactly}

module _ (settings : SettingsModel) (events : List Event) (quorum : ℕ) (over_half : IsOverHalf settings quorum) (least : 1 ≤ settings.margin) (kept : IsMargin settings events Kept) (uids : HaveUids (run settings events)) where
  -- a node that runs the singleton has its like among the moves'
  active_there : (c : Cluster Counts) → IsMirrored settings quorum events c → (index : ℕ) (n : State) → slice_get (run settings events).nodes index ≡ Some n → RunsSingleton n
      → (t : Trial Counts) × ((c.node (me_of n)).runs ≡ true) × ((c.node (me_of n)).phase ≡ moves.Active t)
  active_there c k index n at (runs, active) =
      let part = (k.at index n at).running runs in
      let t = subst (λ x. HasPhase n.singleton x (c.node (me_of n))) active part.like.phase in
      (t.0, part.like.runs, t.1)

  pub one_runs : (i j : ℕ) (n m : State) → slice_get (run settings events).nodes i ≡ Some n → slice_get (run settings events).nodes j ≡ Some m → RunsSingleton n → RunsSingleton m → i ≡ j
  one_runs i j n m at_i at_j active_n active_m =
      let b = mirrored settings quorum over_half events kept least uids in
      let c = b.0 in
      let x = active_there c b.1 i n at_i active_n in
      let y = active_there c b.1 j m at_j active_m in
      (run_sound settings events).apart i j n m at_i at_j
      (one_singleton (line_of settings events quorum) (run_is_line settings events quorum over_half) IsLater c b.1.safe.promised (me_of n) (me_of m) x.0 y.0 x.1 y.1 x.2 y.2)

-- ---- in the words of what nodes tell
module _ (settings : SettingsModel) (events : List Event) (quorum : ℕ) (over_half : IsOverHalf settings quorum) (least : 1 ≤ settings.margin) (kept : IsMargin settings events Kept) (uids : HaveUids (run settings events)) where
  pub one_tells : OneIsActive settings events
  one_tells i j a b =
      let x = (tells_exactly settings events i).0 a in
      let y = (tells_exactly settings events j).0 b in
      one_runs settings events quorum over_half least kept uids i j x.0 y.0 x.1 y.1 x.2 y.2

-- ---- as a clause of `apply` says it
pub one_active-of_run : (settings : SettingsModel) (events : List Event) → HaveUids (run settings events) → 1 ≤ settings.margin → (quorum time : ℕ) → IsOverHalf settings quorum → IsMargin settings (take time events) Kept → OneIsActive settings (take time events)
one_active-of_run settings events uids least quorum time over_half kept = one_tells settings (take time events) quorum over_half least kept (uids_first settings events time uids)

pub finished-of_run : (settings : SettingsModel) (events : List Event) → 1 ≤ settings.margin → (time : ℕ) → IsMargin settings (take time events) Kept → FinishedHaveStopped settings (take time events)
finished-of_run settings events least time kept = all_rest settings (take time events) kept least
