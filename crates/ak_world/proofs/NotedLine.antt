-- What the settled view that a node has noted says along the line: its version is on it; its candidate has aged and was not
-- removed; whoever has aged by it is needed or finished there; and it has not removed the node itself.
use Rattle.std.proofs.Common.{◌≡◌, ℕ, false, ◌⊎◌, List, Option, Some, None, IsSome, slice_get, IsTrue, sym, true≢false}
use Rattle.std.specs.FinMap as map
use Rattle.ak_address.specs.Unique.{UniqueModel}
use Rattle.ak_address.specs.Uniques.{has}
use Rattle.ak_member.specs.declared.standing.Standing.{Standing}
use Rattle.ak_member.specs.declared.standing.Standing.TheVariants.{Member, Buried}
use Rattle.ak_member.specs.Standing.{tombstone_of, is_gone}
use Rattle.ak_history.specs.declared.entry.Entry.{Entry}
use Rattle.ak_history.specs.History.{view}
use Rattle.ak_history.specs.Shown.{IsRemoved}
use Rattle.ak_settings.specs.Settings.{SettingsModel}
use Rattle.ak_schedule.specs.declared.event.Event.{Event}
use Rattle.ak_settled.specs.Settled.{is_finished, needed, candidate}
use Rattle.ak_settled.specs.SettledView.{NotedView}
use Rattle.ak_node.specs.declared.node.State.{State}
use Rattle.ak_node.specs.Node.{me_of}
use Rattle.ak_world.specs.RunLine.{IsAged}
use Rattle.ak_world.specs.World.{run}
use Rattle.ak_world.proofs.Noted.{settled_is}
use Rattle.ak_world.proofs.ShownLine.{raises_above, oldest_aged, needed_or_over, removed_buried}

module _ (settings : SettingsModel) (events : List Event) (index : ℕ) (n : State) (noted : NotedView) (at : slice_get (run settings events).nodes index ≡ Some n) (noted_is : n.membership.settled.view ≡ Some noted) where
  abbrev history : List Entry
  history = (run settings events).history

  shown_is : noted.standings ≡ (view history noted.version).standings
  shown_is = (settled_is settings events index n noted at noted_is).shown

  -- the candidate has aged, and was not removed
  pub candidate_aged : (who : UniqueModel) → candidate (Some noted) ≡ Some who → IsAged history noted.version who × (IsRemoved history noted.version who → ⊥)
  candidate_aged who is = oldest_aged history (raises_above settings events) noted shown_is who is

  -- whoever has aged is needed, or finished
  pub aged_reached : (margin : ℕ) (who : UniqueModel) → IsAged history noted.version who → IsTrue (has (needed margin (Some noted)) who) ⊎ IsTrue (is_finished margin (Some noted) who)
  aged_reached margin who aged = needed_or_over history (raises_above settings events) noted shown_is margin who aged

  -- the node itself was not removed
  pub itself_kept : IsRemoved history noted.version (me_of n) → ⊥
  itself_kept removed = by_standing (map.get noted.standings (me_of n)) (removed_buried history (raises_above settings events) noted shown_is (me_of n) removed) (settled_is settings events index n noted at noted_is).stays
    where
      by_standing : (o : Option Standing) → IsSome (tombstone_of o) → is_gone o ≡ false → ⊥
      by_standing None buried stays = true≢false (sym buried)
      by_standing (Some (Member status number)) buried stays = true≢false (sym buried)
      by_standing (Some (Buried confirmed)) buried stays = true≢false stays
