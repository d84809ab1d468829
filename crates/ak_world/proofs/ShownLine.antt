-- What a settled view says along the line, where it shows what the history shows at its version: as it was noted, or after ticks.
use Rattle.std.proofs.Common.{◌≡◌, ◌≢◌, ℕ, ◌≤◌, Bool, true, false, not, ◌⊎◌, inl, inr, List, [], ◌∷◌, ◌++◌, Option, Some, None, is_some, IsSome, slice_get, IsTrue, refl, sym, ap, ◌∙◌, subst, arith, true≢false}
use Rattle.std.proofs.lemmas.Bool.{leb-true}
use Rattle.std.specs.FinMap as map
use Rattle.ak_address.specs.Unique.{UniqueModel}
use Rattle.ak_address.specs.Uniques.{has}
use Rattle.ak_clock.specs.Version.{Counts, count}
use Rattle.ak_clock.proofs.VersionLaws.{count-empty}
use Rattle.ak_member.specs.declared.effect.Effect.{Effect}
use Rattle.ak_member.specs.declared.effect.Effect.TheVariants.{Rise, Removed}
use Rattle.ak_member.specs.declared.standing.Standing.{Standing}
use Rattle.ak_member.specs.declared.standing.Standing.TheVariants.{Member, Buried}
use Rattle.ak_member.specs.declared.status.Status.{Status}
use Rattle.ak_member.specs.declared.status.Status.TheVariants.{Joining}
use Rattle.ak_member.specs.Age.{counted_pairs, least_pair, IsOldest}
use Rattle.ak_member.specs.Standing.{Standings, member_of, members_of, tombstone_of, is_up}
use Rattle.ak_address.proofs.TableLaws.{get-empty}
use Rattle.ak_member.proofs.OldestLaws.{oldest_is}
use Rattle.ak_history.specs.declared.entry.Entry.{Entry}
use Rattle.ak_history.specs.History.{IsNumbered, view}
use Rattle.ak_history.specs.Shown.{Did, IsRemoved, Stands}
use Rattle.ak_history.proofs.HistoryLemmas.{number_range}
use Rattle.ak_history.proofs.StandingsShown.{standings_shown}
use Rattle.ak_line.specs.Grows.{Grows}
use Rattle.ak_settings.specs.Settings.{SettingsModel, settling_size}
use Rattle.ak_schedule.specs.declared.event.Event.{Event}
use Rattle.ak_settled.specs.Settled.{is_finished, needed, candidate, ticked}
use Rattle.ak_settled.specs.SettledView.{SettledView, SettledModel, NotedView}
use Rattle.ak_settled.proofs.SettledLaws as settled
use Rattle.ak_settled.proofs.SettledLaws.{finished_means, counts_risen}
use Rattle.ak_membership.specs.Knowledge.{WaitsOn}
use Rattle.ak_node.specs.declared.node.State.{State}
use Rattle.ak_node.specs.Node.{settled_of}
use Rattle.ak_node.proofs.StepMoves.{IsShown}
use Rattle.ak_world.specs.RunLine.{IsAged, line_of}
use Rattle.ak_world.specs.SettledLine.{WasSettled, IsOverHalf}
use Rattle.ak_world.specs.World.{WorldState, run}
use Rattle.ak_world.specs.Remembered.{Remembered, nothing_remembered, remembered}
use Rattle.ak_world.proofs.Ages.{RaisesAbove, ShowsAged, risen_aged, member_not_removed, removed_shown, aged_shown}
use Rattle.ak_world.proofs.AsLine.{line_grows}
use Rattle.ak_world.proofs.FoldRuns.{run_sound}
use Rattle.ak_world.proofs.Founding.{base_of}
use Rattle.ak_world.proofs.Noted.{settled_is}
use Rattle.ak_world.proofs.RaisedRuns.{raised}
use Rattle.ak_world.proofs.RememberedLemmas.{remembered-world}
use Rattle.ak_world.proofs.SettledRuns.{noted_was_settled}

pub raises_above : (settings : SettingsModel) (events : List Event) → RaisesAbove (run settings events).history
raises_above settings events =
    subst (λ (w : WorldState). RaisesAbove w.history) (remembered-world settings nothing_remembered events) (λ entry who number there does.
    let r : Remembered = remembered settings events in
    let k = raised settings events in
    let base = base_of settings r k entry there in
    k.may entry base.0 (Rise who Joining number) base.1 does)

-- ---- of a view that shows what a history shows at its version
module _ (history : List Entry) (above : RaisesAbove history) (noted : NotedView) (shown_is : noted.standings ≡ (view history noted.version).standings) where
  -- the candidate has aged, and was not removed
  pub oldest_aged : (who : UniqueModel) → candidate (Some noted) ≡ Some who → IsAged history noted.version who × (IsRemoved history noted.version who → ⊥)
  oldest_aged who is =
      let oldest : IsOldest noted.standings (Some who) = subst (IsOldest noted.standings) is (oldest_is noted.standings (least_pair (counted_pairs (members_of noted.standings))) refl) in
      let c = oldest.1 in
      let member : member_of (map.get (view history noted.version).standings who) ≡ Some (c.0, oldest.0) = ap (λ (s : Standings). member_of (map.get s who)) (sym shown_is) ∙ c.1 in
      (risen_aged history noted.version who c.0 oldest.0 member (counts_risen c.0 c.2), member_not_removed history noted.version who (c.0, oldest.0) member)

  -- whoever has aged is needed, or finished
  pub needed_or_over : (margin : ℕ) (who : UniqueModel) → IsAged history noted.version who → IsTrue (has (needed margin (Some noted)) who) ⊎ IsTrue (is_finished margin (Some noted) who)
  needed_or_over margin who aged = by_shown (subst (λ (s : Standings). ShowsAged (map.get s who)) (sym shown_is) (aged_shown history noted.version who above aged))
    where
      by_finished : (b : Bool) → is_finished margin (Some noted) who ≡ b → has (needed margin (Some noted)) who ≡ not (is_finished margin (Some noted) who) → IsTrue (has (needed margin (Some noted)) who) ⊎ IsTrue (is_finished margin (Some noted) who)
      by_finished true is needs = inr is
      by_finished false is needs = inl (needs ∙ ap not is)

      by_shown : ShowsAged (map.get noted.standings who) → IsTrue (has (needed margin (Some noted)) who) ⊎ IsTrue (is_finished margin (Some noted) who)
      by_shown (inl buried) = by_finished (is_finished margin (Some noted) who) refl (settled.tombstone margin (Some noted) who buried)
      by_shown (inr (status, number, is, apart)) = inl (settled.member margin (Some noted) who status number is apart).0

  -- a tombstone was removed, and whoever was removed is a tombstone
  pub tombstone_removed : (who : UniqueModel) (confirmed : Bool) → tombstone_of (map.get noted.standings who) ≡ Some confirmed → IsRemoved history noted.version who
  tombstone_removed who confirmed is = by_standing (map.get (view history noted.version).standings who) (standings_shown history noted.version who) (ap (λ (s : Standings). tombstone_of (map.get s who)) (sym shown_is) ∙ is)
    where
      by_standing : (o : Option Standing) → Stands history noted.version who o → tombstone_of o ≡ Some confirmed → IsRemoved history noted.version who
      by_standing None stands at = absurd (true≢false (sym (ap is_some at)))
      by_standing (Some (Member status number)) stands at = absurd (true≢false (sym (ap is_some at)))
      by_standing (Some (Buried b)) stands at = stands.0

  pub removed_buried : (who : UniqueModel) → IsRemoved history noted.version who → IsSome (tombstone_of (map.get noted.standings who))
  removed_buried who gone = subst (λ (s : Standings). IsSome (tombstone_of (map.get s who))) (sym shown_is) (removed_shown history noted.version who gone)

up_apart : (status : Status) → is_up status ≡ true → status ≢ Joining
up_apart status up joining = true≢false (sym up ∙ ap is_up joining)

-- the empty version shows that nothing was done
nothing_did : (history : List Entry) → IsNumbered history → (x : Effect) → Did history map.empty x → ⊥
nothing_did history numbered x d =
    let least = (number_range history d.entry numbered d.in_history).least in
    let most : d.entry.number ≤ count map.empty d.entry.author = leb-true d.entry.number (count map.empty d.entry.author) d.covered in
    let none = count-empty d.entry.author in
    omega arith

module _ (settings : SettingsModel) (quorum : ℕ) where
  abbrev pub OnAt : List Event → Counts → Type 0
  OnAt events = WasSettled settings events quorum

  abbrev pub AgedAt : List Event → Counts → UniqueModel → Type 0
  AgedAt events = IsAged (run settings events).history

  abbrev pub RemovedAt : List Event → Counts → UniqueModel → Type 0
  RemovedAt events = IsRemoved (run settings events).history

  -- a settled view shows what the history does, and was settled
  abbrev pub ShowsAt : List Event → SettledView → Type 0
  ShowsAt events None = Unit {0}
  ShowsAt events (Some noted) = (noted.standings ≡ (view (run settings events).history noted.version).standings) × WasSettled settings events quorum noted.version

  -- so does that of a node
  pub node_shows : IsOverHalf settings quorum → (events : List Event) (index : ℕ) (n : State) → slice_get (run settings events).nodes index ≡ Some n → ShowsAt events (settled_of n)
  node_shows over_half events index n at = by_view (settled_of n) refl
    where
      by_view : (v : SettledView) → settled_of n ≡ v → ShowsAt events v
      by_view None is = tt
      by_view (Some noted) is =
          ((settled_is settings events index n noted at is).shown, subst (λ q. WasSettled settings events q noted.version) (ap settling_size over_half.0) (noted_was_settled settings events index n noted at is))

  -- and after a tick's wait
  pub ticked_shows : (events : List Event) (margin : ℕ) (v : SettledView) → ShowsAt events v → ShowsAt events (ticked margin v)
  ticked_shows events margin None is = tt
  ticked_shows events margin (Some noted) is = is

  pub waits_shows : (events : List Event) (margin : ℕ) (old new : SettledModel) → WaitsOn margin old new → ShowsAt events old.view → ShowsAt events new.view
  waits_shows events margin old new (inl same) is = subst (λ (s : SettledModel). ShowsAt events s.view) (sym same) is
  waits_shows events margin old new (inr later) is = subst (λ (s : SettledModel). ShowsAt events s.view) (sym later) (ticked_shows events margin old.view is)

  none_finished : (margin : ℕ) (q : UniqueModel) {P : Type 0} → IsTrue (is_finished margin None q) → P
  none_finished margin q is = absurd (true≢false (sym is))

  -- what is known of it, now
  pub shown_at : (events : List Event) (margin : ℕ) (v : SettledView) → ShowsAt events v → IsShown (OnAt events) (AgedAt events) (RemovedAt events) margin v
  shown_at events margin None is = record {
    known = record {
      settles = λ some. absurd (true≢false (sym some));
      oldest = λ q none. absurd (true≢false (sym (ap is_some none)));
      reached = λ q aged. absurd (none_aged q aged);
    };
    over = λ q over. none_finished margin q over;
    buried = λ q gone. absurd (none_removed q gone);
    risen = λ who status number at up. absurd (true≢false (sym (ap is_some (sym (ap member_of (get-empty who)) ∙ at))));
  }
    where
      numbered : IsNumbered (run settings events).history
      numbered = (run_sound settings events).is_numbered

      none_removed : (q : UniqueModel) → IsRemoved (run settings events).history map.empty q → ⊥
      none_removed q (inl d) = nothing_did (run settings events).history numbered (Removed q true) d
      none_removed q (inr d) = nothing_did (run settings events).history numbered (Removed q false) d

      none_aged : (q : UniqueModel) → IsAged (run settings events).history map.empty q → ⊥
      none_aged q (inl rose) = nothing_did (run settings events).history numbered (Rise q rose.0 rose.1) rose.2
      none_aged q (inr gone) = none_removed q gone
  shown_at events margin (Some noted) is =
      let history = (run settings events).history in
      let above = raises_above settings events in
      record {
        known = record {
          settles = λ some. is.1;
          oldest = λ q at. let c = oldest_aged history above noted is.0 q at in (refl, c.0, c.1);
          reached = λ q aged. needed_or_over history above noted is.0 margin q aged;
        };
        over = λ q over. let t = finished_means margin (Some noted) q over in (refl, tombstone_removed history above noted is.0 q t.0 t.1);
        buried = λ q gone. removed_buried history above noted is.0 q gone;
        risen = λ who status number at up. risen_aged history noted.version who status number (ap (λ (s : Standings). member_of (map.get s who)) (sym is.0) ∙ at) (up_apart status up);
      }

  -- and at the next event
  pub shown_next : (events : List Event) (e : Event) (margin : ℕ) (v : SettledView) → ShowsAt events v → IsShown (OnAt (events ++ e ∷ [])) (AgedAt (events ++ e ∷ [])) (RemovedAt (events ++ e ∷ [])) margin v
  shown_next events e margin None is = shown_at (events ++ e ∷ []) margin None tt
  shown_next events e margin (Some noted) is =
      let g : Grows Counts (line_of settings events quorum) (OnAt (events ++ e ∷ [])) (AgedAt (events ++ e ∷ [])) (RemovedAt (events ++ e ∷ [])) = line_grows settings events (e ∷ []) quorum in
      let s = shown_at events margin (Some noted) is in
      record {
        known = record {
          settles = λ some. g.still_on noted.version is.1;
          oldest = λ q at. let c = s.known.oldest q at in (c.0, g.aged_then noted.version q is.1 c.1, λ gone. c.2 (g.removed_before noted.version q is.1 gone));
          reached = λ q aged. s.known.reached q (g.aged_before noted.version q is.1 aged);
        };
        over = λ q over. let o = s.over q over in (o.0, g.removed_then noted.version q is.1 o.1);
        buried = λ q gone. s.buried q (g.removed_before noted.version q is.1 gone);
        risen = λ who status number at up. g.aged_then noted.version who is.1 (s.risen who status number at up);
      }
