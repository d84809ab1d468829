-- A run of a world gives a line: its settled versions stand in one line, along which who has aged and who was removed only grows,
-- also as the run goes on; and nobody has aged that was not started.
use Rattle.std.proofs.Common.{◌≡◌, ℕ, true, false, inl, inr, List, ◌++◌, refl, sym, ap, ◌∙◌, subst, arith}
use Rattle.ak_address.specs.Unique.{UniqueModel}
use Rattle.ak_clock.specs.Version.{Counts, Covers}
use Rattle.ak_clock.proofs.VersionLaws.{count-empty, covers_itself, covers_along, merged_covers_first, merged_covers_second, merged_is_covered}
use Rattle.ak_member.specs.declared.effect.Effect.{Effect}
use Rattle.ak_member.specs.declared.effect.Effect.TheVariants.{Rise, Removed}
use Rattle.ak_history.specs.declared.entry.Entry.{Entry}
use Rattle.ak_history.specs.History.{IsNumbered, IsBounded}
use Rattle.ak_history.specs.Shown.{Did, IsRemoved}
use Rattle.ak_history.proofs.Covering.{did_more}
use Rattle.ak_history.proofs.HistoryLemmas.{bounded-prefix}
use Rattle.ak_line.specs.Line.{IsLine}
use Rattle.ak_line.specs.Grows.{Grows}
use Rattle.ak_settings.specs.Settings.{SettingsModel}
use Rattle.ak_schedule.specs.declared.event.Event.{Event}
use Rattle.ak_node.specs.Node.{known}
use Rattle.ak_world.specs.InRun.{WasStarted, IsNamedIn, written}
use Rattle.ak_world.specs.RunLine.{IsAged, line_of}
use Rattle.ak_world.specs.SettledLine.{WasSettled, IsOverHalf}
use Rattle.ak_world.specs.World.{WorldState, empty_world, run}
use Rattle.ak_world.proofs.FoldRuns.{Next, run_next, run_sound, run_folds, run-append}
use Rattle.ak_world.proofs.InRunLemmas.{named_started}
use Rattle.ak_world.proofs.Rises.{did_then, did_back, removed_more}
use Rattle.ak_world.proofs.SettledRuns.{in_parts, in_line, settled_later}

aged_more : (history : List Entry) (v w : Counts) (who : UniqueModel) → Covers w v → IsAged history v who → IsAged history w who
aged_more history v w who over (inl rose) = inl (rose.0, rose.1, did_more history v w (Rise who rose.0 rose.1) over rose.2)
aged_more history v w who over (inr removed) = inr (removed_more history v w who over removed)

pub run_is_line : (settings : SettingsModel) (events : List Event) (quorum : ℕ) → IsOverHalf settings quorum → IsLine Counts (line_of settings events quorum)
run_is_line settings events quorum over_half = record {
  reflexive = λ v. covers_itself v;
  transitive = λ u v w p q. covers_along w v u q p;
  least = λ v u. let none = count-empty u in omega arith;
  first = λ v w. merged_covers_first v w;
  second = λ v w. merged_covers_second v w;
  covers = λ u v w p q. merged_is_covered u v w p q;
  total = λ v w p q. elim (in_line settings events quorum over_half v w p q) [ inl over ↦ inr over | inr under ↦ inl under ];
  still_aged = λ v w who under aged. aged_more (run settings events).history v w who under aged;
  still_removed = λ v w who under removed. removed_more (run settings events).history v w who under removed;
  removed_aged = λ v who removed. inr removed;
}

-- ---- later in the run
-- what was done by a version that counts only what there was is the same later
module _ (added history later : List Entry) (grown : later ≡ added ++ history) (numbered : IsNumbered later) where
  did_later_too : (v : Counts) (x : Effect) → Did history v x → Did later v x
  did_later_too v x d = subst (λ h. Did h v x) (sym grown) (did_then added history v x d)

  did_already : (v : Counts) (x : Effect) → IsBounded history v → Did later v x → Did history v x
  did_already v x bounded d = did_back added history v x (subst IsNumbered grown numbered) bounded (subst (λ h. Did h v x) grown d)

  removed_later_too : (v : Counts) (who : UniqueModel) → IsRemoved history v who → IsRemoved later v who
  removed_later_too v who (inl d) = inl (did_later_too v (Removed who true) d)
  removed_later_too v who (inr d) = inr (did_later_too v (Removed who false) d)

  removed_already : (v : Counts) (who : UniqueModel) → IsBounded history v → IsRemoved later v who → IsRemoved history v who
  removed_already v who bounded (inl d) = inl (did_already v (Removed who true) bounded d)
  removed_already v who bounded (inr d) = inr (did_already v (Removed who false) bounded d)

  aged_later_too : (v : Counts) (who : UniqueModel) → IsAged history v who → IsAged later v who
  aged_later_too v who (inl rose) = inl (rose.0, rose.1, did_later_too v (Rise who rose.0 rose.1) rose.2)
  aged_later_too v who (inr removed) = inr (removed_later_too v who removed)

  aged_already : (v : Counts) (who : UniqueModel) → IsBounded history v → IsAged later v who → IsAged history v who
  aged_already v who bounded (inl rose) = inl (rose.0, rose.1, did_already v (Rise who rose.0 rose.1) bounded rose.2)
  aged_already v who bounded (inr removed) = inr (removed_already v who bounded removed)

-- a settled version counts only what there was
pub settled_bounded : (settings : SettingsModel) (events : List Event) (quorum : ℕ) (v : Counts) → WasSettled settings events quorum v → IsBounded (run settings events).history v
settled_bounded settings events quorum v on =
    let s = in_parts settings quorum v events on in
    let old : WorldState = run settings s.first in
    let next : Next old.history (run settings events) = subst (Next old.history) (sym (ap (run settings) s.parts ∙ run-append settings empty_world s.first s.more)) (run_next settings old s.more (run_sound settings s.first)) in
    let bounded : IsBounded old.history (known s.node).version = (run_folds settings s.first (known s.node) (inl (s.index, s.node, s.at, refl))).bounded in
    subst (IsBounded (run settings events).history) s.version_is
    (subst (λ h. IsBounded h (known s.node).version) (sym next.grown) (bounded-prefix next.added old.history (known s.node).version bounded))

pub line_grows : (settings : SettingsModel) (events more : List Event) (quorum : ℕ)
    → Grows Counts (line_of settings events quorum) (WasSettled settings (events ++ more) quorum) (IsAged (run settings (events ++ more)).history) (IsRemoved (run settings (events ++ more)).history)
line_grows settings events more quorum =
    let old : WorldState = run settings events in
    let new : WorldState = run settings (events ++ more) in
    let next : Next old.history new = subst (Next old.history) (sym (run-append settings empty_world events more)) (run_next settings old more (run_sound settings events)) in
    record {
      still_on = λ v on. settled_later settings quorum v events more on;
      aged_then = λ v who on. aged_later_too next.added old.history new.history next.grown next.sound.is_numbered v who;
      aged_before = λ v who on. aged_already next.added old.history new.history next.grown next.sound.is_numbered v who (settled_bounded settings events quorum v on);
      removed_then = λ v who on. removed_later_too next.added old.history new.history next.grown next.sound.is_numbered v who;
      removed_before = λ v who on. removed_already next.added old.history new.history next.grown next.sound.is_numbered v who (settled_bounded settings events quorum v on);
    }

-- ---- nobody has aged that was not started
pub aged_started : (settings : SettingsModel) (events : List Event) (v : Counts) (who : UniqueModel) → IsAged (run settings events).history v who → WasStarted settings (run settings events).nodes who
aged_started settings events v who aged = named_started settings events who (by_entry aged)
  where
    by_entry : IsAged (run settings events).history v who → IsNamedIn (run settings events) who
    by_entry (inl rose) = written rose.2.entry (Rise who rose.0 rose.1) rose.2.in_history rose.2.does refl
    by_entry (inr (inl d)) = written d.entry (Removed who true) d.in_history d.does refl
    by_entry (inr (inr d)) = written d.entry (Removed who false) d.in_history d.does refl
