-- What the worked run of three nodes shows.
use Rattle.std.proofs.Common.{◌≡◌, ℕ, true, false, List, [], ◌∷◌, Some, take, slice_get, Contains, refl, sym, ap, ◌∙◌, subst, arith, true≢false}
use Rattle.ak_address.proofs.Elements.{contains_at}
use Rattle.ak_clock.specs.Version.{Counts, covers}
use Rattle.ak_clock.proofs.VersionLaws.{covers_from_test, test_from_covers}
use Rattle.ak_history.specs.declared.entry.Entry.{Entry}
use Rattle.ak_member.specs.declared.effect.Effect.TheVariants.{Rise, Removed}
use Rattle.ak_member.specs.declared.status.Status.TheVariants.{Up}
use Rattle.ak_node.specs.declared.node.State.{State}
use Rattle.ak_settings.specs.Settings.{SettingsModel}
use Rattle.ak_schedule.specs.declared.event.Event.{Event}
use Rattle.ak_world.specs.Worked.{a_1, b_1, c_1, three, passing}
use Rattle.ak_world.specs.World.{WorldState, run}
use Rattle.ak_world.proofs.ListedTables.{listed, table}
use Rattle.ak_world.proofs.WorkedFirst.{b_15}
use Rattle.ak_world.proofs.WorkedLemmas.{Comes}
use Rattle.ak_world.proofs.WorkedSecond.{c_33}
use Rattle.ak_world.proofs.WorkedWorlds.{done_15, done_33, comes_15, comes_33}
use Rattle.ak_meaning.specs.Instances.{IsSaid, KnowsMember, KnowsRemoved, RunsSettled, NotesGrow}

-- what stands in the world that a run comes to
pub at_world : (settings : SettingsModel) (events : List Event) (w : WorldState) (index : ℕ) (n : State) → Comes settings events w → slice_get w.nodes index ≡ Some n → slice_get (run settings events).nodes index ≡ Some n
at_world settings events w index n c at = ap (λ (v : WorldState). slice_get v.nodes index) c.run_is ∙ at

pub in_world : (settings : SettingsModel) (events : List Event) (w : WorldState) (index : ℕ) (entry : Entry) → Comes settings events w → slice_get w.history index ≡ Some entry → Contains (run settings events).history entry
in_world settings events w index entry c at = subst (λ (v : WorldState). Contains v.history entry) (sym c.run_is) (contains_at w.history index entry at)

pub comes_up : KnowsMember three (take 15 passing) 0 b_1 Up
comes_up = record { node = b_15; at = at_world three (take 15 passing) done_15.world 0 b_15 comes_15 refl; member = (1, simp listed) }

pub is_removed : KnowsRemoved three passing 1 b_1
is_removed = record { node = c_33; at = at_world three passing done_33.world 1 c_33 comes_33 refl; removed = simp listed }

pub is_settled_then : RunsSettled three passing 1
is_settled_then = record { node = c_33; at = at_world three passing done_33.world 1 c_33 comes_33 refl; runs = refl; settled = simp listed }

pub rise_said : IsSaid three passing (Rise b_1 Up 1)
rise_said = (
  record { author = b_1; number = 3; effects = Rise b_1 Up 1 ∷ Rise c_1 Up 2 ∷ [] },
  in_world three passing done_33.world 5 (record { author = b_1; number = 3; effects = Rise b_1 Up 1 ∷ Rise c_1 Up 2 ∷ [] }) comes_33 refl,
  (0, omega arith, refl),
)

pub removal_said : IsSaid three passing (Removed b_1 true)
removal_said = (
  record { author = a_1; number = 2; effects = Removed b_1 true ∷ [] },
  in_world three passing done_33.world 0 (record { author = a_1; number = 2; effects = Removed b_1 true ∷ [] }) comes_33 refl,
  (0, omega arith, refl),
)

abbrev first_noted : Counts
first_noted = table ((b_1, 4) ∷ [])

abbrev last_noted : Counts
last_noted = table ((a_1, 2) ∷ (b_1, 6) ∷ [])

tests_above : covers last_noted first_noted ≡ true
unfolding covers
tests_above = simp listed

tests_below : covers first_noted last_noted ≡ false
unfolding covers
tests_below = simp listed

pub notes_grow : NotesGrow three (take 15 passing) passing b_1 c_1
notes_grow = record {
  earlier = first_noted;
  later = last_noted;
  noted_first = record { index = 0; node = b_15; noted = _; at = at_world three (take 15 passing) done_15.world 0 b_15 comes_15 refl; is_who = refl; noted_is = refl; version_is = refl };
  noted_later = record { index = 1; node = c_33; noted = _; at = at_world three passing done_33.world 1 c_33 comes_33 refl; is_who = refl; noted_is = refl; version_is = refl };
  covers = covers_from_test last_noted first_noted tests_above;
  more = λ above. true≢false (sym (test_from_covers first_noted last_noted above) ∙ tests_below);
}
