-- What is remembered is beside the run of a world, and says what was held in it.
use Rattle.std.proofs.Common.{◌≡◌, List, [], ◌∷◌, ◌++◌, Option, Some, None, Result, Ok, Err, refl, ap, ◌∙◌}
use Rattle.ak_address.specs.Unique.{UniqueModel}
use Rattle.ak_clock.specs.Version.{Counts}
use Rattle.ak_settings.specs.Settings.{SettingsModel}
use Rattle.ak_schedule.specs.declared.event.Event.{Event}
use Rattle.ak_history.specs.declared.entry.Entry.{Entry}
use Rattle.ak_wire.specs.declared.action.Action.{Action}
use Rattle.ak_member.specs.declared.effect.Effect.{Effect}
use Rattle.ak_wire.specs.Wire.{effects_of}
use Rattle.ak_world.specs.declared.world.Reason.{Reason}
use Rattle.ak_world.specs.World.{WorldState, Done, with_update, recorded, happens, after, run_from}
use Rattle.ak_world.specs.Remembered.{Remembered, entries_in, with_base, recorded_from, remembers_answer, remembered_from}

-- the world of what is remembered is the run
pub answer-world : (r : Remembered) (a : Result Done Reason) → (remembers_answer r a).world ≡ after r.world a
answer-world r (Ok done) = refl
answer-world r (Err why) = refl

pub remembered-world : (settings : SettingsModel) (r : Remembered) (events : List Event) → (remembered_from settings r events).world ≡ run_from settings r.world events
remembered-world settings r [] = refl
remembered-world settings r (e ∷ events) =
    remembered-world settings (remembers_answer r (happens settings e r.world)) events
    ∙ ap (λ (w : WorldState). run_from settings w events) (answer-world r (happens settings e r.world))

-- the entries of what is remembered are the history
pub recorded-entries : (author : UniqueModel) (base : Counts) (actions : List Action) (based : List (Entry × Counts)) → entries_in (recorded_from author base actions based) ≡ recorded author actions (entries_in based)
recorded-entries author base [] based = refl
recorded-entries author base (a ∷ actions) based = recorded-entries author base actions (with_base author base (effects_of a) based) ∙ ap (recorded author actions) (one_more (effects_of a))
  where
    one_more : (o : Option (List Effect)) → entries_in (with_base author base o based) ≡ with_update author o (entries_in based)
    one_more None = refl
    one_more (Some effects) = refl

pub remembered-append : (settings : SettingsModel) (r : Remembered) (first more : List Event) → remembered_from settings r (first ++ more) ≡ remembered_from settings (remembered_from settings r first) more
remembered-append settings r [] more = refl
remembered-append settings r (e ∷ first) more = remembered-append settings (remembers_answer r (happens settings e r.world)) first more
