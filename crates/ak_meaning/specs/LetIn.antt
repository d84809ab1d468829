-- A run in which a member is let in, as it is worked by hand: while the members do not agree it is WeaklyUp, and then it comes Up.
use Rattle.std.specs.Prelude.{List, [], ◌∷◌}
use Rattle.ak_settings.specs.Settings.{SettingsModel}
use Rattle.ak_schedule.specs.declared.event.Event.{Event}
use Rattle.ak_schedule.specs.declared.event.Event.TheVariants.{Start, Found, Join, Tick, Deliver}
use Rattle.ak_world.specs.Worked.{at_a, a_1, b_1, c_1, three}

-- three listed addresses and a quorum of two, and a leader that lets members in at the first tick at which its view is not settled
abbrev pub lenient : SettingsModel
lenient = record three { weakly = 1 }

abbrev pub letting_in : List Event
letting_in =
    -- a founds the cluster with b, of which b hears nothing yet; c joins it, and is let in after 10 events
    Start a_1 ∷ Start b_1 ∷ Start c_1 ∷ Found a_1 ∷ Join b_1 at_a ∷ Deliver 1 ∷ Tick a_1 0
    ∷ Join c_1 at_a ∷ Deliver 4 ∷ Tick a_1 0
    -- b hears of it, and answers: the view of a is settled, and a lets c come Up
    ∷ Deliver 2 ∷ Deliver 8 ∷ Deliver 10 ∷ Tick a_1 0 ∷ []
