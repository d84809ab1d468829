-- A run whose margin is broken, as it is worked by hand: a process is removed unconfirmed, and runs on when its margin ends.
use Rattle.std.specs.Prelude.{List, [], ◌∷◌}
use Rattle.ak_settings.specs.Settings.{SettingsModel}
use Rattle.ak_settings.specs.declared.settings.Strategy.TheVariants.{StaticQuorum}
use Rattle.ak_schedule.specs.declared.event.Event.{Event}
use Rattle.ak_schedule.specs.declared.event.Event.TheVariants.{Start, Found, Join, Tick, Deliver, Down}
use Rattle.ak_world.specs.Worked.{at_a, at_b, a_1, b_1}

-- two listed addresses, a quorum of one, and a margin and a deadline of one tick
abbrev pub two : SettingsModel
two = record { listed = at_a ∷ at_b ∷ []; strategy = StaticQuorum 1; margin = 1; deadline = 1; stable = 9; shards = 10; buffer = 2; threshold = 1; limit = 1; weakly = 0; role = at_a ∷ at_b ∷ []; types = [] }

-- a founds the cluster and comes Up; b joins it, and is downed by hand; it hears nothing of all this, and is found silent,
-- removed, and its margin ends
abbrev pub breaking : List Event
breaking =
    Start a_1 ∷ Found a_1 ∷ Tick a_1 0 ∷ Start b_1 ∷ Join b_1 at_a ∷ Deliver 1 ∷ Down a_1 b_1
    ∷ Tick a_1 0 ∷ Tick a_1 0 ∷ Tick a_1 0 ∷ Tick a_1 0 ∷ []
