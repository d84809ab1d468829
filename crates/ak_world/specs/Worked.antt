-- Two runs, as they are worked by hand: a process becomes active alone; and of three one becomes active after another.
use Rattle.std.specs.Prelude.{ℕ, List, [], ◌∷◌, codes}
use Rattle.ak_address.specs.Unique.{AddressModel, UniqueModel}
use Rattle.ak_settings.specs.Settings.{SettingsModel}
use Rattle.ak_settings.specs.declared.settings.Strategy.TheVariants.{StaticQuorum}
use Rattle.ak_schedule.specs.declared.event.Event.{Event}
use Rattle.ak_schedule.specs.declared.event.Event.TheVariants.{Start, Found, Join, Tick, Deliver, Leave}

abbrev pub at_a : AddressModel
at_a = record { host = codes "a"; port = 1 }

abbrev pub at_b : AddressModel
at_b = record { host = codes "b"; port = 1 }

abbrev pub at_c : AddressModel
at_c = record { host = codes "c"; port = 1 }

-- the first process at each
abbrev pub a_1 : UniqueModel
a_1 = record { address = at_a; uid = 1 }

abbrev pub b_1 : UniqueModel
b_1 = record { address = at_b; uid = 1 }

abbrev pub c_1 : UniqueModel
c_1 = record { address = at_c; uid = 1 }

abbrev pub limited : List AddressModel → ℕ → SettingsModel
limited listed quorum = record { listed = listed; strategy = StaticQuorum quorum; margin = 2; deadline = 9; stable = 9; shards = 10; buffer = 2; threshold = 1; limit = 1; weakly = 0; role = listed; types = [] }

-- ---- one listed address
abbrev pub alone : SettingsModel
alone = limited (at_a ∷ []) 1

-- it founds the cluster, comes Up and settles, asks itself alone and is active
abbrev pub rise : List Event
rise = Start a_1 ∷ Found a_1 ∷ Tick a_1 0 ∷ Tick a_1 0 ∷ []

-- ---- three listed addresses
abbrev pub three : SettingsModel
three = limited (at_a ∷ at_b ∷ at_c ∷ []) 2

abbrev pub passing : List Event
passing =
    -- b founds the cluster with c, and a joins it
    Start b_1 ∷ Start c_1 ∷ Start a_1 ∷ Found b_1
    ∷ Join c_1 at_b ∷ Deliver 1 ∷ Join a_1 at_b ∷ Tick b_1 0 ∷ Deliver 3
    -- b gossips to c and hears that c knows the same; then it asks c, which grants: b is active after 15 events
    ∷ Tick b_1 1 ∷ Deliver 8 ∷ Deliver 9 ∷ Tick b_1 0 ∷ Deliver 12 ∷ Deliver 14
    -- b leaves, and tells c and then a, which is welcomed again: a, now the leader, lets b exit
    ∷ Leave b_1 b_1 ∷ Tick b_1 1 ∷ Deliver 17 ∷ Deliver 18 ∷ Deliver 3 ∷ Deliver 19 ∷ Tick a_1 0
    -- b hears of it, ends its activity and stops, and says so to a, which agrees with c and removes b
    ∷ Deliver 23 ∷ Tick b_1 0 ∷ Deliver 28 ∷ Tick a_1 1 ∷ Deliver 32 ∷ Deliver 33 ∷ Tick a_1 0
    -- c, the oldest now, settles, asks a, which grants, and is active
    ∷ Deliver 36 ∷ Tick c_1 0 ∷ Deliver 39 ∷ Deliver 40 ∷ []
