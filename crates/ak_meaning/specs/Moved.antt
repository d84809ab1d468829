-- A run in which a shard moves, as it is worked by hand: from the region with the most shards to that of a member that came later.
use Rattle.std.specs.Prelude.{ℕ, List, [], ◌∷◌, codes}
use Rattle.ak_settings.specs.Settings.{SettingsModel}
use Rattle.ak_settings.specs.declared.settings.Strategy.TheVariants.{StaticQuorum}
use Rattle.ak_schedule.specs.declared.event.Event.{Event}
use Rattle.ak_schedule.specs.declared.event.Event.TheVariants.{Start, Found, Join, Tick, Deliver, Offer}
use Rattle.ak_world.specs.Worked.{at_a, at_b, at_c, a_1, b_1, c_1}

-- three listed addresses, a quorum of two, and three shards, of which one moves at a time
abbrev pub spread : SettingsModel
spread = record { listed = at_a ∷ at_b ∷ at_c ∷ []; strategy = StaticQuorum 2; margin = 2; deadline = 9; stable = 9; shards = 3; buffer = 3; threshold = 1; limit = 1; weakly = 0; role = at_a ∷ at_b ∷ at_c ∷ []; types = [] }

-- three entities, of shard 0, of shard 1 and of shard 2
abbrev pub cart : List ℕ
cart = codes "cart"

abbrev pub cup : List ℕ
cup = codes "cup"

abbrev pub tea : List ℕ
tea = codes "tea"

abbrev pub moving : List Event
moving =
    -- a founds the cluster with b, and c joins it; b hears of it, and answers: the view of a is settled, with c Joining
    Start a_1 ∷ Start b_1 ∷ Start c_1 ∷ Found a_1 ∷ Join b_1 at_a ∷ Deliver 1
    ∷ Join c_1 at_a ∷ Tick a_1 0 ∷ Deliver 3 ∷ Deliver 1 ∷ Deliver 6 ∷ Deliver 7
    -- a message for each entity waits at a, which lets c come Up, and asks b, which grants: a is active
    ∷ Offer a_1 cart 1 ∷ Offer a_1 cup 2 ∷ Offer a_1 tea 3 ∷ Tick a_1 0 ∷ Deliver 10 ∷ Deliver 15
    -- it places the three shards at itself, at b and at itself; it hosts shard 0, and the cart is active there after 22 events
    ∷ Deliver 11 ∷ Deliver 12 ∷ Deliver 13 ∷ Deliver 16
    -- b and then c, which is welcomed again, hear that c is Up: a asks c too, which grants, and has no shard, while a has two
    ∷ Deliver 14 ∷ Deliver 23 ∷ Deliver 3 ∷ Deliver 24 ∷ Deliver 25 ∷ Tick a_1 0 ∷ Deliver 28 ∷ Deliver 35
    -- so shard 0 begins to move: all three hold it, and answer; then a hands it off, and the cart ends there
    ∷ Tick a_1 0 ∷ Deliver 38 ∷ Deliver 39 ∷ Deliver 40 ∷ Deliver 45 ∷ Deliver 46 ∷ Deliver 47 ∷ Deliver 48
    -- the shard is placed at c, which hosts it; and the cart starts there with the next message
    ∷ Deliver 49 ∷ Deliver 50 ∷ Offer c_1 cart 4 ∷ []
