-- What a node keeps of the singleton, as a value, and how its parts go together.
use Rattle.std.specs.Prelude.{◌≡◌, Option, None, IsSome, refl}
use Rattle.std.specs.FinMap as map
use Rattle.std.specs.FinSet as set
use Rattle.std.specs.Coded.{Coded, code_by, coded×, coded_ℕ, coded_option}
use Rattle.ak_address.specs.Unique.{coded_unique}
use Rattle.ak_address.specs.Uniques.{UniqueSet}
use Rattle.ak_clock.specs.Version.{Counts}
use Rattle.ak_promise.specs.Ballot.{BallotModel, coded_ballot}
use Rattle.ak_promise.specs.Promise.{PromiseModel, coded_promise}
use Rattle.ak_singleton.specs.contracts.phase.Phase as phase
use Rattle.ak_singleton.specs.declared.phase.Phase.{Phase}
use Rattle.ak_singleton.specs.declared.phase.Phase.TheVariants.{Younger, Asking, Active, Ended}
use Rattle.ak_singleton.specs.Singleton.{SingletonModel}

abbrev pub coded_singleton : Coded SingletonModel
coded_singleton =
    code_by (PromiseModel × (Phase × (Option BallotModel × (UniqueSet × Counts))))
    (coded× coded_promise (coded× phase.the_row.coded (coded× (coded_option coded_ballot) (coded× (set.code coded_unique) (map.code coded_unique coded_ℕ)))))
    (λ s. (s.promise, (s.phase, (s.live, (s.granted, s.floor)))))
    (λ p. record { promise = p.0; phase = p.1.0; live = p.1.1.0; granted = p.1.1.1.0; floor = p.1.1.1.1 })
    (λ _. refl)

-- a ballot is live exactly while the node asks or is active
abbrev pub HasLive : Phase → Option BallotModel → Type 0
HasLive Younger live = live ≡ None
HasLive Asking live = IsSome live
HasLive Active live = IsSome live
HasLive Ended live = live ≡ None
