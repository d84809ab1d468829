-- When each rule applies, in words (this project's choice).
use Rattle.std.specs.Prelude.{◌≡◌, ◌≢◌, ℕ, ◌<◌, ◌⊎◌, true, false, Some, IsSome, IsTrue}
use Rattle.std.specs.declared.cmp.Ordering.TheVariants.{Greater}
use Rattle.ak_address.specs.Unique.{UniqueModel}
use Rattle.ak_address.specs.Uniques.{has}
use Rattle.ak_clock.specs.declared.version.TheConstants.{BOUND}
use Rattle.ak_clock.specs.Version.{Covers}
use Rattle.ak_member.specs.declared.status.Status.{Status}
use Rattle.ak_member.specs.declared.status.Status.TheVariants.{Up, Leaving}
use Rattle.ak_promise.specs.Ballot.{BallotModel, ballot_cmp}
use Rattle.ak_promise.specs.Promise.{PromiseModel}
use Rattle.ak_settled.specs.SettledView.{SettledView}
use Rattle.ak_settled.specs.Settled.{version_of, is_finished, needed, candidate}
use Rattle.ak_singleton.specs.declared.phase.Phase.TheVariants.{Younger, Asking, Active, Ended}
use Rattle.ak_singleton.specs.declared.phase.TickRule.{TickRule}
use Rattle.ak_singleton.specs.declared.phase.TickRule.TheVariants.{Rests, Opens, HandsOver, Closes, Asks}
use Rattle.ak_singleton.specs.Singleton.{SingletonModel}

-- a node has a part in the singleton: it has a settled view, and is Up or Leaving
abbrev pub TakesPart : SettledView → Status → Type 0
TakesPart settled status = IsSome settled × ((status ≡ Up) ⊎ (status ≡ Leaving))

-- the node may begin to ask: it promised nothing, or its last ballot was released, is its own or is of a finished process, and
-- has a term after it
abbrev pub MayOpen : ℕ → SettledView → UniqueModel → PromiseModel → Type 0
MayOpen margin settled me p =
    (b : BallotModel) → p.last ≡ Some b → ((p.released ≡ true) ⊎ (b.unique ≡ me) ⊎ IsTrue (is_finished margin settled b.unique)) × (b.term < BOUND)

module _ (me : UniqueModel) (settled : SettledView) (status : Status) (margin : ℕ) (s : SingletonModel) where
  -- where a tick does what
  abbrev pub Applies : TickRule → Type 0
  Applies Opens = TakesPart settled status × (s.phase ≡ Younger) × (candidate settled ≡ Some me) × MayOpen margin settled me s.promise
  Applies HandsOver = TakesPart settled status × (s.phase ≡ Younger) × (candidate settled ≡ Some me) × ¬ (MayOpen margin settled me s.promise)
  Applies Closes = TakesPart settled status × (s.phase ≡ Asking) × (candidate settled ≢ Some me)
  Applies Asks = TakesPart settled status × (((s.phase ≡ Asking) × (candidate settled ≡ Some me)) ⊎ (s.phase ≡ Active))
  Applies Rests = ¬ (TakesPart settled status) ⊎ ((s.phase ≡ Younger) × (candidate settled ≢ Some me)) ⊎ (s.phase ≡ Ended)

-- the first grant of the live ballot from a process
abbrev pub IsFirstGrant : UniqueModel → BallotModel → SingletonModel → Type 0
IsFirstGrant from b s = (s.live ≡ Some b) × (has s.granted from ≡ false)

-- the node asks with the ballot, and another that is above it was promised, which has a term after it
abbrev pub IsOutdone : BallotModel → BallotModel → SingletonModel → Type 0
IsOutdone b last s = (s.phase ≡ Asking) × (s.live ≡ Some b) × (ballot_cmp last b ≡ Greater) × (last.term < BOUND)

-- the candidate asks, each that it needs has granted, and what it has settled covers the floor
pub record MayActivate (me : UniqueModel) (settled : SettledView) (margin : ℕ) (s : SingletonModel) : Type 0 where
  pub asking : s.phase ≡ Asking
  pub oldest : candidate settled ≡ Some me
  pub granted : (who : UniqueModel) → IsTrue (has (needed margin settled) who) → IsTrue (has s.granted who)
  pub floor : Covers (version_of settled) s.floor
