-- Who runs the singleton (Akka's "Cluster Singleton": the oldest member does; that it first asks all others for a promise by ballots is
-- this project's choice). What a node keeps of it, and what each event makes of that.
use Rattle.std.specs.Prelude.{◌≢◌, ⊤, ℕ, ◌+◌, nat_lt, Bool, true, false, not, ◌&&◌, ◌||◌, Option, None, Some, is_some, if◌then◌else◌}
use Rattle.std.specs.FinMap as map
use Rattle.std.specs.List.{list_all}
use Rattle.std.specs.Ordering.{is_eq, is_gt}
use Rattle.ak_address.specs.Unique.{UniqueModel, unique_cmp}
use Rattle.ak_address.specs.Uniques.{UniqueSet, no_one, has, with_one, those, in_order}
use Rattle.ak_clock.specs.declared.version.TheConstants.{BOUND}
use Rattle.ak_clock.specs.Version.{Counts, covers, merged}
use Rattle.ak_member.specs.declared.status.Status.{Status}
use Rattle.ak_member.specs.Age.{counts}
use Rattle.ak_promise.specs.Ballot.{BallotModel, ballot_cmp}
use Rattle.ak_promise.specs.Promise.{PromiseModel, unpromised, bound, freed, is_some_ballot}
use Rattle.ak_settled.specs.SettledView.{SettledView}
use Rattle.ak_settled.specs.Settled.{version_of, is_finished, needed, candidate}
use Rattle.ak_singleton.specs.declared.phase.Phase.{Phase}
use Rattle.ak_singleton.specs.declared.phase.Phase.TheVariants.{Younger, Asking, Active, Ended}
use Rattle.ak_singleton.specs.declared.phase.TickRule.{TickRule}
use Rattle.ak_singleton.specs.declared.phase.TickRule.TheVariants.{Rests, Opens, HandsOver, Closes, Asks}
use Rattle.ak_singleton.specs.declared.phase.Steps.{Steps}

-- the promise; the phase; and while the node asks or is active its ballot, who granted it, and the floor of their answers
pub record SingletonModel : Type 0 where
  pub promise : PromiseModel
  pub phase : Phase
  pub live : Option BallotModel
  pub granted : UniqueSet
  pub floor : Counts

-- a node at its start
abbrev pub unasked : SingletonModel
unasked = record { promise = unpromised; phase = Younger; live = None; granted = no_one; floor = map.empty }

abbrev pub only : UniqueModel → UniqueSet
only who = with_one no_one who

-- ---- what the settled view says
abbrev pub is_some_process : Option UniqueModel → UniqueModel → Bool
is_some_process None who = false
is_some_process (Some u) who = is_eq (unique_cmp u who)

-- the node is the candidate
abbrev pub is_candidate : SettledView → UniqueModel → Bool
is_candidate settled me = is_some_process (candidate settled) me

-- the process of the last ballot, if there is one, is finished
abbrev pub is_holder_finished : ℕ → SettledView → Option BallotModel → Bool
is_holder_finished margin settled None = false
is_holder_finished margin settled (Some b) = is_finished margin settled b.unique

-- whom the node needs, but for those of a set
abbrev pub needed_but : ℕ → SettledView → UniqueSet → UniqueSet
needed_but margin settled others = those (needed margin settled) (λ who. not (has others who))

-- ---- an asking begins, begins again, and ends
abbrev pub next_term : Option BallotModel → ℕ
next_term None = 1
next_term (Some b) = b.term + 1

-- the node's next ballot, above the last one that it promised
abbrev pub own_ballot : UniqueModel → PromiseModel → BallotModel
own_ballot me p = record { term = next_term p.last; unique = me }

-- the node promises its next ballot to itself, and asks with it: with the floor of its promise and what it has settled
abbrev pub opened : UniqueModel → SettledView → SingletonModel → SingletonModel
opened me settled s = record {
  promise = bound (own_ballot me s.promise) s.promise;
  phase = Asking;
  live = Some (own_ballot me s.promise);
  granted = only me;
  floor = merged s.promise.floor (version_of settled);
}

-- the last ballot is released with what is settled, and the node asks no more and is not active
abbrev pub closed : Phase → SettledView → SingletonModel → SingletonModel
closed phase settled s = record { promise = freed (version_of settled) s.promise; phase = phase; live = None; granted = no_one; floor = map.empty }

-- another ballot of the node, in the term after a ballot that is above the live one; the floor stays
abbrev pub renewed : BallotModel → BallotModel → SingletonModel → SingletonModel
renewed b last s =
    let next : BallotModel = record { term = last.term + 1; unique = b.unique } in
    record s { promise = bound next s.promise; live = Some next; granted = only b.unique }

-- ---- a tick
-- a node has a part in the singleton where it has a settled view and is Up or Leaving
abbrev pub takes_part : SettledView → Status → Bool
takes_part settled status = is_some settled && counts status

-- the last ballot does not bind against one of this node, and has a term after it
abbrev pub may_open_after : Option BallotModel → Bool → ℕ → SettledView → UniqueModel → Bool
may_open_after None released margin settled me = true
may_open_after (Some b) released margin settled me = (released || is_eq (unique_cmp b.unique me) || is_finished margin settled b.unique) && nat_lt b.term BOUND

abbrev pub may_open : ℕ → SettledView → UniqueModel → PromiseModel → Bool
may_open margin settled me p = may_open_after p.last p.released margin settled me

-- by the phase, whether the node is the candidate, and whether it may open
abbrev pub rule_of : Phase → Bool → Bool → TickRule
rule_of Younger false free = Rests
rule_of Younger true true = Opens
rule_of Younger true false = HandsOver
rule_of Asking true free = Asks
rule_of Asking false free = Closes
rule_of Active oldest free = Asks
rule_of Ended oldest free = Rests

-- what a tick does
abbrev pub tick_rule : UniqueModel → SettledView → Status → ℕ → SingletonModel → TickRule
tick_rule me settled status margin s =
    if takes_part settled status then rule_of s.phase (is_candidate settled me) (may_open margin settled me s.promise) else Rests

abbrev pub after_rule : TickRule → UniqueModel → SettledView → SingletonModel → SingletonModel
after_rule Rests me settled s = s
after_rule Opens me settled s = opened me settled s
after_rule HandsOver me settled s = s
after_rule Closes me settled s = closed Younger settled s
after_rule Asks me settled s = s

-- whom it asks, to whom it tells the release of the last ballot, and whose ballot it wants handed over
abbrev pub steps_of : TickRule → UniqueModel → SettledView → ℕ → SingletonModel → Steps
steps_of Rests me settled margin s = record { ask = no_one; release = no_one; hand_over_to = None }
steps_of Opens me settled margin s = record { ask = needed_but margin settled (only me); release = no_one; hand_over_to = None }
steps_of HandsOver me settled margin s = record { ask = no_one; release = no_one; hand_over_to = s.promise.last }
steps_of Closes me settled margin s = record { ask = no_one; release = needed_but margin settled (only me); hand_over_to = None }
steps_of Asks me settled margin s = record { ask = needed_but margin settled s.granted; release = no_one; hand_over_to = None }

-- memory may be wanted for it: for whatever it does, and of whoever asks, where somebody is left to be asked
abbrev pub TakesRoom : TickRule → SettledView → ℕ → SingletonModel → Type 0
TakesRoom Rests settled margin s = ⊥
TakesRoom Opens settled margin s = ⊤
TakesRoom HandsOver settled margin s = ⊤
TakesRoom Closes settled margin s = ⊤
TakesRoom Asks settled margin s = needed_but margin settled s.granted ≢ no_one

-- ---- answers
-- the first grant of the live ballot from this process
abbrev pub is_first_grant : UniqueModel → BallotModel → SingletonModel → Bool
is_first_grant from b s = is_some_ballot s.live b && not (has s.granted from)

abbrev pub after_granted : Bool → UniqueModel → Counts → SingletonModel → SingletonModel
after_granted true from floor s = record s { granted = with_one s.granted from; floor = merged s.floor floor }
after_granted false from floor s = s

abbrev pub is_asking : Phase → Bool
is_asking Younger = false
is_asking Asking = true
is_asking Active = false
is_asking Ended = false

-- the live ballot of an asking is older than a promise elsewhere, which has a term after it
abbrev pub is_outdone : BallotModel → BallotModel → SingletonModel → Bool
is_outdone b last s = is_asking s.phase && is_some_ballot s.live b && is_gt (ballot_cmp last b) && nat_lt last.term BOUND

abbrev pub after_old : Bool → BallotModel → BallotModel → SingletonModel → SingletonModel
after_old true b last s = renewed b last s
after_old false b last s = s

-- ---- the end, and the activation
-- the term of an active node
abbrev pub active_term : Phase → Option BallotModel → Option ℕ
active_term Active (Some b) = Some b.term
active_term Active None = None
active_term Younger live = None
active_term Asking live = None
active_term Ended live = None

abbrev pub ended_from : Phase → SettledView → SingletonModel → SingletonModel
ended_from Younger settled s = record s { phase = Ended }
ended_from Asking settled s = closed Ended settled s
ended_from Active settled s = closed Ended settled s
ended_from Ended settled s = s

abbrev pub ended : SettledView → SingletonModel → SingletonModel
ended settled s = ended_from s.phase settled s

-- the candidate asks, each that it needs has granted, and what it has settled covers the floor
abbrev pub may_activate : UniqueModel → SettledView → ℕ → SingletonModel → Bool
may_activate me settled margin s =
    is_asking s.phase && is_candidate settled me && list_all (has s.granted) (in_order (needed margin settled)) && covers (version_of settled) s.floor

abbrev pub after_activation : Bool → SingletonModel → SingletonModel
after_activation true s = record s { phase = Active }
after_activation false s = s
