-- What a tick makes of what a node knows: whom it finds silent (Akka's Cluster Specification, "Failure Detector"), what it
-- decides about a partition ("Split Brain Resolver"), the founding, and what the leader does in a settled view ("Leader") and in
-- one that does not settle ("WeaklyUp Members"). That at most one of them is written at a tick, and that in a view that is not
-- settled the leader lets members in and does nothing else, are this project's choice.
use Rattle.std.specs.Prelude.{ℕ, ◌+◌, ◌*◌, ◌%◌, ◌==◌, min, Bool, true, false, ◌&&◌, ◌||◌, not, nat_le, nat_lt, List, [], ◌∷◌, length, map, Option, Some, None, if◌then◌else◌}
use Rattle.std.specs.List.{list_any, filter}
use Rattle.std.specs.Ordering.{is_eq}
use Rattle.std.specs.FinMap as finmap
use Rattle.ak_address.specs.Unique.{AddressModel, UniqueModel, unique_cmp}
use Rattle.ak_address.specs.Uniques.{UniqueSet, no_one, has, those, how_many, in_order}
use Rattle.ak_address.specs.Distinct.{distinct}
use Rattle.ak_member.specs.declared.effect.Effect.{Effect}
use Rattle.ak_member.specs.declared.effect.Effect.TheVariants.{Observed}
use Rattle.ak_member.specs.declared.status.Status.{Status}
use Rattle.ak_member.specs.Age.{counts, has_role}
use Rattle.ak_member.specs.Standing.{Standings, is_down, members_of, is_joining, is_member_with}
use Rattle.ak_member.specs.Standing as standing
use Rattle.ak_member.specs.View.{Row}
use Rattle.ak_reach.specs.Unreachable.{unreachable_members}
use Rattle.ak_settings.specs.Settings.{settling_size}
use Rattle.ak_converge.specs.Convergence.{is_converged, is_settled}
use Rattle.ak_detector.specs.Detector as detector
use Rattle.ak_downing.specs.Downing.{decide, downs}
use Rattle.ak_leader.specs.Leader.{leader, leaders_effects, founding_effects, weak_effects}
use Rattle.ak_select.specs.Select.{peer}
use Rattle.ak_settled.specs.Settled.{after_tick}
use Rattle.ak_membership.specs.declared.state.MembershipState.{MembershipState}
use Rattle.ak_membership.specs.Membership.{Outcome, unchanged, update, update_any, may_count, is_member}

-- ---- who is silent
-- whom the node finds silent with this tick
abbrev pub silent : MembershipState → UniqueSet
silent m = detector.silent m.settings.deadline (detector.ticked m.settings.deadline m.detector)

-- the members that the node's own row names: it makes no difference that a subject was removed
abbrev pub subjects_of : Option Row → UniqueSet
subjects_of None = no_one
subjects_of (Some row) = row.subjects

abbrev pub own_subjects : MembershipState → UniqueSet
own_subjects m = those (subjects_of (finmap.get m.gossip.view.rows m.me)) (standing.is_member m.gossip.view.standings)

-- one of a set is not in another
abbrev pub lacks : UniqueSet → UniqueSet → Bool
lacks others s = list_any (λ who. not (has others who)) (in_order s)

-- who is silent is not what the node's own row says
abbrev pub observes : MembershipState → Bool
observes m = lacks (own_subjects m) (silent m) || lacks (silent m) (own_subjects m)

-- ---- the decision of the resolver
-- how long the view stood still with this tick, counted up to as long as the settings ask
abbrev pub stood : MembershipState → ℕ
stood m = min (m.stable + 1) m.settings.stable

abbrev pub some_counts : Standings → Bool
some_counts s = list_any (λ m. counts m.1.0) (members_of s)

-- another member is unreachable and not Down
abbrev pub is_lost : UniqueSet → UniqueModel → UniqueModel × (Status × ℕ) → Bool
is_lost unreachable me m = not (is_eq (unique_cmp m.0 me)) && has unreachable m.0 && not (is_down m.1.0)

abbrev pub has_lost : MembershipState → Bool
has_lost m = list_any (is_lost (unreachable_members m.gossip.view) m.me) (members_of m.gossip.view.standings)

-- the view stood still for long enough, a member counts, and another one is lost
abbrev pub decides : MembershipState → Bool
decides m = stood m == m.settings.stable && some_counts m.gossip.view.standings && has_lost m

abbrev pub decided : MembershipState → List Effect
decided m = downs (decide m.settings.strategy m.settings.role m.gossip.view m.me) m.gossip.view m.me

-- ---- the founding
-- the Joining members with their numbers, in the order of processes
abbrev pub joining_pairs : List (UniqueModel × (Status × ℕ)) → List (UniqueModel × ℕ)
joining_pairs [] = []
joining_pairs (pair ∷ pairs) = if is_joining pair.1.0 then (pair.0, pair.1.1) ∷ joining_pairs pairs else joining_pairs pairs

-- the addresses of the Joining members that have the role
abbrev pub joining_addresses : List AddressModel → Standings → List AddressModel
joining_addresses role s = map (λ pair. pair.0.address) (filter (has_role role) (joining_pairs (members_of s)))

-- the founder, Joining itself, founds the cluster: all agree, and members at enough addresses with the role have joined
abbrev pub founds : MembershipState → Bool
founds m =
    m.founder
    && is_member_with is_joining m.gossip.view.standings m.me
    && is_converged m.gossip.view m.gossip.seen
    && nat_le (settling_size m.settings.strategy) (distinct (joining_addresses m.settings.role m.gossip.view.standings))

-- ---- the leader
-- the view is settled
abbrev pub has_settled : MembershipState → Bool
has_settled m = is_settled (settling_size m.settings.strategy) m.settings.role m.gossip.view m.gossip.seen

-- this process is the one, where there is one
abbrev pub is_process : UniqueModel → Option UniqueModel → Bool
is_process me None = false
is_process me (Some who) = is_eq (unique_cmp who me)

-- the node leads, in a settled view
abbrev pub leads : MembershipState → Bool
leads m = has_settled m && is_process m.me (leader m.gossip.view)

-- ---- letting in
-- how long the view did not settle, with this tick, counted up to as long as the settings ask
abbrev pub waited : MembershipState → ℕ
waited m = if has_settled m then 0 else min (m.weak + 1) m.settings.weakly

-- the settings let members in, the view did not settle for long enough, and the node leads
abbrev pub lets_in : MembershipState → Bool
lets_in m = not (m.settings.weakly == 0) && waited m == m.settings.weakly && is_process m.me (leader m.gossip.view)

-- ---- the tick
-- at most one update, the first that applies
abbrev pub updates : MembershipState → Outcome
updates m =
    if observes m then update (Observed (silent m) ∷ []) m
    else (if decides m then update (decided m) m
    else (if founds m then update (founding_effects m.gossip.view.standings) m
    else (if leads m then update_any (leaders_effects m.gossip.view m.confirmed) m
    else (if lets_in m then update_any (weak_effects m.gossip.view) m
    else unchanged m))))

-- there is an effect
abbrev pub has_effect : List Effect → Bool
has_effect [] = false
has_effect (effect ∷ effects) = true

-- the node leads, and has something to do
abbrev pub acts : MembershipState → Bool
acts m = leads m && has_effect (leaders_effects m.gossip.view m.confirmed)

-- the node lets somebody in
abbrev pub welcomes : MembershipState → Bool
welcomes m = lets_in m && has_effect (weak_effects m.gossip.view)

-- a number is left for an update, and one of the rules makes one
abbrev pub is_due : MembershipState → Bool
is_due m = may_count m && (observes m || decides m || founds m || acts m || welcomes m)

-- the tick is counted, and for how long the view did not settle; the tombstones of the settled view, and the watched members
-- that are not heard, wait for a tick more
abbrev pub counted : ℕ → MembershipState → MembershipState
counted weak m =
    record m {
      ticks = m.ticks + 1;
      stable = stood m;
      weak = weak;
      settled = after_tick m.settings.margin m.settled;
      detector = detector.ticked m.settings.deadline m.detector;
    }

-- one tick; of a node that is no member it changes nothing
abbrev pub tick : MembershipState → Outcome
tick m = if is_member m then (counted (waited m) (updates m).0, (updates m).1) else unchanged m

-- ---- gossip
-- a node gossips at every third tick, and while fewer than half of the members have seen what it knows
abbrev pub gossips : MembershipState → Bool
gossips m = m.ticks % 3 == 0 || nat_lt (2 * how_many m.gossip.seen) (length (members_of m.gossip.view.standings))

-- to whom the node gossips now, by a word that chooses
abbrev pub gossip_peer : ℕ → MembershipState → Option UniqueModel
gossip_peer word m = if gossips m then peer word m.gossip.view m.gossip.seen m.me else None
