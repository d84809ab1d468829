-- A step that is concluded once is concluded: nothing is due a second time.
use Rattle.std.proofs.Common.{◌≡◌, ℕ, ◌≤◌, nat_le, ◌+◌, take, ◌||◌, is_some, Bool, true, false, not, ◌&&◌, List, map, Option, Some, None, Result, Ok, Err, IfOk, ◌++◌, [], ◌∷◌, refl, sym, ap, ◌∙◌, subst, arith, true≢false, if◌then◌else◌}
use Rattle.std.proofs.lemmas.Bool.Decides.{nat_tests}
use Rattle.std.specs.FinMap as finmap
use Rattle.std.specs.List.{filter}
use Rattle.std.specs.Ordering.{is_lt}
use Rattle.ak_member.specs.Standing as standing
use Rattle.ak_member.specs.Standing.{Standings, member_pairs}
use Rattle.ak_address.specs.Unique.{AddressModel, UniqueModel, unique_cmp}
use Rattle.ak_address.proofs.TableLaws.{get-empty, entries-empty}
use Rattle.ak_address.proofs.BoolLemmas.{not_true}
use Rattle.ak_address.specs.Distinct.{distinct}
use Rattle.ak_address.specs.Uniques.{UniqueSet, no_one, set_of}
use Rattle.ak_clock.specs.Version.{covers, relation_by}
use Rattle.ak_clock.proofs.VersionLaws.{covers_itself, test_from_covers}
use Rattle.ak_converge.specs.Convergence.{is_converged, is_settled}
use Rattle.ak_detector.specs.Detector.{watching, most_watched}
use Rattle.ak_detector.proofs.DetectorLemmas.{keys-none}
use Rattle.ak_detector.proofs.RingLaws.{watches_on}
use Rattle.ak_member.specs.View.{empty_view}
use Rattle.ak_membership.specs.declared.state.MembershipState.{MembershipState}
use Rattle.ak_member.specs.Age.{role_addresses, role_pairs}
use Rattle.ak_member.specs.declared.status.Status.{Status}
use Rattle.ak_membership.specs.Closing as closing
use Rattle.ak_settled.specs.Settled.{version_of, after_note}
use Rattle.ak_membership.specs.Membership as membership
use Rattle.ak_membership.specs.Membership.{started}
use Rattle.ak_membership.specs.Tick as ticks
use Rattle.ak_membership.specs.Tick.{has_settled}
use Rattle.ak_membership.proofs.RestLemmas.{closed_again}
use Rattle.ak_region.specs.Region.{after_forget, new_region}
use Rattle.ak_region.specs.RegionModel.{RegionModel}
use Rattle.ak_region.proofs.Forgetting.{forgets_once}
use Rattle.ak_region.proofs.StoredLemmas.{none_strange}
use Rattle.ak_settings.specs.Settings.{SettingsModel, IsStrategy, settling_size, division_of, number_of_shards}
use Rattle.ak_settings.specs.declared.settings.Strategy.{Strategy}
use Rattle.ak_settings.specs.declared.settings.Strategy.TheVariants.{StaticQuorum, KeepMajority, KeepOldest, DownAll}
use Rattle.ak_settled.specs.SettledView.{SettledView}
use Rattle.ak_sharding.specs.Hosts as hosts
use Rattle.ak_sharding.specs.Sharding.{ShardingModel, new_sharding}
use Rattle.ak_singleton.specs.Singleton as singleton
use Rattle.ak_singleton.specs.Singleton.{SingletonModel}
use Rattle.ak_wire.specs.declared.action.Action.{Action}
use Rattle.ak_wire.specs.declared.action.Action.TheVariants.{Dead}
use Rattle.ak_wire.specs.declared.envelope.Message.TheVariants as message
use Rattle.ak_node.specs.declared.node.NodeEvent.{NodeEvent}
use Rattle.ak_node.specs.declared.node.NodeEvent.TheVariants.{Join, Tick}
use Rattle.ak_node.specs.declared.node.State.{State}
use Rattle.ak_node.specs.Node as node
use Rattle.ak_node.specs.Node.{Outcome, me_of, is_member, settled_of, margin_of, around, sharing, and_then, closes, forgets, activates, becomes_active, concludes, due, rule, is_dead, running_step, step, nothing, to_address, asks_at}
use Rattle.ak_node.specs.NodeContracts.{Does, IsConcluded, is_idle, is_asking}

-- ---- a state of which nothing is due
module _ (n : State) (runs : n.runs ≡ true)
    (closed : closing.close false n.membership ≡ (n.membership, record { viewed = false; stopped = false; settled = false }))
    (forgot : (hosts.forgets (around n) n.sharding).0 ≡ n.sharding)
    (waits : singleton.may_activate (me_of n) (settled_of n) (margin_of n) n.singleton ≡ false) where
  closes_nothing : closes n ≡ (n, [])
  closes_nothing =
      ap (λ c. (record n { membership = c.0; runs = not c.1.stopped }, due c.1)) (ap (λ b. closing.close (not b) n.membership) runs ∙ closed)
      ∙ (λ i. (record n { runs = sym runs i }, []))

  forgets_nothing : forgets n ≡ n
  forgets_nothing =
      ap (λ b. sharing (if b then (hosts.forgets (around n) n.sharding).0 else n.sharding) n) runs
      ∙ ap (λ s. sharing s n) forgot

  activates_nothing : activates n ≡ (n, [])
  activates_nothing = ap (λ b. becomes_active b n) ((λ i. runs i && singleton.may_activate (me_of n) (settled_of n) (margin_of n) n.singleton) ∙ waits)

  concludes_nothing : concludes n ≡ (n, [])
  concludes_nothing =
      ap (λ (o : Outcome). and_then activates (forgets o.0, o.1)) closes_nothing
      ∙ ap (λ s. and_then activates (s, [])) forgets_nothing
      ∙ ap (λ (o : Outcome). (o.0, [] ++ o.1)) activates_nothing

-- ---- what is left of shards and of the singleton
forgotten_once : (b : Bool) (s : Standings) (sharding : ShardingModel) → b ≡ true
    → record (if b then record sharding { region = after_forget s sharding.region } else sharding) { region = after_forget s (if b then record sharding { region = after_forget s sharding.region } else sharding).region } ≡ (if b then record sharding { region = after_forget s sharding.region } else sharding)
forgotten_once true s sharding is = ap (λ (r : RegionModel). record sharding { region = r }) (forgets_once s sharding.region)
forgotten_once false s sharding is = absurd (true≢false (sym is))

active_once : (b : Bool) (me : UniqueModel) (settled : SettledView) (margin : ℕ) (s : SingletonModel) → singleton.may_activate me settled margin s ≡ b → singleton.may_activate me settled margin (singleton.after_activation b s) ≡ false
active_once true me settled margin s is = refl
active_once false me settled margin s is = is

-- ---- after one conclusion
module _ (n : State) (runs : (concludes n).0.runs ≡ true) where
  goes_on : closing.stops (not n.runs) n.membership ≡ false
  goes_on = by_stopping (closing.stops (not n.runs) n.membership) runs
    where
      by_stopping : (b : Bool) → not b ≡ true → b ≡ false
      by_stopping true is = absurd (true≢false (sym is))
      by_stopping false is = refl

  pub concluded_again : concludes (concludes n).0 ≡ ((concludes n).0, [])
  concluded_again =
      concludes_nothing (concludes n).0 runs
      (closed_again (not n.runs) n.membership goes_on)
      (forgotten_once (closes n).0.runs (closes n).0.membership.gossip.view.standings n.sharding runs)
      (active_once _ (me_of n) (settled_of (closes n).0) (margin_of n) n.singleton (λ i. sym runs i && singleton.may_activate (me_of n) (settled_of (closes n).0) (margin_of n) n.singleton))

-- ---- what each step leaves is concluded
pub step_concluded : (e : NodeEvent) (n : State) → IsConcluded n → IsConcluded (step e n).0
step_concluded e n is = by_runs n.runs refl
  where
    counted : State
    counted = record n { steps = n.steps + 1 }

    dead : IsConcluded counted
    dead runs = ap (λ (o : Outcome). (record o.0 { steps = n.steps + 1 }, o.1)) (is runs)

    by_dead : (d : Bool) → IsConcluded (if d then (counted, Dead ∷ []) else and_then concludes (rule e counted)).0
    by_dead true = dead
    by_dead false = concluded_again (rule e counted).0

    by_runs : (b : Bool) → n.runs ≡ b → IsConcluded (if b then running_step e counted else nothing n).0
    by_runs true runs = by_dead (is_dead (me_of n) e)
    by_runs false stopped = is

-- ---- an event that changes nothing
pub idle_step : (e : NodeEvent) (n : State) → n.runs ≡ true → IsConcluded n → is_idle e n ≡ true → step e n ≡ (record n { steps = n.steps + 1 }, [])
idle_step (Join target) n runs is member =
    let counted : State = record n { steps = n.steps + 1 } in
    ap (λ b. if b then running_step (Join target) counted else nothing n) runs
    ∙ ap (λ b. and_then concludes (if b then nothing counted else (record counted { membership = membership.join target n.membership }, to_address counted target message.Join ∷ []))) member
    ∙ ap (λ (o : Outcome). (record o.0 { steps = n.steps + 1 }, [] ++ o.1)) (is runs)
idle_step other n runs is idle = absurd (true≢false (sym idle))

-- ---- a tick of a node that is no member
pub asking_step : (e : NodeEvent) (n : State) → n.runs ≡ true → IsConcluded n → is_asking e n ≡ true → step e n ≡ (record n { steps = n.steps + 1 }, (asks_at n.membership.target n).1)
asking_step (Tick word) n runs is asking =
    let counted : State = record n { steps = n.steps + 1 } in
    ap (λ b. if b then running_step (Tick word) counted else nothing n) runs
    ∙ ap (λ b. and_then concludes (if b then and_then (node.goes_on word) (node.ticked counted (ticks.tick n.membership)) else asks_at n.membership.target counted)) (not_true (is_member n) asking)
    ∙ by_target n.membership.target
  where
    by_target : (target : Option AddressModel) → and_then concludes (asks_at target (record n { steps = n.steps + 1 })) ≡ (record n { steps = n.steps + 1 }, (asks_at target n).1)
    by_target None = ap (λ (o : Outcome). (record o.0 { steps = n.steps + 1 }, [] ++ o.1)) (is runs)
    by_target (Some target) = ap (λ (o : Outcome). (record o.0 { steps = n.steps + 1 }, to_address n target message.Join ∷ [] ++ o.1)) (is runs)
asking_step other n runs is asking = absurd (true≢false (sym asking))

-- ---- what these tell of an answer
pub does_so : {X : Type 0} (e : NodeEvent) (old new : State) (actions : List Action) (r : Result (List Action) X) → step e old ≡ (record old { steps = old.steps + 1 }, actions)
    → new ≡ record old { steps = old.steps + 1 } → IfOk r (λ done. done ≡ actions) → IfOk r (λ done. Does (step e old) new done)
does_so e old new actions (Ok done) steps is does = record { state_after = is ∙ sym (ap (λ (o : Outcome). o.0) steps); actions_done = does ∙ sym (ap (λ (o : Outcome). o.1) steps) }
does_so e old new actions (Err error) steps is does = tt

-- ---- of a node: after a step, and where it starts
pub leaves_concluded : (e : NodeEvent) (old new : State) → IsConcluded old → new ≡ (step e old).0 → IsConcluded new
leaves_concluded e old new was is = subst IsConcluded (sym is) (step_concluded e old was)

-- Whoever knows nobody has nothing due: nobody is watched, and a settled view has somebody at one address at least.
others_among : UniqueModel → List (UniqueModel × (Status × ℕ)) → List UniqueModel
others_among me pairs =
    let members = map (λ (pair : UniqueModel × (Status × ℕ)). pair.0) pairs in
    filter (λ who. is_lt (unique_cmp me who)) members ++ filter (λ who. is_lt (unique_cmp who me)) members

nobody_watched : (me : UniqueModel) (deadline : ℕ) → watching me finmap.empty deadline finmap.empty ≡ finmap.empty
unfolding others_among
nobody_watched me deadline = watches_on me finmap.empty deadline finmap.empty no_one keys-none (λ i. set_of (take most_watched (others_among me (member_pairs (sym entries-empty i)))))

nobody_counts : (role : List AddressModel) → role_addresses role finmap.empty ≡ []
nobody_counts role = λ i. map (λ (pair : UniqueModel × ℕ). pair.0.address) (role_pairs role (member_pairs (entries-empty i)))

above_none : (quorum : ℕ) → 1 ≤ quorum → nat_le quorum 0 ≡ false
above_none quorum some = grind (arith, nat_tests, some)

none_settled : (quorum : ℕ) (role : List AddressModel) (seen : UniqueSet) → 1 ≤ quorum → is_settled quorum role empty_view seen ≡ false
none_settled quorum role seen some = (λ i. is_converged empty_view seen && nat_le quorum (distinct (nobody_counts role i))) ∙ (λ i. is_converged empty_view seen && above_none quorum some i) ∙ and_false (is_converged empty_view seen)
  where
    and_false : (b : Bool) → (b && false) ≡ false
    and_false true = refl
    and_false false = refl

nobody_closes : (me : UniqueModel) (settings : SettingsModel) → 1 ≤ settling_size settings.strategy
    → closing.close false (started me settings) ≡ (started me settings, record { viewed = false; stopped = false; settled = false })
nobody_closes me settings some =
    let m = started me settings in
    λ i. (
      record m { detector = nobody_watched me settings.deadline i; settled = if not (stays i) && (settles i && not_noted) then after_note m.gossip.version m.gossip.view.standings m.settled else m.settled },
      record { viewed = not (closing.is_same (relation_by (itself i) (itself i))); stopped = stays i; settled = not (stays i) && (settles i && not_noted) },
    )
  where
    itself : covers finmap.empty finmap.empty ≡ true
    itself = test_from_covers finmap.empty finmap.empty (covers_itself finmap.empty)

    stays : closing.stops false (started me settings) ≡ false
    stays = ap standing.is_gone (get-empty me)

    settles : has_settled (started me settings) ≡ false
    settles = none_settled (settling_size settings.strategy) settings.role no_one some

    not_noted : Bool
    not_noted = not (is_some (started me settings).settled.view) || closing.is_other (version_of (started me settings).settled.view) finmap.empty

pub settles_some : (strategy : Strategy) → IsStrategy strategy → 1 ≤ settling_size strategy
settles_some (StaticQuorum quorum) within = within.from
settles_some KeepMajority within = omega arith
settles_some (KeepOldest alone) within = omega arith
settles_some DownAll within = omega arith

pub starts_concluded : (me : UniqueModel) (settings : SettingsModel) (m : MembershipState) (s : SingletonModel) (h : ShardingModel) → 1 ≤ settling_size settings.strategy
    → m ≡ started me settings → s ≡ singleton.unasked → h ≡ new_sharding settings → IsConcluded (record { membership = m; singleton = s; sharding = h; runs = true; steps = 0 })
starts_concluded me settings m s h some is_m is_s is_h = subst IsConcluded (λ i. record { membership = sym is_m i; singleton = sym is_s i; sharding = sym is_h i; runs = true; steps = 0 }) concluded
  where
    concluded : IsConcluded (node.started me settings)
    concluded runs = concludes_nothing (node.started me settings) refl (nobody_closes me settings some)
        (ap (λ slots. record (new_sharding settings) { region = record (new_region (division_of settings) settings.buffer) { slots = slots } }) (none_strange finmap.empty (number_of_shards settings))) refl
