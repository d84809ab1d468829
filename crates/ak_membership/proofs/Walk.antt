-- The one walk over the rules: each does to what is known one thing at most.
use Rattle.std.proofs.Common.{◌≡◌, ℕ, ◌+◌, Bool, true, false, not, inl, inr, if◌then◌else◌, nat_le, nat_lt, List, [], ◌∷◌, Some, is_some, Result, Ok, Err, IfOk, IsTrue, ◌⊎◌, refl, sym, ap, arith, ◌∙◌, true≢false, ◌≤◌}
use Rattle.std.proofs.lemmas.Option.{same_Some}
use Rattle.std.proofs.lemmas.Bool.{ltb-false}
use Rattle.std.specs.FinMap as map
use Rattle.std.specs.Cmp.{first_so}
use Rattle.ak_address.specs.Unique.{UniqueModel}
use Rattle.ak_address.proofs.BoolLemmas.{not_false}
use Rattle.ak_clock.specs.Version.{count, relation}
use Rattle.ak_member.specs.declared.effect.Effect.{Effect}
use Rattle.ak_member.specs.declared.effect.Effect.TheVariants.{Joined, Rise, Observed}
use Rattle.ak_member.specs.declared.status.Status.TheVariants.{Leaving, Down}
use Rattle.ak_member.specs.Standing as standing
use Rattle.ak_member.specs.Standing.{is_down, is_up, is_member_with}
use Rattle.ak_gossip.specs.declared.gossip.GossipFault.TheVariants as fault
use Rattle.ak_gossip.specs.Gossip.{GossipState, is_known, accepted, marked_seen, most_uniques}
use Rattle.ak_gossip.proofs.InvariantLemmas.{member_known}
use Rattle.ak_settings.specs.Settings.{is_listed}
use Rattle.ak_reach.specs.Unreachable.{unreachable_members}
use Rattle.ak_downing.specs.Downing.{decide, is_against}
use Rattle.ak_leader.specs.Leader.{leaders_effects, founding_effects, weak_effects}
use Rattle.ak_settled.specs.Settled.{after_tick}
use Rattle.ak_membership.specs.declared.change.Reply.{Reply}
use Rattle.ak_membership.specs.declared.change.Reply.TheVariants.{Welcome}
use Rattle.ak_membership.specs.declared.change.MemberFault.{MemberFault}
use Rattle.ak_membership.specs.declared.state.MembershipState.{MembershipState}
use Rattle.ak_membership.specs.Membership.{Outcome, unchanged, replying, may_count, made, update, update_any, knowing, is_member, found, leave, down, is_beside, has_member_beside, replaced, most_at_join, on_join, on_received, on_gossip}
use Rattle.ak_membership.specs.Tick.{observes, silent, decides, decided, founds, leads, lets_in, has_settled, waited, updates, counted, tick}
use Rattle.ak_membership.specs.Knowledge.{Given, Keeps, Updates, Accepts, learnt, IsLawful, Learns}
use Rattle.ak_membership.proofs.Causes.{founding_causes, leading_causes, letting_in_causes, downing_causes, one_cause}

module _ (given : Given) (m : MembershipState) where
  learns_if : (b : Bool) {o p : Outcome} → (b ≡ true → Learns given m o) → (b ≡ false → Learns given m p) → Learns given m (if b then o else p)
  learns_if true x y = x refl
  learns_if false x y = y refl

  -- a rule that may refuse
  abbrev Answers : Result Outcome MemberFault → Type 0
  Answers r = IfOk r (λ o. Learns given m o)

  answers_if : (b : Bool) (r s : Result Outcome MemberFault) → (b ≡ true → Answers r) → (b ≡ false → Answers s) → Answers (if b then r else s)
  answers_if true r s x y = x refl
  answers_if false r s x y = y refl

  -- what differs from the membership in its target, its ticks and its founder mark alone
  record IsAlike (l : MembershipState) : Type 0 where
    gossip : l.gossip ≡ m.gossip
    me : l.me ≡ m.me
    settings : l.settings ≡ m.settings
    shown : l.shown ≡ m.shown
    confirmed : l.confirmed ≡ m.confirmed
    settled : l.settled ≡ m.settled
    ticked : l.ticks ≤ m.ticks + 1
    founder : IsTrue l.founder → IsTrue m.founder ⊎ IsTrue given.founds
    founds : IsTrue m.founder → IsTrue l.founder

  itself : IsAlike m
  itself = record { gossip = refl; me = refl; settings = refl; shown = refl; confirmed = refl; settled = refl; ticked = omega arith; founder = λ f. inl f; founds = λ f. f }

  keeping : (l : MembershipState) → IsAlike l → Learns given m (unchanged l)
  keeping l alike = record {
    knowledge = Keeps;
    lawful = tt;
    knows = alike.gossip;
    tells = refl;
    numbered = λ number none. absurd (true≢false (sym (ap is_some none)));
    same_me = alike.me;
    same_settings = alike.settings;
    same_shown = alike.shown;
    same_confirmed = alike.confirmed;
    waits_on = inl alike.settled;
    ticked = alike.ticked;
    founder = alike.founder;
    founds = alike.founds;
  }

  still : Learns given m (unchanged m)
  still = keeping m itself

  making : (l : MembershipState) (effects : List Effect) → IsAlike l → IsLawful given m (Updates effects) → Learns given m (made effects l)
  making l effects alike lawful = record {
    knowledge = Updates effects;
    lawful = lawful;
    knows = λ i. learnt (alike.me i) (Updates effects) (alike.gossip i);
    tells = refl;
    numbered = λ number is. sym (same_Some (count l.gossip.version l.me + 1) number is) ∙ (λ i. count (alike.gossip i).version (alike.me i) + 1);
    same_me = alike.me;
    same_settings = alike.settings;
    same_shown = alike.shown;
    same_confirmed = alike.confirmed;
    waits_on = inl alike.settled;
    ticked = alike.ticked;
    founder = alike.founder;
    founds = alike.founds;
  }

  updating : (l : MembershipState) (effects : List Effect) → IsAlike l → IsLawful given m (Updates effects) → Learns given m (update effects l)
  updating l effects alike lawful = learns_if (may_count l) (λ is. making l effects alike lawful) (λ no. keeping l alike)

  updating_any : (l : MembershipState) (effects : List Effect) → IsAlike l → IsLawful given m (Updates effects) → Learns given m (update_any effects l)
  updating_any l [] alike lawful = keeping l alike
  updating_any l (x ∷ effects) alike lawful = updating l (x ∷ effects) alike lawful

  replies : (reply : Reply) (o : Outcome) → Learns given m o → Learns given m (replying reply o)
  replies reply o c = record {
    knowledge = c.knowledge;
    lawful = c.lawful;
    knows = c.knows;
    tells = c.tells;
    numbered = c.numbered;
    same_me = c.same_me;
    same_settings = c.same_settings;
    same_shown = c.same_shown;
    same_confirmed = c.same_confirmed;
    waits_on = c.waits_on;
    ticked = c.ticked;
    founder = c.founder;
    founds = c.founds;
  }

  member_is_known : IsTrue (is_member m) → IsTrue (is_known m.gossip.view.standings m.me)
  member_is_known is = member_known (map.get m.gossip.view.standings m.me) is

  -- ---- local events
  pub found_learns : IsTrue given.founds → Learns given m (found m)
  found_learns given_it =
      let l : MembershipState = record m { founder = true } in
      learns_if (is_known m.gossip.view.standings m.me) (λ is. still)
      (λ is. updating l (Joined m.me ∷ []) (record { gossip = refl; me = refl; settings = refl; shown = refl; confirmed = refl; settled = refl; ticked = omega arith; founder = λ f. inr given_it; founds = λ f. refl })
      (inr refl, one_cause given m (Joined m.me) (inl (given_it, refl))))

  pub leave_learns : (who : UniqueModel) → IfOk (leave who m) (λ o. Learns given m o)
  leave_learns who =
      answers_if (not (is_member m)) _ _ (λ is. tt) (λ member.
      answers_if (not (standing.is_member m.gossip.view.standings who)) _ _ (λ is. tt) (λ there.
      answers_if (not (is_member_with is_up m.gossip.view.standings who)) _ _ (λ is. tt) (λ up.
      updating m (Rise who Leaving 0 ∷ []) itself (inl (member_is_known (not_false _ member)), one_cause given m (Rise who Leaving 0) (not_false _ there, not_false _ up)))))

  pub down_learns : (who : UniqueModel) → IfOk (down who m) (λ o. Learns given m o)
  down_learns who =
      answers_if (not (is_member m)) _ _ (λ is. tt) (λ member.
      answers_if (not (standing.is_member m.gossip.view.standings who)) _ _ (λ is. tt) (λ there.
      answers_if (is_member_with is_down m.gossip.view.standings who) _ _ (λ is. still) (λ up.
      updating m (Rise who Down 0 ∷ []) itself (inl (member_is_known (not_false _ member)), one_cause given m (Rise who Down 0) (not_false _ there, tt)))))

  -- ---- a tick
  updates_learns : is_member m ≡ true → Learns given m (updates m)
  updates_learns member =
      let known = member_is_known member in
      learns_if (observes m) (λ is. updating m (Observed (silent m) ∷ []) itself (inl known, one_cause given m (Observed (silent m)) refl)) (λ no.
      learns_if (decides m) (λ is. updating m (decided m) itself (inl known, downing_causes given m (is_against (decide m.settings.strategy m.settings.role m.gossip.view m.me) (unreachable_members m.gossip.view) m.me))) (λ no.
      learns_if (founds m) (λ is. updating m (founding_effects m.gossip.view.standings) itself (inl known, founding_causes given m is)) (λ no.
      learns_if (leads m) (λ is. updating_any m (leaders_effects m.gossip.view m.confirmed) itself (inl known, leading_causes given m (first_so (has_settled m) _ is))) (λ no.
      learns_if (lets_in m) (λ is. updating_any m (weak_effects m.gossip.view) itself (inl known, letting_in_causes given m)) (λ no. still)))))

  -- what an update leaves for the tick to count
  pub record Leaves (o : Outcome) : Type 0 where
    pub ticks : o.0.ticks ≡ m.ticks
    pub settings : o.0.settings ≡ m.settings
    pub settled : o.0.settled ≡ m.settled

  leaves_if : (b : Bool) (o p : Outcome) → Leaves o → Leaves p → Leaves (if b then o else p)
  leaves_if true o p x y = x
  leaves_if false o p x y = y

  update_leaves : (effects : List Effect) → Leaves (update effects m)
  update_leaves effects = leaves_if (may_count m) (made effects m) (unchanged m) (record { ticks = refl; settings = refl; settled = refl }) (record { ticks = refl; settings = refl; settled = refl })

  update_any_leaves : (effects : List Effect) → Leaves (update_any effects m)
  update_any_leaves [] = record { ticks = refl; settings = refl; settled = refl }
  update_any_leaves (x ∷ effects) = update_leaves (x ∷ effects)

  pub updates_leave : Leaves (updates m)
  updates_leave =
      leaves_if (observes m) (update (Observed (silent m) ∷ []) m) _ (update_leaves (Observed (silent m) ∷ []))
      (leaves_if (decides m) (update (decided m) m) _ (update_leaves (decided m))
      (leaves_if (founds m) (update (founding_effects m.gossip.view.standings) m) _ (update_leaves (founding_effects m.gossip.view.standings))
      (leaves_if (leads m) (update_any (leaders_effects m.gossip.view m.confirmed) m) _ (update_any_leaves (leaders_effects m.gossip.view m.confirmed))
      (leaves_if (lets_in m) (update_any (weak_effects m.gossip.view) m) (unchanged m) (update_any_leaves (weak_effects m.gossip.view)) (record { ticks = refl; settings = refl; settled = refl })))))

  counting : (o : Outcome) (weak : ℕ) → Leaves o → Learns given m o → Learns given m (counted weak o.0, o.1)
  counting o weak left c = record {
    knowledge = c.knowledge;
    lawful = c.lawful;
    knows = c.knows;
    tells = c.tells;
    numbered = c.numbered;
    same_me = c.same_me;
    same_settings = c.same_settings;
    same_shown = c.same_shown;
    same_confirmed = c.same_confirmed;
    waits_on = inr (λ i. after_tick (left.settings i).margin (left.settled i));
    ticked = let same = left.ticks in omega arith;
    founder = c.founder;
    founds = c.founds;
  }

  pub tick_learns : Learns given m (tick m)
  tick_learns = learns_if (is_member m) (λ member. counting (updates m) (waited m) updates_leave (updates_learns member)) (λ no. still)

  -- ---- a process asks to join
  pub join_learns : (from : UniqueModel) → given.asks ≡ Some from → IfOk (on_join from m) (λ o. Learns given m o)
  join_learns from asked =
      answers_if (not (is_member m)) _ _ (λ is. tt) (λ member.
      answers_if (not (is_listed m.settings.listed from.address)) _ _ (λ is. tt) (λ listed.
      answers_if (standing.is_member m.gossip.view.standings from) _ _ (λ is. replies Welcome (unchanged m) still) (λ other.
      answers_if (is_known m.gossip.view.standings from) _ _ (λ is. still) (λ unknown.
      answers_if (has_member_beside from m.gossip.view.standings) _ _
      (λ is. updating_any m (replaced from m.gossip.view.standings) itself (inl (member_is_known (not_false _ member)), downing_causes given m (is_beside from))) (λ free.
      answers_if (nat_le most_at_join (map.len m.gossip.view.standings)) _ _ (λ is. tt) (λ room.
      learns_if (may_count m)
      (λ is. replies Welcome (made (Joined from ∷ []) m) (making m (Joined from ∷ []) itself (inl (member_is_known (not_false _ member)), one_cause given m (Joined from) (inr (not_false _ member, asked)))))
      (λ is. still)))))))

  -- ---- a gossip
  module _ (g : GossipState) (brings : given.brings ≡ Some g) (there : IsTrue (is_known g.view.standings m.me)) where
    accepting : (count g.version m.me ≤ count m.gossip.version m.me) → Learns given m (unchanged (knowing (marked_seen m.me (accepted (relation m.gossip.version g.version) m.gossip g)).1 m))
    accepting most = record {
      knowledge = Accepts g;
      lawful = (brings, there, most);
      knows = refl;
      tells = refl;
      numbered = λ number none. absurd (true≢false (sym (ap is_some none)));
      same_me = refl;
      same_settings = refl;
      same_shown = refl;
      same_confirmed = refl;
      waits_on = inl refl;
      ticked = omega arith;
      founder = λ f. inl f;
      founds = λ f. f;
    }

    by_tests : (a b : Bool) → nat_lt (count m.gossip.version m.me) (count g.version m.me) ≡ a → (own theirs together : ℕ) →
        Answers (on_received g m (if a then Err (fault.ForeignCount own theirs) else (if b then Err (fault.TooManyUniques together) else Ok (marked_seen m.me (accepted (relation m.gossip.version g.version) m.gossip g)))))
    by_tests true b foreign own theirs together = tt
    by_tests false true foreign own theirs together = tt
    by_tests false false foreign own theirs together =
        let r = marked_seen m.me (accepted (relation m.gossip.version g.version) m.gossip g) in
        let most = ltb-false (count m.gossip.version m.me) (count g.version m.me) foreign in
        replies _ (unchanged (knowing r.1 m)) (accepting most)

  pub gossip_learns : (g : GossipState) → given.brings ≡ Some g → IfOk (on_gossip g m) (λ o. Learns given m o)
  gossip_learns g brings =
      answers_if (is_known g.view.standings m.me) _ _ (λ there.
      by_tests g brings there (nat_lt (count m.gossip.version m.me) (count g.version m.me)) (nat_lt most_uniques (map.len (standing.merged_standings m.gossip.view.standings g.view.standings))) refl
      (count m.gossip.version m.me) (count g.version m.me) (map.len (standing.merged_standings m.gossip.view.standings g.view.standings))) (λ is. still)
