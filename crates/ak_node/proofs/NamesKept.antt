-- Whom a node knows after a step is in its ranges, where whom it knew before is, and what came in: a step names nobody else.
use Rattle.std.proofs.Common.{◌≡◌, ◌+◌, Bool, true, false, if◌then◌else◌, cond, inl, inr, List, [], ◌∷◌, Option, Some, None, is_some, IsTrue, Contains, refl, sym, ap, ◌∙◌, subst, true≢false}
use Rattle.std.proofs.lemmas.Option.{same_Some}
use Rattle.std.specs.Bool.{⊤}
use Rattle.std.specs.FinMap as map
use Rattle.std.specs.Ordering.{eq_by_cmp}
use Rattle.ak_address.specs.Unique.{UniqueModel, IsUnique, unique_cmp}
use Rattle.ak_address.specs.Uniques.{with_one}
use Rattle.ak_address.specs.Table.{merged_at, value_with}
use Rattle.ak_address.proofs.Elements.{contains_first, contains_rest}
use Rattle.ak_address.proofs.TableLaws.{same_key, get-insert, get-merged_tables}
use Rattle.ak_clock.specs.declared.version.Relation.{Relation}
use Rattle.ak_clock.specs.declared.version.Relation.TheVariants as clock
use Rattle.ak_clock.specs.Version.{relation}
use Rattle.ak_member.specs.declared.effect.Effect.{Effect}
use Rattle.ak_member.specs.declared.effect.Effect.TheVariants.{Joined, Rise, Removed, Observed}
use Rattle.ak_member.specs.declared.standing.Standing.{Standing}
use Rattle.ak_member.specs.declared.standing.Standing.TheVariants.{Member, Buried}
use Rattle.ak_member.specs.declared.status.Status.TheVariants.{Joining}
use Rattle.ak_member.specs.Standing.{Standings, merged_standing, merged_standings, is_member, known}
use Rattle.ak_member.specs.View.{after_effect, after_effects}
use Rattle.ak_gossip.specs.Gossip.{GossipState, is_known, seen_by, same, both, accepted, marked_seen}
use Rattle.ak_gossip.proofs.InvariantLemmas.{member_known}
use Rattle.ak_membership.specs.declared.state.MembershipState.{MembershipState}
use Rattle.ak_membership.specs.Knowledge.{Knowledge, Keeps, Updates, Accepts, Given, learnt, IsCause, IsLawful}
use Rattle.ak_wire.specs.declared.envelope.Message.{Message}
use Rattle.ak_wire.specs.declared.envelope.Message.TheVariants as message
use Rattle.ak_wire.specs.Wire.{gossip_of}
use Rattle.ak_wire.specs.Datagram.{IsBody}
use Rattle.ak_node.specs.declared.node.State.{State}
use Rattle.ak_node.specs.declared.node.NodeEvent.{NodeEvent}
use Rattle.ak_node.specs.declared.node.NodeEvent.TheVariants as event
use Rattle.ak_node.specs.Node.{nothing, running_step, step}
use Rattle.ak_node.specs.Change.{given_by, asker_in}
use Rattle.ak_node.specs.Sends.{KnowsProcesses, IsProcess, IsSaid}
use Rattle.ak_node.proofs.StepChanges.{step_changes}

-- all that are known are in their ranges
AllUnique : Standings → Type 0
AllUnique s = (who : UniqueModel) → IsTrue (is_known s who) → IsUnique who

-- ---- an update
one_more : (s : Standings) (k : UniqueModel) (x : Standing) → AllUnique s → IsUnique k → AllUnique (known s k x)
unfolding AllUnique
one_more s k x all is who there = by_key (eq_by_cmp unique_cmp who k) refl (sym (ap is_some (get-insert s k new who)) ∙ there)
  where
    new : Standing
    new = value_with merged_standing (map.get s k) x

    by_key : (b : Bool) → eq_by_cmp unique_cmp who k ≡ b → is_some (cond b (Some new) (map.get s who)) ≡ true → IsUnique who
    by_key true tied h = subst IsUnique (sym (same_key who k tied)) is
    by_key false apart h = all who h

-- whom an effect names is in its ranges
NamesUniques : Effect → Type 0
NamesUniques (Joined who) = IsUnique who
NamesUniques (Rise who status number) = IsUnique who
NamesUniques (Removed who confirmed) = IsUnique who
NamesUniques (Observed subjects) = ⊤

after_one : (x : Effect) (s : Standings) → AllUnique s → NamesUniques x → AllUnique (after_effect x s)
unfolding NamesUniques
after_one (Joined who) s all is = one_more s who (Member Joining 0) all is
after_one (Rise who status number) s all is = one_more s who (Member status number) all is
after_one (Removed who confirmed) s all is = one_more s who (Buried confirmed) all is
after_one (Observed subjects) s all is = all

after_all : (xs : List Effect) (s : Standings) → AllUnique s → ((x : Effect) → Contains xs x → NamesUniques x) → AllUnique (after_effects xs s)
after_all [] s all each = all
after_all (x ∷ xs) s all each = after_all xs (after_effect x s) (after_one x s all (each x (contains_first x xs))) (λ y there. each y (contains_rest x y xs there))

cause_names : (given : Given) (m : MembershipState) (xs : List Effect) (x : Effect) → AllUnique m.gossip.view.standings → IsUnique m.me → ((who : UniqueModel) → given.asks ≡ Some who → IsUnique who) → IsCause given m xs x → NamesUniques x
unfolding AllUnique NamesUniques
cause_names given m xs (Joined who) all me asks (inl mine) = subst IsUnique (sym mine.1) me
cause_names given m xs (Joined who) all me asks (inr asked) = asks who asked.1
cause_names given m xs (Rise who status number) all me asks cause = all who (member_known (map.get m.gossip.view.standings who) cause.0)
cause_names given m xs (Removed who confirmed) all me asks cause = all who (member_known (map.get m.gossip.view.standings who) cause.0)
cause_names given m xs (Observed subjects) all me asks cause = tt

-- ---- a gossip that is accepted
merged_names : (s t : Standings) → AllUnique s → AllUnique t → AllUnique (merged_standings s t)
unfolding AllUnique
merged_names s t here there who is = by_two (map.get s who) (map.get t who) refl refl (sym (ap is_some (get-merged_tables merged_standing s t who)) ∙ is)
  where
    by_two : (a b : Option Standing) → map.get s who ≡ a → map.get t who ≡ b → is_some (merged_at merged_standing a b) ≡ true → IsUnique who
    by_two None b at other h = there who (ap is_some other ∙ h)
    by_two (Some x) b at other h = here who (ap is_some at)

seen_names : (me : UniqueModel) (g : GossipState) → AllUnique g.view.standings → AllUnique (seen_by me g).view.standings
seen_names me g all = by_member (is_member g.view.standings me)
  where
    by_member : (b : Bool) → AllUnique (if b then record g { seen = with_one g.seen me } else g).view.standings
    by_member true = all
    by_member false = all

accepted_names : (r : Relation) (me : UniqueModel) (own incoming : GossipState) → AllUnique own.view.standings → AllUnique incoming.view.standings → AllUnique (marked_seen me (accepted r own incoming)).1.view.standings
accepted_names clock.Same me own incoming here there = seen_names me (same own incoming) here
accepted_names clock.Before me own incoming here there = seen_names me incoming there
accepted_names clock.After me own incoming here there = here
accepted_names clock.Concurrent me own incoming here there = seen_names me (both own incoming) (merged_names own.view.standings incoming.view.standings here there)

-- ---- whatever a step does to what is known
learnt_names : (given : Given) (m : MembershipState) (k : Knowledge) → IsLawful given m k → AllUnique m.gossip.view.standings → IsUnique m.me → ((who : UniqueModel) → given.asks ≡ Some who → IsUnique who)
    → ((g : GossipState) → given.brings ≡ Some g → AllUnique g.view.standings) → AllUnique (learnt m.me k m.gossip).view.standings
learnt_names given m Keeps lawful all me asks brings = all
learnt_names given m (Updates xs) lawful all me asks brings = after_all xs m.gossip.view.standings all (λ x there. cause_names given m xs x all me asks (lawful.1 x there))
learnt_names given m (Accepts g) lawful all me asks brings = accepted_names (relation m.gossip.version g.version) m.me m.gossip g all (brings g lawful.0)

-- ---- what came in
nobody_asks : (who : UniqueModel) → None ≡ Some who → IsUnique who
nobody_asks who is = absurd (true≢false (sym (ap is_some is)))

nothing_comes : (g : GossipState) → None ≡ Some g → AllUnique g.view.standings
nothing_comes g is = absurd (true≢false (sym (ap is_some is)))

asker_names : (from : UniqueModel) (m : Message) → IsUnique from → (who : UniqueModel) → asker_in from m ≡ Some who → IsUnique who
asker_names from message.Join unique who is = subst IsUnique (same_Some from who is) unique
asker_names from other unique who is = nobody_asks who is

carried_names : (m : Message) → IsBody m → (g : GossipState) → gossip_of m ≡ Some g → AllUnique g.view.standings
unfolding AllUnique
carried_names (message.Welcome h) body g is = λ who there. body.uniques who (subst (λ (x : GossipState). IsTrue (is_known x.view.standings who)) (sym (same_Some h g is)) there)
carried_names (message.Gossip h) body g is = λ who there. body.uniques who (subst (λ (x : GossipState). IsTrue (is_known x.view.standings who)) (sym (same_Some h g is)) there)
carried_names other body g is = nothing_comes g is

said_asks : (e : NodeEvent) → IsSaid e → (who : UniqueModel) → (given_by e).asks ≡ Some who → IsUnique who
said_asks (event.Packet p) said who is = asker_names p.from p.message said.from who is
said_asks other said who is = nobody_asks who is

said_brings : (e : NodeEvent) → IsSaid e → (g : GossipState) → (given_by e).brings ≡ Some g → AllUnique g.view.standings
said_brings (event.Packet p) said g is = carried_names p.message said.body g is
said_brings other said g is = nothing_comes g is

pub step_names : (e : NodeEvent) (n : State) → IsSaid e → IsProcess n → KnowsProcesses n → KnowsProcesses (step e n).0
unfolding AllUnique
step_names e n said is names = by_runs n.runs refl
  where
    by_runs : (b : Bool) → n.runs ≡ b → KnowsProcesses (step e n).0
    by_runs true runs =
        let c = step_changes e n runs in
        subst (λ (g : GossipState). AllUnique g.view.standings) (sym c.knows)
        (learnt_names (given_by e) n.membership c.knowledge c.lawful names is.me (said_asks e said) (said_brings e said))
    by_runs false stopped = subst (λ b. KnowsProcesses (if b then running_step e (record n { steps = n.steps + 1 }) else nothing n).0) (sym stopped) names
