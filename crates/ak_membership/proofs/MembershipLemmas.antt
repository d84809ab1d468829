-- What is true of every membership is kept by each rule: it knows itself where it knows anybody, and what it knows covers its
-- settled view. And what a node knows only grows.
use Rattle.std.proofs.Common.{◌≡◌, ℕ, Bool, true, false, inl, inr, if◌then◌else◌, Some, None, is_some, Result, Ok, Err, IfOk, OnOk, OnErr, IsTrue, refl, sym, ap, ◌∙◌, subst, true≢false}
use Rattle.std.specs.FinMap as map
use Rattle.ak_address.specs.Unique.{UniqueModel, unique_cmp}
use Rattle.ak_address.specs.Uniques.{with_one}
use Rattle.ak_clock.specs.Version.{Counts, Covers, covers, relation, relation_by}
use Rattle.ak_clock.specs.declared.version.Relation.{Relation}
use Rattle.ak_clock.specs.declared.version.Relation.TheVariants as relations
use Rattle.ak_clock.proofs.VersionLaws.{covers_itself, covers_along, covers_from_test, merged_covers_first, bumped_covers}
use Rattle.ak_member.specs.declared.status.Status.TheVariants.{Joining}
use Rattle.ak_member.specs.declared.standing.Standing.{Standing}
use Rattle.ak_member.specs.declared.standing.Standing.TheVariants.{Member}
use Rattle.ak_member.specs.Standing as standing
use Rattle.ak_member.specs.View.{View, after_effects}
use Rattle.ak_member.proofs.ViewLaws.{get-known_here}
use Rattle.ak_gossip.specs.Gossip.{GossipState, is_known, accepted, marked_seen, same, both, seen_by}
use Rattle.ak_gossip.proofs.InvariantLemmas.{known_second, known_after_effects}
use Rattle.ak_settled.specs.Settled.{version_of, standings_of, ticked, after_note, IsCounting}
use Rattle.ak_settled.specs.SettledView.{SettledView, SettledModel}
use Rattle.ak_settled.proofs.SettledLaws.{counting_ticked}
use Rattle.ak_settings.specs.Settings.{SettingsModel}
use Rattle.ak_membership.specs.declared.change.Change.{Change}
use Rattle.ak_membership.specs.declared.change.Closing.{Closing}
use Rattle.ak_membership.specs.declared.change.MemberFault.{MemberFault}
use Rattle.ak_membership.specs.declared.change.MemberFault.TheVariants.{NotUp, UnknownMember, NotMember, Unlisted, ForeignCount, TooManyUniques, NoMemory}
use Rattle.ak_membership.specs.declared.state.MembershipState.{MembershipState}
use Rattle.ak_membership.specs.Membership.{Outcome, started, on_confirmed}
use Rattle.ak_membership.specs.Closing.{notes, close}
use Rattle.ak_membership.specs.Knowledge.{Knowledge, Keeps, Updates, Accepts, Given, learnt, IsLawful, WaitsOn, Learns}
use Rattle.ak_membership.specs.MembershipContracts.{KnowsItself, IsMembership, IsSameProcess, Makes, Answers, Closes}

-- ---- it knows itself
known_is : (me : UniqueModel) (g : GossipState) → IsTrue (is_known g.view.standings me) → KnowsItself me g
known_is me g there unknown = absurd (true≢false (sym there ∙ unknown))

module _ (me : UniqueModel) (own incoming : GossipState) (k : KnowsItself me own) (there : IsTrue (is_known incoming.view.standings me)) where
  seen_if : (b : Bool) (g h : GossipState) → h.view ≡ g.view → KnowsItself me g → KnowsItself me (if b then h else g)
  seen_if true g h view_is l = λ unknown. ap (λ (v : View). map.len v.standings) view_is ∙ l (ap (λ (v : View). is_known v.standings me) (sym view_is) ∙ unknown)
  seen_if false g h view_is l = l

  seen_itself : (g : GossipState) → KnowsItself me g → KnowsItself me (seen_by me g)
  seen_itself g l = seen_if (standing.is_member g.view.standings me) g _ refl l

  accepted_itself : (r : Relation) → KnowsItself me (marked_seen me (accepted r own incoming)).1
  accepted_itself relations.Same = seen_itself (same own incoming) k
  accepted_itself relations.Before = seen_itself incoming (known_is me incoming there)
  accepted_itself relations.After = k
  accepted_itself relations.Concurrent = seen_itself (both own incoming) (known_is me (both own incoming) (known_second own.view.standings incoming.view.standings me there))

pub learnt_itself : (given : Given) (m : MembershipState) (k : Knowledge) → IsLawful given m k → KnowsItself m.me m.gossip → KnowsItself m.me (learnt m.me k m.gossip)
learnt_itself given m Keeps lawful k = k
learnt_itself given m (Updates effects) (inl there, causes) k = known_is m.me (learnt m.me (Updates effects) m.gossip) (known_after_effects effects m.gossip.view.standings m.me there)
learnt_itself given m (Updates effects) (inr is, causes) k =
    known_is m.me (learnt m.me (Updates effects) m.gossip)
    (ap (λ l. is_known (after_effects l m.gossip.view.standings) m.me) is ∙ ap is_some (get-known_here m.gossip.view.standings m.me (Member Joining 0)))
learnt_itself given m (Accepts g) lawful k = accepted_itself m.me m.gossip g k lawful.1 (relation m.gossip.version g.version)

-- ---- what it knows grows
seen_covers : (me : UniqueModel) (g : GossipState) (v : Counts) → Covers g.version v → Covers (seen_by me g).version v
seen_covers me g v over = by_case (standing.is_member g.view.standings me)
  where
    by_case : (b : Bool) → Covers (if b then record g { seen = with_one g.seen me } else g).version v
    by_case true = over
    by_case false = over

accepted_covers : (me : UniqueModel) (own g : GossipState) (a b : Bool) → covers own.version g.version ≡ a → covers g.version own.version ≡ b → Covers (marked_seen me (accepted (relation_by a b) own g)).1.version own.version
accepted_covers me own g true true p q = seen_covers me (same own g) own.version (covers_itself own.version)
accepted_covers me own g true false p q = covers_itself own.version
accepted_covers me own g false true p q = seen_covers me g own.version (covers_from_test g.version own.version q)
accepted_covers me own g false false p q = seen_covers me (both own g) own.version (merged_covers_first own.version g.version)

pub learnt_covers : (me : UniqueModel) (k : Knowledge) (own : GossipState) → Covers (learnt me k own).version own.version
learnt_covers me Keeps own = covers_itself own.version
learnt_covers me (Updates effects) own = bumped_covers own.version me
learnt_covers me (Accepts g) own = accepted_covers me own g (covers own.version g.version) (covers g.version own.version) refl refl

-- ---- the settled view, while its tombstones wait
pub waits_version : (margin : ℕ) (old new : SettledModel) → WaitsOn margin old new → version_of new.view ≡ version_of old.view
waits_version margin old new (inl same) = ap (λ (s : SettledModel). version_of s.view) same
waits_version margin old new (inr later) = ap (λ (s : SettledModel). version_of s.view) later ∙ by_case old.view
  where
    by_case : (v : SettledView) → version_of (ticked margin v) ≡ version_of v
    by_case None = refl
    by_case (Some noted) = refl

pub waits_standings : (margin : ℕ) (old new : SettledModel) → WaitsOn margin old new → standings_of new.view ≡ standings_of old.view
waits_standings margin old new (inl same) = ap (λ (s : SettledModel). standings_of s.view) same
waits_standings margin old new (inr later) = ap (λ (s : SettledModel). standings_of s.view) later ∙ by_case old.view
  where
    by_case : (v : SettledView) → standings_of (ticked margin v) ≡ standings_of v
    by_case None = refl
    by_case (Some noted) = refl

pub waits_counting : (margin : ℕ) (old new : SettledModel) → WaitsOn margin old new → IsCounting margin old.view → IsCounting margin new.view
waits_counting margin old new (inl same) is = subst (λ (s : SettledModel). IsCounting margin s.view) (sym same) is
waits_counting margin old new (inr later) is = subst (λ (s : SettledModel). IsCounting margin s.view) (sym later) (counting_ticked margin old.view is)

-- ---- each rule keeps both
pub keeps_membership : (given : Given) (m : MembershipState) (o : Outcome) → Learns given m o → IsMembership m → IsMembership o.0
keeps_membership given m o l is = record {
  itself = subst (λ u. KnowsItself u o.0.gossip) (sym l.same_me) (subst (KnowsItself m.me) (sym l.knows) (learnt_itself given m l.knowledge l.lawful is.itself));
  settled_before =
      subst (Covers o.0.gossip.version) (sym (waits_version m.settings.margin m.settled o.0.settled l.waits_on))
      (subst (λ (g : GossipState). Covers g.version (version_of m.settled.view)) (sym l.knows)
      (covers_along (learnt m.me l.knowledge m.gossip).version m.gossip.version (version_of m.settled.view) (learnt_covers m.me l.knowledge m.gossip) is.settled_before));
}

-- the closing keeps them
pub close_keeps : (stopping : Bool) (m : MembershipState) → IsMembership m → IsMembership (close stopping m).0
close_keeps stopping m is = record { itself = is.itself; settled_before = by_case (notes stopping m) }
  where
    by_case : (b : Bool) → Covers m.gossip.version (version_of (if b then after_note m.gossip.version m.gossip.view.standings m.settled else m.settled).view)
    by_case true = covers_itself m.gossip.version
    by_case false = is.settled_before

-- a process that starts
pub starts_as_membership : (me : UniqueModel) (settings : SettingsModel) → IsMembership (started me settings)
starts_as_membership me settings = record {
  itself = λ unknown. map.len-empty unique_cmp Standing;
  settled_before = covers_itself map.empty;
}

-- ---- whatever a call answered
module _ {E : Type 0} (m new : MembershipState) (is : IsMembership m) where
  pub made_keeps : (given : Given) (o : Outcome) (r : Result Change E) → Learns given m o → IfOk r (λ c. Makes o new c) → OnErr r (new ≡ m) → IsMembership new
  made_keeps given o (Ok change) l ok err = subst IsMembership (sym ok.state_after) (keeps_membership given m o l is)
  made_keeps given o (Err error) l ok err = subst IsMembership (sym err) is

  pub closed_keeps : (stopping : Bool) (r : Result Closing E) → IfOk r (λ due. Closes (close stopping m) new due) → OnErr r (new ≡ m) → IsMembership new
  closed_keeps stopping (Ok due) ok err = subst IsMembership (sym ok.state_after) (close_keeps stopping m is)
  closed_keeps stopping (Err error) ok err = subst IsMembership (sym err) is

  pub confirmed_keeps : (from : UniqueModel) (r : Result (Unit {0}) E) → OnOk r (new ≡ on_confirmed from m) → OnErr r (new ≡ m) → IsMembership new
  confirmed_keeps from (Ok done) ok err = subst IsMembership (sym ok) (by_case (standing.is_member m.gossip.view.standings from))
    where
      by_case : (b : Bool) → IsMembership (if b then record m { confirmed = with_one m.confirmed from } else m)
      by_case true = record { itself = is.itself; settled_before = is.settled_before }
      by_case false = is
  confirmed_keeps from (Err error) ok err = subst IsMembership (sym err) is

module _ (m new : MembershipState) (is : IsMembership m) where
  same_keeps : new ≡ m → IsMembership new
  same_keeps same = subst IsMembership (sym same) is

  pub answered_keeps : (given : Given) (free : Type 0) (outcome : Result Outcome MemberFault) (r : Result Change MemberFault) → IfOk outcome (λ o. Learns given m o) → Answers free outcome m r new → IsMembership new
  answered_keeps given free outcome (Ok change) l a = subst IsMembership (sym a.2.state_after) (keeps_membership given m a.0 (subst (λ (x : Result Outcome MemberFault). IfOk x (λ o. Learns given m o)) a.1 l) is)
  answered_keeps given free outcome (Err NotUp) l a = same_keeps a.1
  answered_keeps given free outcome (Err UnknownMember) l a = same_keeps a.1
  answered_keeps given free outcome (Err NotMember) l a = same_keeps a.1
  answered_keeps given free outcome (Err Unlisted) l a = same_keeps a.1
  answered_keeps given free outcome (Err (ForeignCount own theirs)) l a = same_keeps a.1
  answered_keeps given free outcome (Err (TooManyUniques union)) l a = same_keeps a.1
  answered_keeps given free outcome (Err (NoMemory _)) l a = same_keeps a.1

-- ---- it is the same process, whatever a call answered
itself_same : (m new : MembershipState) → new ≡ m → IsSameProcess m new
itself_same m new same = record { me = ap (λ (x : MembershipState). x.me) same; settings = ap (λ (x : MembershipState). x.settings) same }

outcome_same : (given : Given) (m new : MembershipState) (o : Outcome) → Learns given m o → new ≡ o.0 → IsSameProcess m new
outcome_same given m new o l is = record { me = ap (λ (x : MembershipState). x.me) is ∙ l.same_me; settings = ap (λ (x : MembershipState). x.settings) is ∙ l.same_settings }

module _ {E : Type 0} (m new : MembershipState) where
  pub made_same : (given : Given) (o : Outcome) (r : Result Change E) → Learns given m o → IfOk r (λ c. Makes o new c) → OnErr r (new ≡ m) → IsSameProcess m new
  made_same given o (Ok change) l ok err = outcome_same given m new o l ok.state_after
  made_same given o (Err error) l ok err = itself_same m new err

  pub closed_same : (stopping : Bool) (r : Result Closing E) → IfOk r (λ due. Closes (close stopping m) new due) → OnErr r (new ≡ m) → IsSameProcess m new
  closed_same stopping (Ok due) ok err = record { me = ap (λ (x : MembershipState). x.me) ok.state_after; settings = ap (λ (x : MembershipState). x.settings) ok.state_after }
  closed_same stopping (Err error) ok err = itself_same m new err

  pub confirmed_same : (from : UniqueModel) (r : Result (Unit {0}) E) → OnOk r (new ≡ on_confirmed from m) → OnErr r (new ≡ m) → IsSameProcess m new
  confirmed_same from (Ok done) ok err = subst (IsSameProcess m) (sym ok) (by_case (standing.is_member m.gossip.view.standings from))
    where
      by_case : (b : Bool) → IsSameProcess m (if b then record m { confirmed = with_one m.confirmed from } else m)
      by_case true = record { me = refl; settings = refl }
      by_case false = record { me = refl; settings = refl }
  confirmed_same from (Err error) ok err = itself_same m new err

pub answered_same : (m new : MembershipState) (given : Given) (free : Type 0) (outcome : Result Outcome MemberFault) (r : Result Change MemberFault) → IfOk outcome (λ o. Learns given m o) → Answers free outcome m r new → IsSameProcess m new
answered_same m new given free outcome (Ok change) l a = outcome_same given m new a.0 (subst (λ (x : Result Outcome MemberFault). IfOk x (λ o. Learns given m o)) a.1 l) a.2.state_after
answered_same m new given free outcome (Err NotUp) l a = itself_same m new a.1
answered_same m new given free outcome (Err UnknownMember) l a = itself_same m new a.1
answered_same m new given free outcome (Err NotMember) l a = itself_same m new a.1
answered_same m new given free outcome (Err Unlisted) l a = itself_same m new a.1
answered_same m new given free outcome (Err (ForeignCount own theirs)) l a = itself_same m new a.1
answered_same m new given free outcome (Err (TooManyUniques union)) l a = itself_same m new a.1
answered_same m new given free outcome (Err (NoMemory _)) l a = itself_same m new a.1
