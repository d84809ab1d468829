-- The one walk over what a node does to its part of promises and of the singleton: each rule makes of it what a list of allowed
-- moves makes of it, and what is sent says no more than the list. All that is proved of a world's promises is proved from this.
use Rattle.std.proofs.Common.{length, ◌≡◌, ℕ, Bool, true, false, not, ◌&&◌, inl, inr, ◌⊎◌, if◌then◌else◌, List, [], ◌∷◌, ◌++◌, Option, Some, None, is_some, IsSome, IsTrue, Contains, Decides, map, refl, sym, ap, ◌∙◌, subst, true≢false}
use Rattle.std.proofs.lemmas.Option.{same_Some}
use Rattle.std.specs.FinMap as finmap
use Rattle.std.specs.Ordering.{is_eq}
use Rattle.std.specs.Cmp.{first_so, second_so}
use Rattle.ak_address.specs.Unique.{UniqueModel, unique_cmp}
use Rattle.ak_address.specs.Changed.{keys_of}
use Rattle.ak_address.specs.Uniques.{UniqueSet, no_one, has, those, in_order}
use Rattle.ak_address.proofs.ChangedLaws.{has-keys_of}
use Rattle.ak_address.proofs.Elements.{contains_nothing, contains_either, contains_at, index_of}
use Rattle.ak_address.proofs.TableLaws.{entries-empty, same_key}
use Rattle.ak_address.proofs.UniquesLaws.{has-those, has_at, index_of_has}
use Rattle.ak_clock.specs.Version.{Counts}
use Rattle.ak_member.specs.declared.status.Status.{Status}
use Rattle.ak_member.specs.declared.standing.Standing.{Standing}
use Rattle.ak_member.specs.Standing.{tombstone_of}
use Rattle.ak_line.specs.Line.{Line}
use Rattle.ak_line.specs.BallotOrder.{IsLater}
use Rattle.ak_line.specs.Moves as moves
use Rattle.ak_line.specs.Moves.{Node, Trial, Said, Move, IsLive}
use Rattle.ak_line.specs.Local.{AllLocal, changed_all, Speaks}
use Rattle.ak_line.proofs.LocalLists.{changed_append, speaks_first, speaks_then, local_append}
use Rattle.ak_membership.specs.declared.change.Reply.{Reply}
use Rattle.ak_membership.specs.declared.change.Reply.TheVariants as reply
use Rattle.ak_promise.specs.declared.promise.Answer.{Answer}
use Rattle.ak_promise.specs.declared.promise.Answer.TheVariants as given
use Rattle.ak_promise.specs.Ballot.{BallotModel}
use Rattle.ak_promise.specs.Promise.{asked, answer_to, is_some_ballot, freed_after, released_by}
use Rattle.ak_settled.specs.SettledView.{SettledView}
use Rattle.ak_settled.specs.Settled.{version_of, standings_of, is_finished}
use Rattle.ak_settled.proofs.SettledLaws.{finished_means}
use Rattle.ak_shard_id.specs.declared.report.Report.{Report}
use Rattle.ak_line.specs.Told.{EachOnce}
use Rattle.ak_sharding.specs.Sharding as sharding_rules
use Rattle.ak_sharding.specs.Sharding.{ShardingModel, Around}
use Rattle.ak_sharding.specs.Hosts as hosts
use Rattle.ak_sharding.specs.Coordinates as coordinates
use Rattle.ak_sharding.specs.Packets as packets
use Rattle.ak_sharding.specs.Sharing.{IsSharing, HaveRisen, LiveIsLast as LastIsLive}
use Rattle.ak_sharding.proofs.PartLemmas.{said_sent}
use Rattle.ak_sharding.proofs.PartLemmas.{IsPart as IsPartHere, Does as ShardsDo}
use Rattle.ak_sharding.proofs.HostMoves.{routes_does, asks_homes_does}
use Rattle.ak_sharding.proofs.CoordinateMoves.{coordinates_does}
use Rattle.ak_sharding.proofs.PacketMoves.{on_shard_message_does}
use Rattle.ak_sharding.proofs.SingletonMoves.{Done as SingletonDone, reports_said, tested, tick_does, granted_does as grant_does, old_does as outdone_does, end_does}
use Rattle.ak_singleton.specs.declared.phase.Phase.{Phase}
use Rattle.ak_singleton.specs.declared.phase.Phase.TheVariants as phase
use Rattle.ak_singleton.specs.declared.phase.TickRule.{TickRule}
use Rattle.ak_singleton.specs.declared.phase.TickRule.TheVariants as rules
use Rattle.ak_singleton.specs.Singleton.{SingletonModel, own_ballot, after_rule, steps_of, active_term, after_granted, is_first_grant, after_old, is_outdone, ended, may_activate, after_activation}
use Rattle.ak_singleton.specs.SingletonView.{HasLive}
use Rattle.ak_singleton.proofs.AsMoves.{line, HasPhase, IsLike, IsKnown, Follows, SaysInTick, SaysInAnswer, SaysInEnd, ask_is_moves, names_is_moves, hand_over_is_moves, release_is_moves, done_is_moves, activation_is_moves}
use Rattle.ak_singleton.proofs.LiveKept.{Fits, rule_fits, granted_fits, old_fits, ended_fits, activation_fits}
use Rattle.ak_wire.specs.declared.envelope.Envelope.{Envelope}
use Rattle.ak_wire.specs.declared.envelope.Message.{Message}
use Rattle.ak_wire.specs.declared.envelope.Message.TheVariants as message
use Rattle.ak_wire.specs.declared.action.Action.{Action}
use Rattle.ak_wire.specs.Wire.{sent}
use Rattle.ak_wire.proofs.Sending.{sent-append}
use Rattle.ak_node.specs.declared.node.State.{State}
use Rattle.ak_node.specs.Node.{around, sharing, shards_do, offer, on_shards, Outcome, known, me_of, settled_of, margin_of, reports_of, is_member, and_then, to_each, answer, keeping, told_of, told_its_own, told_to_each, releases, needed_others, rule_on, does_rule, asks_as, told_end, let_go, ends_phase, told_active, becomes_active, floor_of, answered, is_over_here, answers_ask, is_asked, on_ask, is_buried, takes_grant, on_granted, on_busy, on_old, has_handed_over, on_hand_over, on_release, on_done}
use Rattle.ak_node.specs.Said.{marks_told, said_to, said_in}
use Rattle.ak_node.proofs.ChangeLemmas.{each_sent}

-- ---- what packets say
-- nothing of this is said
abbrev pub Unsaid : List Action → Type 0
Unsaid actions = (p : Envelope) → Contains (sent actions) p → said_in p ≡ []

pub unsaid_none : (actions : List Action) → sent actions ≡ [] → Unsaid actions
unsaid_none actions none p there = absurd (contains_nothing p (subst (λ l. Contains l p) none there))

pub unsaid_both : (a b : List Action) → Unsaid a → Unsaid b → Unsaid (a ++ b)
unsaid_both a b x y p there = elim (contains_either (sent a) (sent b) p (subst (λ l. Contains l p) (sent-append a b) there)) [ inl one ↦ x p one | inr other ↦ y p other ]

-- the same to several
pub each_says : (n : State) (to : List UniqueModel) (what : Message) (says : List (Said Counts)) → ((u : UniqueModel) → said_to u what ≡ says) → (p : Envelope) → Contains (sent (to_each n to what)) p → said_in p ≡ says
each_says n to what says is p there = ap (said_to (record { address = p.to; uid = p.uid })) (each_sent n to what p there).1 ∙ is (record { address = p.to; uid = p.uid })

pub unsaid_each : (n : State) (to : List UniqueModel) (what : Message) → ((u : UniqueModel) → said_to u what ≡ []) → Unsaid (to_each n to what)
unsaid_each n to what is = each_says n to what [] is

pub unsaid_answer : (r : Reply) (to : UniqueModel) (n : State) → Unsaid (answer r to n)
unsaid_answer reply.Nothing to n = unsaid_none [] refl
unsaid_answer reply.Welcome to n = unsaid_each n (to ∷ []) (message.Welcome (known n)) (λ u. refl)
unsaid_answer reply.Gossip to n = unsaid_each n (to ∷ []) (message.Gossip (known n)) (λ u. refl)

-- what is said in one list
in_order-no_one : in_order no_one ≡ []
in_order-no_one = ap (map (λ (e : UniqueModel × Unit {0}). e.0)) entries-empty

told_none : (o : Option BallotModel) (what : BallotModel → Message) (n : State) → told_to_each o what no_one n ≡ []
told_none None what n = refl
told_none (Some b) what n = ap (λ to. to_each n to (what b)) in_order-no_one

-- what a packet about a ballot says, where it is one of these
record SaysOf (o : Option BallotModel) (said : BallotModel → List (Said Counts)) (p : Envelope) : Type 0 where
  ballot : BallotModel
  some : o ≡ Some ballot
  is : said_in p ≡ said ballot

of_says : (o : Option BallotModel) (what : BallotModel → Message) (said : BallotModel → List (Said Counts)) → ((b : BallotModel) (u : UniqueModel) → said_to u (what b) ≡ said b)
    → (to : UniqueModel) (n : State) (p : Envelope) → Contains (sent (told_of o what to n)) p → SaysOf o said p
of_says None what said is to n p there = absurd (contains_nothing p there)
of_says (Some b) what said is to n p there = record { ballot = b; some = refl; is = each_says n (to ∷ []) (what b) (said b) (is b) p there }

own_says : (o : Option BallotModel) (n : State) (p : Envelope) → Contains (sent (told_its_own o n)) p → SaysOf o (λ b. Said.Names b ∷ []) p
own_says None n p there = absurd (contains_nothing p there)
own_says (Some b) n p there = record { ballot = b; some = refl; is = each_says n (b.unique ∷ []) (message.HandOverToMe b) (Said.Names b ∷ []) (λ u. refl) p there }

to_each_says : (o : Option BallotModel) (what : BallotModel → Message) (said : BallotModel → List (Said Counts)) → ((b : BallotModel) (u : UniqueModel) → said_to u (what b) ≡ said b)
    → (to : UniqueSet) (n : State) (p : Envelope) → Contains (sent (told_to_each o what to n)) p → SaysOf o said p
to_each_says None what said is to n p there = absurd (contains_nothing p there)
to_each_says (Some b) what said is to n p there = record { ballot = b; some = refl; is = each_says n (in_order to) (what b) (said b) (is b) p there }

abbrev releases_with : Counts → BallotModel → List (Said Counts)
releases_with v b = Said.Released b v ∷ []

releases_say : (to : UniqueSet) (n : State) (p : Envelope) → Contains (sent (releases to n)) p → SaysOf n.singleton.promise.last (releases_with (version_of (settled_of n))) p
releases_say to n p there = to_each_says n.singleton.promise.last (λ b. message.Release b (version_of (settled_of n))) (releases_with (version_of (settled_of n))) (λ b u. refl) to n p there

no_release : (n : State) (p : Envelope) → Contains (sent (releases no_one n)) p → ⊥
no_release n p there = contains_nothing p (subst (λ l. Contains (sent l) p) (told_none n.singleton.promise.last (λ b. message.Release b (version_of (settled_of n))) n) there)

no_ask : (o : Option BallotModel) (n : State) (p : Envelope) → Contains (sent (told_to_each o message.Ask no_one n)) p → ⊥
no_ask o n p there = contains_nothing p (subst (λ l. Contains (sent l) p) (told_none o message.Ask n) there)

none_owned : (n : State) (p : Envelope) → Contains (sent (told_its_own None n)) p → ⊥
none_owned n p there = contains_nothing p there

-- the one ballot that is said is the one that is there
one_said : (o : Option BallotModel) (said : BallotModel → List (Said Counts)) (p : Envelope) (s : SaysOf o said p) (b : BallotModel) → o ≡ Some b → (says : List (Said Counts)) → says ≡ said b → (x : Said Counts) → Contains (said_in p) x → Contains says x
one_said o said p s b at says is x there =
    subst (λ l. Contains l x) (s.is ∙ ap said (same_Some s.ballot b (sym s.some ∙ at)) ∙ sym is) there

-- ---- all that are finished by a settled view
pub finished_in : ℕ → SettledView → List UniqueModel
finished_in margin settled = in_order (those (keys_of (standings_of settled)) (is_finished margin settled))

module _ (margin : ℕ) (settled : SettledView) where
  some_entry : (q : UniqueModel) → IsTrue (is_finished margin settled q) → has (keys_of (standings_of settled)) q ≡ true
  some_entry q over =
      let t = finished_means margin settled q over in
      has-keys_of (standings_of settled) q ∙ by_standing (finmap.get (standings_of settled) q) t.0 t.1
    where
      by_standing : (o : Option Standing) (confirmed : Bool) → tombstone_of o ≡ Some confirmed → is_some o ≡ true
      by_standing None confirmed is = absurd (true≢false (sym (ap is_some is)))
      by_standing (Some x) confirmed is = refl

  pub finished_there : (q : UniqueModel) → IsTrue (is_finished margin settled q) → Contains (finished_in margin settled) q
  unfolding finished_in
  finished_there q over =
      let all : has (those (keys_of (standings_of settled)) (is_finished margin settled)) q ≡ true = has-those (keys_of (standings_of settled)) (is_finished margin settled) q ∙ (λ i. some_entry q over i && over i) in
      let at = index_of_has (those (keys_of (standings_of settled)) (is_finished margin settled)) q all in
      contains_at (finished_in margin settled) at.0 q at.1

  pub there_finished : (q : UniqueModel) → Contains (finished_in margin settled) q → IsTrue (is_finished margin settled q)
  unfolding finished_in
  there_finished q there =
      let at = index_of (finished_in margin settled) q there in
      let all : has (those (keys_of (standings_of settled)) (is_finished margin settled)) q ≡ true = has_at (those (keys_of (standings_of settled)) (is_finished margin settled)) at.0 q at.1 in
      second_so (has (keys_of (standings_of settled)) q) (is_finished margin settled q) (sym (has-those (keys_of (standings_of settled)) (is_finished margin settled) q) ∙ all)

-- whether a phase of the moves asks
abbrev asks_now : moves.Phase Counts → Bool
asks_now moves.Younger = false
asks_now (moves.Asking t) = true
asks_now (moves.Active t) = false
asks_now moves.Ended = false

-- a node of the moves that runs keeps the same as this one
pub record IsPart (n : State) (a : Node Counts) : Type 0 where
  pub like : IsLike (margin_of n) (settled_of n) n.singleton a
  pub fits : Fits n.singleton
  pub sharing : IsSharing n.sharding a

-- the same part, of another state
pub part_alike : (n m : State) (a : Node Counts) → IsPart n a → margin_of m ≡ margin_of n → settled_of m ≡ settled_of n → m.singleton ≡ n.singleton → m.sharding ≡ n.sharding → IsPart m a
part_alike n m a part margin settled single shares = record {
  like =
      subst (λ s. IsLike (margin_of m) (settled_of m) s a) (sym single)
      (subst (λ v. IsLike (margin_of m) v n.singleton a) (sym settled)
      (subst (λ k. IsLike k (settled_of n) n.singleton a) (sym margin) part.like));
  fits = subst Fits (sym single) part.fits;
  sharing = subst (λ t. IsSharing t a) (sym shares) part.sharing;
}

-- after a step: a node that runs keeps the same as its moves', and one that does not has stopped there too
pub record IsAfter (n : State) (a : Node Counts) : Type 0 where
  pub running : IsTrue n.runs → IsPart n a
  pub over : n.runs ≡ false → a.runs ≡ false

-- ---- the walk, over a line and given who said what and who has stopped
module _ (on : Counts → Type 0) (aged removed : Counts → UniqueModel → Type 0) where
  abbrev pub l : Line Counts
  l = line on aged removed

  asks_decides : (p : moves.Phase Counts) (t : Trial Counts) → IsLive l IsLater p t → Decides (asks_now p) (p ≡ moves.Asking t)
  asks_decides moves.Younger t live = absurd live
  asks_decides (moves.Asking u) t live = ((λ is. ap moves.Asking live), λ is. refl)
  asks_decides (moves.Active u) t live = ((λ is. absurd (true≢false (sym is))), λ is. sym (ap asks_now (sym is)))
  asks_decides moves.Ended t live = absurd live

  -- what is known of a settled view: that of its candidate and of those whom it needs; whoever is finished was removed; and whoever
  -- was removed is a tombstone
  pub record IsShown (margin : ℕ) (settled : SettledView) : Type 0 where
    pub known : IsKnown on aged removed margin settled
    pub over : (q : UniqueModel) → IsTrue (is_finished margin settled q) → is_some settled ≡ true × removed (version_of settled) q
    pub buried : (q : UniqueModel) → removed (version_of settled) q → IsSome (tombstone_of (finmap.get (standings_of settled) q))
    pub risen : HaveRisen aged settled

  -- a live ballot is the last one promised, and the node's own
  abbrev pub IsOwn : UniqueModel → Node Counts → Type 0
  IsOwn me a = (t : Trial Counts) → IsLive l IsLater a.phase t → (a.last ≡ Some t.ballot) × (t.ballot.unique ≡ me)

  -- a live ballot of the node is that of its moves
  live_is : (n : State) (a : Node Counts) → IsPart n a → (b : BallotModel) → n.singleton.live ≡ Some b → (t : Trial Counts) × IsLive l IsLater a.phase t × (t.ballot ≡ b)
  live_is n a part b live = by_phase n.singleton.phase refl
    where
      with_trial : (t : Trial Counts) → (a.phase ≡ moves.Asking t) ⊎ (a.phase ≡ moves.Active t) → n.singleton.live ≡ Some t.ballot → (u : Trial Counts) × IsLive l IsLater a.phase u × (u.ballot ≡ b)
      with_trial t (inl at) is = (t, subst (λ p. IsLive l IsLater p t) (sym at) refl, same_Some t.ballot b (sym is ∙ live))
      with_trial t (inr at) is = (t, subst (λ p. IsLive l IsLater p t) (sym at) refl, same_Some t.ballot b (sym is ∙ live))

      no_live : (ph : Phase) → n.singleton.phase ≡ ph → HasLive ph n.singleton.live → n.singleton.live ≡ None → (u : Trial Counts) × IsLive l IsLater a.phase u × (u.ballot ≡ b)
      no_live ph at h none = absurd (true≢false (sym (ap is_some (sym none ∙ live))))

      by_phase : (ph : Phase) → n.singleton.phase ≡ ph → (u : Trial Counts) × IsLive l IsLater a.phase u × (u.ballot ≡ b)
      by_phase phase.Younger at = absurd (true≢false (sym (ap is_some (sym (subst (λ x. HasLive x n.singleton.live) at part.fits) ∙ live))))
      by_phase phase.Asking at = let t = subst (λ x. HasPhase n.singleton x a) at part.like.phase in with_trial t.0 (inl t.1) t.2.ballot
      by_phase phase.Active at = let t = subst (λ x. HasPhase n.singleton x a) at part.like.phase in with_trial t.0 (inr t.1) t.2.ballot
      by_phase phase.Ended at = absurd (true≢false (sym (ap is_some (sym (subst (λ x. HasLive x n.singleton.live) at part.fits) ∙ live))))

  live_last : (n : State) (a : Node Counts) → IsPart n a → IsOwn (me_of n) a → (b : BallotModel) → n.singleton.live ≡ Some b → n.singleton.promise.last ≡ Some b
  live_last n a part own b live = let t = live_is n a part b live in sym part.like.last ∙ (own t.0 t.1).0 ∙ ap Some t.2

  live_own : (n : State) (a : Node Counts) → IsPart n a → IsOwn (me_of n) a → (b : BallotModel) → n.singleton.live ≡ Some b → b.unique ≡ me_of n
  live_own n a part own b live = let t = live_is n a part b live in ap (λ (x : BallotModel). x.unique) (sym t.2) ∙ (own t.0 t.1).1

  module _ (heard : UniqueModel → Said Counts → Type 0) (stopped : UniqueModel → Type 0) where
    -- what is sent says no more than the list of moves
    abbrev pub SaysNoMore : Node Counts → List (Move Counts) → List Action → Type 0
    SaysNoMore a ms actions = (p : Envelope) → Contains (sent actions) p → (x : Said Counts) → Contains (said_in p) x → Speaks l IsLater a ms x

    -- a part of a step is a list of allowed moves
    pub record Does (n : State) (a : Node Counts) (o : Outcome) : Type 0 where
      pub list : List (Move Counts)
      pub local : AllLocal l IsLater heard stopped (me_of n) a list
      pub part : IsPart o.0 (changed_all l IsLater a list)
      pub says : SaysNoMore a list o.1
      pub same_me : me_of o.0 ≡ me_of n

    -- one part after another
    pub does_then : (n : State) (a : Node Counts) (next : State → Outcome) (o : Outcome) (d : Does n a o) → Does o.0 (changed_all l IsLater a d.list) (next o.0) → Does n a (and_then next o)
    does_then n a next o d f = record {
      list = d.list ++ f.list;
      local = local_append l IsLater heard stopped (me_of n) a d.list f.list d.local (subst (λ u. AllLocal l IsLater heard stopped u (changed_all l IsLater a d.list) f.list) d.same_me f.local);
      part = subst (IsPart (next o.0).0) (sym (changed_append l IsLater a d.list f.list)) f.part;
      says = λ p there x x_says. elim (contains_either (sent o.1) (sent (next o.0).1) p (subst (λ k. Contains k p) (sent-append o.1 (next o.0).1) there)) [
        | inl before ↦ speaks_first l IsLater a d.list f.list x (d.says p before x x_says)
        | inr last ↦ speaks_then l IsLater a d.list f.list x (f.says p last x x_says)
      ];
      same_me = f.same_me ∙ d.same_me;
    }

    pub does_if : (n : State) (a : Node Counts) (b : Bool) {o p : Outcome} → (b ≡ true → Does n a o) → (b ≡ false → Does n a p) → Does n a (if b then o else p)
    does_if n a true x y = x refl
    does_if n a false x y = y refl

    -- nothing of this is done or said
    pub unmoved : (n m : State) (a : Node Counts) (actions : List Action) → IsPart m a → me_of m ≡ me_of n → Unsaid actions → Does n a (m, actions)
    unmoved n m a actions part me unsaid = record {
      list = [];
      local = tt;
      part = part;
      says = λ p there x x_says. absurd (contains_nothing x (subst (λ k. Contains k x) (unsaid p there) x_says));
      same_me = me;
    }

    -- marks and table stay
    same_sharing : {n : State} {a : Node Counts} {s : SingletonModel} {says : List (Said Counts)} → (f : Follows on aged removed heard stopped (me_of n) a (margin_of n) (settled_of n) s says a.table) → IsPart n a → IsSharing n.sharding (changed_all l IsLater a f.list)
    same_sharing f part = record { marks = f.marks ∙ part.sharing.marks; slots = part.sharing.slots; table = λ x at. let h = part.sharing.table x at in (f.tabled ∙ h.0, h.1) }

    -- a call of the singleton after which the shards are these
    pub from_done : (n : State) (a : Node Counts) (part : IsPart n a) (known : IsKnown on aged removed (margin_of n) (settled_of n)) (s : SingletonModel) (t : ShardingModel) (says : List (Said Counts)) (actions : List Action)
        → SingletonDone on aged removed heard stopped (around n) known n.sharding a (record { like = part.like; sharing = part.sharing }) s t says → Fits s
        → ((p : Envelope) → Contains (sent actions) p → (x : Said Counts) → Contains (said_in p) x → Contains says x) → Does n a (keeping s (sharing t n), actions)
    from_done n a part known s t says actions d fits told = record {
      list = d.becomes.list;
      local = d.becomes.local;
      part = subst (IsPart (keeping s (sharing t n))) (sym d.becomes.becomes) (record { like = d.part.like; fits = fits; sharing = d.part.sharing });
      says = λ p there x x_says. d.becomes.spoken x (told p there x x_says);
      same_me = refl;
    }

    -- what is done with the shards
    pub shards_does : (work : Around → ShardingModel → sharding_rules.Outcome) (n : State) (a : Node Counts) (part : IsPart n a) → ShardsDo on aged removed heard stopped (around n) a (work (around n) n.sharding) → Does n a (shards_do work n)
    shards_does work n a part d = record {
      list = d.becomes.list;
      local = d.becomes.local;
      part = subst (IsPart (shards_do work n).0) (sym d.becomes.becomes) (record { like = d.part.like; fits = part.fits; sharing = d.part.sharing });
      says = λ p there x x_says. d.becomes.spoken x (said_sent (work (around n) n.sharding).1 p there x x_says);
      same_me = refl;
    }

    -- a call of the singleton
    pub followed : (n : State) (a : Node Counts) (s : SingletonModel) (says : List (Said Counts)) (actions : List Action) → IsPart n a → Follows on aged removed heard stopped (me_of n) a (margin_of n) (settled_of n) s says a.table → Fits s
        → ((p : Envelope) → Contains (sent actions) p → (x : Said Counts) → Contains (said_in p) x → Contains says x) → Does n a (keeping s n, actions)
    followed n a s says actions part f fits told = record {
      list = f.list;
      local = f.local;
      part = record { like = f.like; fits = fits; sharing = same_sharing f part };
      says = λ p there x x_says. f.spoken x (told p there x x_says);
      same_me = refl;
    }

    -- a call that leaves the singleton as it was
    pub followed_here : (n : State) (a : Node Counts) (says : List (Said Counts)) (actions : List Action) → IsPart n a → Follows on aged removed heard stopped (me_of n) a (margin_of n) (settled_of n) n.singleton says a.table
        → ((p : Envelope) → Contains (sent actions) p → (x : Said Counts) → Contains (said_in p) x → Contains says x) → Does n a (n, actions)
    followed_here n a says actions part f told = record {
      list = f.list;
      local = f.local;
      part = record { like = f.like; fits = part.fits; sharing = same_sharing f part };
      says = λ p there x x_says. f.spoken x (told p there x x_says);
      same_me = refl;
    }

    module _ (n : State) (a : Node Counts) (part : IsPart n a) (shown : IsShown (margin_of n) (settled_of n)) where
      abbrev me : UniqueModel
      me = me_of n

      abbrev s : SingletonModel
      s = n.singleton

      -- its part as the shards see it
      here : IsPartHere on aged removed heard stopped (around n) n.sharding a
      here = record { like = part.like; sharing = part.sharing }

      -- ---- a tick
      abbrev InTick : TickRule → List (Said Counts) → Type 0
      InTick r says = SaysInTick on aged removed heard stopped me (margin_of n) (settled_of n) shown.known s a part.like r says

      abbrev then_state : TickRule → State
      then_state r = (does_rule r n).0

      rule_says : (status : Status) (r : TickRule) (says : List (Said Counts)) → SaysInTick on aged removed heard stopped me (margin_of n) (settled_of n) shown.known s a part.like r says → ((b : BallotModel) → s.live ≡ Some b → s.promise.last ≡ Some b)
          → (p : Envelope) → Contains (sent (does_rule r n).1) p → (x : Said Counts) → Contains (said_in p) x → Contains says x
      rule_says status r says in_tick bound p there x x_says =
          let after : State = (does_rule r n).0 in
          let steps = steps_of r me (settled_of n) (margin_of n) s in
          let own = told_its_own steps.hand_over_to after in
          let let_goes = releases steps.release after in
          let asks = told_to_each after.singleton.live message.Ask steps.ask after in
          elim (contains_either (sent (own ++ let_goes)) (sent asks) p (subst (λ k. Contains k p) (sent-append (own ++ let_goes) asks) there)) [
            | inl first ↦ elim (contains_either (sent own) (sent let_goes) p (subst (λ k. Contains k p) (sent-append own let_goes) first)) [
              | inl one ↦ by_own r in_tick one
              | inr two ↦ by_release r in_tick two
            ]
            | inr three ↦ by_ask r in_tick three
          ]
        where
          by_own : (r : TickRule) → InTick r says → Contains (sent (told_its_own (steps_of r me (settled_of n) (margin_of n) s).hand_over_to (then_state r))) p → Contains says x
          by_own rules.Rests t one = absurd (none_owned (then_state rules.Rests) p one)
          by_own rules.Opens t one = absurd (none_owned (then_state rules.Opens) p one)
          by_own rules.HandsOver t one = one_said s.promise.last _ p (own_says s.promise.last (then_state rules.HandsOver) p one) t.0 t.1 says t.2 x x_says
          by_own rules.Closes t one = absurd (none_owned (then_state rules.Closes) p one)
          by_own rules.Asks t one = absurd (none_owned (then_state rules.Asks) p one)

          freed_last : (o : Option BallotModel) → s.promise.last ≡ o → (freed_after o (version_of (settled_of n)) s.promise).last ≡ s.promise.last
          freed_last None at = refl
          freed_last (Some b) at = refl

          by_release : (r : TickRule) → InTick r says → Contains (sent (releases (steps_of r me (settled_of n) (margin_of n) s).release (then_state r))) p → Contains says x
          by_release rules.Rests t two = absurd (no_release (then_state rules.Rests) p two)
          by_release rules.Opens t two = absurd (no_release (then_state rules.Opens) p two)
          by_release rules.HandsOver t two = absurd (no_release (then_state rules.HandsOver) p two)
          by_release rules.Closes t two =
              one_said (then_state rules.Closes).singleton.promise.last _ p (releases_say (steps_of rules.Closes me (settled_of n) (margin_of n) s).release (then_state rules.Closes) p two)
              t.0 (freed_last s.promise.last refl ∙ bound t.0 t.1) says t.2 x x_says
          by_release rules.Asks t two = absurd (no_release (then_state rules.Asks) p two)

          by_ask : (r : TickRule) → InTick r says → Contains (sent (told_to_each (then_state r).singleton.live message.Ask (steps_of r me (settled_of n) (margin_of n) s).ask (then_state r))) p → Contains says x
          by_ask rules.Rests t three = absurd (no_ask s.live (then_state rules.Rests) p three)
          by_ask rules.Opens t three =
              one_said (Some (own_ballot me s.promise)) (λ b. Said.Ask b ∷ []) p (to_each_says (Some (own_ballot me s.promise)) message.Ask (λ b. Said.Ask b ∷ []) (λ b u. refl) (steps_of rules.Opens me (settled_of n) (margin_of n) s).ask (then_state rules.Opens) p three)
              (own_ballot me s.promise) refl says t x x_says
          by_ask rules.HandsOver t three = absurd (no_ask s.live (then_state rules.HandsOver) p three)
          by_ask rules.Closes t three = absurd (no_ask None (then_state rules.Closes) p three)
          by_ask rules.Asks t three =
              one_said s.live (λ b. Said.Ask b ∷ []) p (to_each_says s.live message.Ask (λ b. Said.Ask b ∷ []) (λ b u. refl) (steps_of rules.Asks me (settled_of n) (margin_of n) s).ask (then_state rules.Asks) p three) t.0 t.1 says t.2 x x_says

      pub asks_does : (status : Option Status) → IsOwn me a → Does n a (asks_as status n)
      asks_does None own = unmoved n n a [] part refl (unsaid_none [] refl)
      asks_does (Some status) own =
          let bound = live_last n a part own in
          let t = tick_does on aged removed heard stopped (around n) shown.known n.sharding a (record { like = part.like; sharing = part.sharing }) status bound in
          from_done n a part shown.known (after_rule (rule_on status n) me (settled_of n) s) (coordinates.tabled_by (rule_on status n) me n.sharding) t.0 (does_rule (rule_on status n) n).1 t.2 (rule_fits s part.fits (rule_on status n) me (settled_of n))
          (rule_says status (rule_on status n) t.0 t.1 bound)

      -- ---- the end
      pub ends_does : IsOwn me a → Does n a (ends_phase n)
      ends_does own =
          let bound = live_last n a part own in
          let t = end_does on aged removed heard stopped (around n) shown.known n.sharding a (record { like = part.like; sharing = part.sharing }) bound in
          from_done n a part shown.known (ended (settled_of n) s) (coordinates.ended_table s.phase n.sharding) t.0 (ends_phase n).1 t.2 (ended_fits s part.fits (settled_of n))
          (λ p there x x_says. elim (contains_either (sent (told_end (active_term s.phase s.live))) (sent (let_go s.phase n)) p (subst (λ k. Contains k p) (sent-append (told_end (active_term s.phase s.live)) (let_go s.phase n)) there)) [
            | inl one ↦ absurd (contains_nothing p (subst (λ k. Contains k p) (unsent_end (active_term s.phase s.live)) one))
            | inr two ↦ by_phase s.phase t.0 t.1 bound p two x x_says
          ])
        where
          unsent_end : (term : Option ℕ) → sent (told_end term) ≡ []
          unsent_end None = refl
          unsent_end (Some term) = refl

          by_phase : (ph : Phase) (says : List (Said Counts)) → SaysInEnd on aged removed heard stopped me (margin_of n) (settled_of n) shown.known s a part.like ph says → ((b : BallotModel) → s.live ≡ Some b → s.promise.last ≡ Some b)
              → (p : Envelope) → Contains (sent (let_go ph n)) p → (x : Said Counts) → Contains (said_in p) x → Contains says x
          by_phase phase.Younger says t bound p two x x_says = absurd (contains_nothing p two)
          by_phase phase.Asking says t bound p two x x_says = one_said s.promise.last _ p (releases_say (needed_others n) n p two) t.0 (bound t.0 t.1) says t.2 x x_says
          by_phase phase.Active says t bound p two x x_says = one_said s.promise.last _ p (releases_say (needed_others n) n p two) t.0 (bound t.0 t.1) says t.2 x x_says
          by_phase phase.Ended says t bound p two x x_says = absurd (contains_nothing p two)

      -- ---- an activation
      pub active_does : (b : Bool) → (b ≡ true → may_activate me (settled_of n) (margin_of n) s ≡ true) → Does n a (becomes_active b n)
      active_does true may =
          followed n a (after_activation true s) [] (told_active s.live) part
          (subst (λ r. Follows on aged removed heard stopped me a (margin_of n) (settled_of n) (after_activation r s) [] a.table) (may refl) (activation_is_moves on aged removed heard stopped me (margin_of n) (settled_of n) shown.known s a part.like))
          (activation_fits s part.fits true me (settled_of n) (margin_of n) may)
          (λ p there. absurd (contains_nothing p (subst (λ k. Contains k p) (unsent_active s.live) there)))
        where
          unsent_active : (o : Option BallotModel) → sent (told_active o) ≡ []
          unsent_active None = refl
          unsent_active (Some b) = refl
      active_does false may = unmoved n _ a [] (part_alike n (keeping (after_activation false s) n) a part refl refl refl refl) refl (unsaid_none [] refl)

      -- ---- messages
      -- a ballot is asked for by its process
      abbrev over : Bool
      over = is_over_here n

      answer_says : (r : Answer) (from : UniqueModel) (b : BallotModel) (says : List (Said Counts)) → SaysInAnswer on aged removed heard stopped me (margin_of n) (settled_of n) shown.known s a part.like r b says
          → (p : Envelope) → Contains (sent (answered r from b n)) p → (x : Said Counts) → Contains (said_in p) x → Contains says x
      answer_says given.Granted from b says t p there x x_says =
          let is : said_in p ≡ Said.Granted b (floor_of n) (marks_told (reports_of n)) ∷ [] = each_says n (from ∷ []) (message.Granted b (floor_of n) (reports_of n)) (Said.Granted b (floor_of n) (marks_told (reports_of n)) ∷ []) (λ u. refl) p there in
          subst (λ k. Contains k x) (is ∙ ap (λ m. Said.Granted b (floor_of n) m ∷ []) (reports_said n.sharding a part.sharing) ∙ sym t) x_says
      answer_says given.Old from b says t p there x x_says = one_said s.promise.last (λ last. Said.Names b ∷ Said.Names last ∷ []) p (of_says s.promise.last (λ last. message.Old b last) (λ last. Said.Names b ∷ Said.Names last ∷ []) (λ last u. refl) from n p there) t.0 t.1 says t.2 x x_says
      answer_says given.Busy from b says t p there x x_says = one_said s.promise.last (λ last. Said.Names b ∷ Said.Names last ∷ []) p (of_says s.promise.last (λ last. message.Busy b last) (λ last. Said.Names b ∷ Said.Names last ∷ []) (λ last u. refl) from n p there) t.0 t.1 says t.2 x x_says

      pub ask_does : (from : UniqueModel) (b : BallotModel) → heard from (Said.Ask b) → Does n a (on_ask from b n)
      ask_does from b was_heard = does_if n a (is_asked from b n) (λ is. asked_for (own_of is)) (λ is. unmoved n n a [] part refl (unsaid_none [] refl))
        where
          own_of : is_asked from b n ≡ true → b.unique ≡ from
          own_of is = same_key b.unique from (second_so (is_member n) (is_eq (unique_cmp b.unique from)) (first_so (is_member n && is_eq (unique_cmp b.unique from)) _ is))

          asked_for : b.unique ≡ from → Does n a (answers_ask from b n)
          asked_for own =
              let t = ask_is_moves on aged removed heard stopped me (margin_of n) (settled_of n) shown.known s a part.like b (subst (λ u. heard u (Said.Ask b)) (sym own) was_heard) in
              followed n a (record s { promise = asked s.promise b over }) t.0 (answered (answer_to s.promise b over) from b n) part t.2 part.fits (answer_says (answer_to s.promise b over) from b t.0 t.1)

      -- a grant is heard of who is no tombstone, in which each shard is reported once at most
      pub granted_does : (from : UniqueModel) (b : BallotModel) (floor : Counts) (told : List Report) → EachOnce told → heard from (Said.Granted b floor (marks_told told)) → Does n a (on_granted from b floor told n)
      granted_does from b floor told once was_heard =
          does_if n a (takes_grant from told n)
          (λ is.
          from_done n a part shown.known (after_granted (is_first_grant from b s) from floor s) (coordinates.learns_if (is_first_grant from b s) (around n) from told n.sharding) [] []
          (grant_does on aged removed heard stopped (around n) shown.known n.sharding a (record { like = part.like; sharing = part.sharing }) part.fits from b floor told once (tested (length n.sharding.region.slots) told (of_shards is)) was_heard (stays is))
          (granted_fits s part.fits (is_first_grant from b s) from floor) (λ p there. absurd (contains_nothing p there)))
          (λ is. unmoved n n a [] part refl (unsaid_none [] refl))
        where
          of_shards : takes_grant from told n ≡ true → coordinates.are_of_shards (length n.sharding.region.slots) told ≡ true
          of_shards is = second_so (not (is_buried n from)) (coordinates.are_of_shards (length n.sharding.region.slots) told) (second_so (is_member n) _ is)

          stays : takes_grant from told n ≡ true → ¬ (removed (version_of (settled_of n)) from)
          stays is gone = true≢false (sym (sym (ap not (shown.buried from gone)) ∙ first_so (not (is_buried n from)) (coordinates.are_of_shards (length n.sharding.region.slots) told) (second_so (is_member n) _ is)))

      -- another holds the promise
      pub busy_does : (b held : BallotModel) (from : UniqueModel) → heard from (Said.Names held) → Does n a (on_busy b held n)
      busy_does b held from was_heard =
          does_if n a (is_member n && is_some_ballot s.live b)
          (λ is. followed_here n a (Said.Names held ∷ []) _ part (names_is_moves on aged removed heard stopped me (margin_of n) (settled_of n) shown.known s a part.like held from was_heard)
          (λ p there x x_says. one_said (Some held) (λ c. Said.Names c ∷ []) p (own_says (Some held) n p there) held refl (Said.Names held ∷ []) refl x x_says))
          (λ is. unmoved n n a [] part refl (unsaid_none [] refl))

      -- the live ballot is outdone
      pub old_does : IsOwn me a → (b last : BallotModel) → Does n a (on_old b last n)
      old_does own b last =
          does_if n a (is_member n)
          (λ is. from_done n a part shown.known (after_old (is_outdone b last s) b last s) (coordinates.begins_if (is_outdone b last s) me n.sharding) [] [] (outdone_does on aged removed heard stopped (around n) shown.known n.sharding a (record { like = part.like; sharing = part.sharing }) b last (live_own n a part own b))
          (old_fits s part.fits b last) (λ p there. absurd (contains_nothing p there)))
          (λ is. unmoved n n a [] part refl (unsaid_none [] refl))

      -- an own ballot is handed over
      pub hand_over_does : (from : UniqueModel) (b : BallotModel) → heard from (Said.Names b) → Does n a (on_hand_over from b n)
      hand_over_does from b was_heard =
          does_if n a (is_member n && has_handed_over b n)
          (λ is.
          let done = second_so (is_member n) (has_handed_over b n) is in
          followed_here n a (Said.HandedOver b (version_of (settled_of n)) ∷ []) _ part
          (hand_over_is_moves on aged removed heard stopped me (margin_of n) (settled_of n) shown.known s a part.like b from was_heard (same_key b.unique me (first_so (is_eq (unique_cmp b.unique me)) (not (is_some_ballot s.live b)) done)) (not_true (is_some_ballot s.live b) (second_so (is_eq (unique_cmp b.unique me)) (not (is_some_ballot s.live b)) done)))
          (λ p there x x_says. subst (λ k. Contains k x) (each_says n (from ∷ []) (message.HandOverDone b (version_of (settled_of n))) (Said.HandedOver b (version_of (settled_of n)) ∷ []) (λ u. refl) p there) x_says))
          (λ is. unmoved n n a [] part refl (unsaid_none [] refl))
        where
          not_true : (t : Bool) → not t ≡ true → t ≡ false
          not_true true is = absurd (true≢false (sym is))
          not_true false is = refl

      -- that a hand-over was done, and a release
      pub done_does : (b : BallotModel) (floor : Counts) (from : UniqueModel) → heard from (Said.HandedOver b floor) → Does n a (on_done b floor n)
      done_does b floor from was_heard =
          does_if n a (is_member n)
          (λ is. followed n a (record s { promise = released_by s.promise b floor }) (Said.Released b floor ∷ []) _ part (done_is_moves on aged removed heard stopped me (margin_of n) (settled_of n) shown.known s a part.like b floor from was_heard) part.fits
          (λ p there x x_says. subst (λ k. Contains k x) (each_says n (in_order (needed_others n)) (message.Release b floor) (Said.Released b floor ∷ []) (λ u. refl) p there) x_says))
          (λ is. unmoved n n a [] part refl (unsaid_none [] refl))

      pub release_does : (b : BallotModel) (floor : Counts) (from : UniqueModel) → heard from (Said.Released b floor) → Does n a (on_release b floor n)
      release_does b floor from was_heard =
          does_if n a (is_member n)
          (λ is. followed n a (record s { promise = released_by s.promise b floor }) [] [] part (release_is_moves on aged removed heard stopped me (margin_of n) (settled_of n) shown.known s a part.like b floor from was_heard) part.fits (λ p there. absurd (contains_nothing p there)))
          (λ is. unmoved n n a [] part refl (unsaid_none [] refl))

      -- ---- shards
      bound_here : IsOwn me a → LastIsLive n.singleton
      bound_here own b live = live_last n a part own b live

      pub on_shards_does : IsOwn me a → (from : UniqueModel) (what : Message) → ((x : Said Counts) → Contains (said_to me what) x → heard from x) → Does n a (on_shards from what n)
      on_shards_does own from what was_heard =
          does_if n a (is_member n)
          (λ is. shards_does (λ b t. packets.on_shard_message b from what t) n a part (on_shard_message_does on aged removed heard stopped (around n) (bound_here own) shown.risen from what n.sharding a was_heard (record { like = part.like; sharing = part.sharing })))
          (λ is. unmoved n n a [] part refl (unsaid_none [] refl))

      pub offer_does : (entity : List ℕ) (payload : ℕ) → Does n a (offer entity payload n)
      offer_does entity payload = shards_does (λ b t. hosts.on_offer b entity payload t) n a part (routes_does on aged removed heard stopped (around n) (record { entity = entity; payload = payload }) n.sharding a (record { like = part.like; sharing = part.sharing }))

      pub coordinates_do : LastIsLive n.singleton → Does n a (shards_do coordinates.coordinates n)
      coordinates_do bound = shards_does coordinates.coordinates n a part (coordinates_does on aged removed heard stopped (around n) bound shown.risen n.sharding a (record { like = part.like; sharing = part.sharing }))

      pub asks_homes_do : Does n a (shards_do hosts.asks_homes n)
      asks_homes_do = shards_does hosts.asks_homes n a part (asks_homes_does on aged removed heard stopped (around n) n.sharding a (record { like = part.like; sharing = part.sharing }))

      -- a live ballot is the last one after the singleton's part of a tick too
      bound_ruled : (r : TickRule) → LastIsLive s → LastIsLive (after_rule r me (settled_of n) s)
      bound_ruled rules.Rests bound b live = bound b live
      bound_ruled rules.Opens bound b live = live
      bound_ruled rules.HandsOver bound b live = bound b live
      bound_ruled rules.Closes bound b live = absurd (true≢false (sym (ap is_some live)))
      bound_ruled rules.Asks bound b live = bound b live

      pub bound_asked : (status : Option Status) → IsOwn me a → LastIsLive (asks_as status n).0.singleton
      bound_asked None own = bound_here own
      bound_asked (Some status) own = bound_ruled (rule_on status n) (bound_here own)
