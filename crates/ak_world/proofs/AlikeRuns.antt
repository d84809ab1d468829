-- Among the packets of one world those that are alike are the same, since what a version shows is what its entries did.
use Rattle.std.proofs.Common.{◌≡◌, ℕ, Bool, true, false, not, if◌then◌else◌, List, [], ◌∷◌, ◌++◌, inl, inr, take, drop, slice_get, Option, Some, None, Result, Ok, Err, refl, sym, ap, subst, ◌∙◌, Contains}
use Rattle.std.proofs.Math.ListN.{take-append-drop}
use Rattle.ak_address.proofs.Elements.{contains_left, contains_right, contains_either, contains_nothing, first_or_rest, index_of}
use Rattle.ak_clock.specs.Version.{Counts}
use Rattle.ak_gossip.specs.Gossip.{GossipState}
use Rattle.ak_history.specs.declared.entry.Entry.{Entry}
use Rattle.ak_history.specs.History.{view}
use Rattle.ak_member.specs.View.{View}
use Rattle.ak_settings.specs.Settings.{SettingsModel}
use Rattle.ak_schedule.specs.declared.event.Event.{Event}
use Rattle.ak_node.specs.declared.node.NodeEvent.{NodeEvent}
use Rattle.ak_node.specs.declared.node.State.{State}
use Rattle.ak_node.specs.Node.{step}
use Rattle.ak_wire.specs.declared.action.Action.{Action}
use Rattle.ak_wire.specs.declared.action.Action.TheVariants.{Send}
use Rattle.ak_wire.specs.declared.envelope.Envelope.{Envelope}
use Rattle.ak_wire.specs.declared.envelope.Message.{Message}
use Rattle.ak_wire.specs.declared.envelope.Message.TheVariants.{Join, Welcome, Gossip, Heartbeat, HeartbeatReply, ExitingConfirmed, Ask, Granted, Busy, Old, HandOverToMe, HandOverDone, Release, GetHome, Home, HostShard, ShardStarted, BeginHandOff, BeginHandOffAck, HandOff, ShardStopped, Forward, Leave, Down, Offer}
use Rattle.ak_wire.specs.Wire.{sent, gossip_of}
use Rattle.ak_wire.proofs.Sending.{sent-append}
use Rattle.ak_packet.specs.Alike.{bare_message, bare}
use Rattle.ak_packet.specs.AlikeLaws.{alike_decides}
use Rattle.ak_world.specs.declared.world.Reason.{Reason}
use Rattle.ak_world.specs.declared.world.Reason as reason
use Rattle.ak_world.specs.Fold.{IsFold}
use Rattle.ak_world.specs.Stored.{AreToldApart, LeavesToldApart}
use Rattle.ak_world.specs.World.{WorldState, Done, gives, acts_at, acts, is_full, stepped, happens, after, empty_world, run}
use Rattle.ak_world.proofs.FoldRuns.{folds-of_run}
use Rattle.ak_world.proofs.WorldLemmas.{sent-there, run-push}

-- ---- some of them
apart_within : (es fs : List Envelope) → ((x : Envelope) → Contains fs x → Contains es x) → AreToldApart es → AreToldApart fs
apart_within es fs within apart d e in_d in_e alike = apart d e (within d in_d) (within e in_e) alike

sent_before : (i : ℕ) (xs : List Action) (e : Envelope) → Contains (sent (take i xs)) e → Contains (sent xs) e
sent_before i xs e there =
    subst (λ l. Contains l e) (sym (sent-append (take i xs) (drop i xs)) ∙ ap sent (take-append-drop i xs)) (contains_left (sent (take i xs)) (sent (drop i xs)) e there)

-- what was sent so far, and the next packet
pub apart_pushed : (old now : List Envelope) (xs : List Action) (i : ℕ) (a : Action) (e : Envelope) → now ≡ old ++ sent (take i xs) → slice_get xs i ≡ Some a → a ≡ Send e → AreToldApart (old ++ sent xs) → AreToldApart (now ++ e ∷ [])
apart_pushed old now xs i a e before at is apart = apart_within (old ++ sent xs) (now ++ e ∷ []) within apart
  where
    earlier : (x : Envelope) → Contains now x → Contains (old ++ sent xs) x
    earlier x there = elim (contains_either old (sent (take i xs)) x (subst (λ l. Contains l x) before there)) [
      | inl one ↦ contains_left old (sent xs) x one
      | inr other ↦ contains_right old (sent xs) x (sent_before i xs x other)
    ]

    within : (x : Envelope) → Contains (now ++ e ∷ []) x → Contains (old ++ sent xs) x
    within x there = elim (contains_either now (e ∷ []) x there) [
      | inl one ↦ earlier x one
      | inr last ↦ elim (first_or_rest e x [] last) [
        | inl same ↦ contains_right old (sent xs) x (subst (Contains (sent xs)) (sym same) (sent-there xs i a e at is))
        | inr none ↦ absurd (contains_nothing x none)
      ]
    ]

-- ---- what an event leaves
-- what a node sends at an event
pub apart_given : (w : WorldState) (index : ℕ) (e : NodeEvent) (n : State) (actions : List Action) → slice_get w.nodes index ≡ Some n → actions ≡ (step e n).1 → LeavesToldApart (gives e index (slice_get w.nodes index) w) → AreToldApart (w.packets ++ sent actions)
apart_given w index e n actions at done apart =
    subst (λ (xs : List Action). AreToldApart (w.packets ++ sent xs)) (sym done) (apart (stepped index (step e n) w) (ap (λ o. gives e index o w) at))

pub apart_too : (answer other : Result Done Reason) → answer ≡ other → LeavesToldApart answer → LeavesToldApart other
apart_too answer other same apart = subst LeavesToldApart same apart

abbrev accepted : Done → Result Done Reason
accepted done = Ok done

same_done : (x y : Done) → accepted x ≡ accepted y → x ≡ y
same_done x y e = cc

-- whether the cluster was founded before makes nothing else of what is sent
module _ (e : NodeEvent) (w : WorldState) (done : Done) where
  abbrev founded : WorldState
  founded = record w { founded = true }

  abbrev Founds : Result Done Reason → Type 0
  Founds answer = (other : Done) × (answer ≡ Ok other) × (other.world.packets ≡ done.world.packets)

  when_room : (index : ℕ) (n : State) (full : Bool) → (if full then Err reason.TheVariants.TooManyPackets else Ok (stepped index (step e n) w)) ≡ Ok done
      → Founds (if full then Err reason.TheVariants.TooManyPackets else Ok (stepped index (step e n) founded))
  when_room index n true is = absurd cc
  when_room index n false is = (stepped index (step e n) founded, refl, ap (λ (d : Done). d.world.packets) (same_done _ _ is))

  when_runs : (index : ℕ) (n : State) (runs : Bool) → (if not runs then Err reason.TheVariants.NodeStopped else (if is_full w then Err reason.TheVariants.TooManyPackets else Ok (stepped index (step e n) w))) ≡ Ok done
      → Founds (if not runs then Err reason.TheVariants.NodeStopped else (if is_full w then Err reason.TheVariants.TooManyPackets else Ok (stepped index (step e n) founded)))
  when_runs index n false is = absurd cc
  when_runs index n true is = when_room index n (is_full w) is

  founds_at : (index : ℕ) (o : Option State) → acts_at e index o w ≡ Ok done → Founds (acts_at e index o founded)
  founds_at index None is = absurd cc
  founds_at index (Some n) is = when_runs index n n.runs is

  founds : (o : Option ℕ) → acts e o w ≡ Ok done → Founds (acts e o founded)
  founds None is = absurd cc
  founds (Some index) is = founds_at index (slice_get w.nodes index) is

pub apart_found : (e : NodeEvent) (o : Option ℕ) (w : WorldState) → LeavesToldApart (acts e o (record w { founded = true })) → LeavesToldApart (acts e o w)
apart_found e o w apart done is = let other = founds e w done o is in subst AreToldApart other.2 (apart other.0 other.1)

-- ---- a run
-- what a version shows, put back
abbrev with_view : (Counts → View) → Message → Message
with_view shows (Welcome g) = Welcome (record g { view = shows g.version })
with_view shows (Gossip g) = Gossip (record g { view = shows g.version })
with_view shows other = other

abbrev Folds : List Entry → Message → Type 0
Folds history m = (g : GossipState) → gossip_of m ≡ Some g → IsFold history g

put_back : (history : List Entry) (m : Message) → Folds history m → with_view (view history) (bare_message m) ≡ m
put_back history Join folds = refl
put_back history (Welcome g) folds = λ i. Welcome (record g { view = sym (folds g refl).shown i })
put_back history (Gossip g) folds = λ i. Gossip (record g { view = sym (folds g refl).shown i })
put_back history Heartbeat folds = refl
put_back history HeartbeatReply folds = refl
put_back history ExitingConfirmed folds = refl
put_back history (Ask b) folds = refl
put_back history (Granted b v rs) folds = refl
put_back history (Busy b c) folds = refl
put_back history (Old b c) folds = refl
put_back history (HandOverToMe b) folds = refl
put_back history (HandOverDone b v) folds = refl
put_back history (Release b v) folds = refl
put_back history (GetHome b s) folds = refl
put_back history (Home b s u) folds = refl
put_back history (HostShard b s n) folds = refl
put_back history (ShardStarted b s n) folds = refl
put_back history (BeginHandOff b s n) folds = refl
put_back history (BeginHandOffAck b s n) folds = refl
put_back history (HandOff b s n) folds = refl
put_back history (ShardStopped b s n) folds = refl
put_back history (Forward name bits) folds = refl
put_back history (Leave u) folds = refl
put_back history (Down u) folds = refl
put_back history (Offer name bits) folds = refl

same_packet : (history : List Entry) (d e : Envelope) → Folds history d.message → Folds history e.message → bare d ≡ bare e → d ≡ e
same_packet history d e of_d of_e same =
    let messages : d.message ≡ e.message =
    sym (put_back history d.message of_d) ∙ ap (λ (b : Envelope). with_view (view history) b.message) same ∙ put_back history e.message of_e in
    λ i. record { from = (same i).from; to = (same i).to; uid = (same i).uid; message = messages i }

apart_of_run : (settings : SettingsModel) (events : List Event) (w : WorldState) → w ≡ run settings events → AreToldApart w.packets
apart_of_run settings events w is_run d e in_d in_e alike =
    same_packet w.history d e (folds d in_d) (folds e in_e) ((alike_decides d e).0 alike)
  where
    folds : (p : Envelope) → Contains w.packets p → Folds w.history p.message
    folds p is_in g carries = let at = index_of w.packets p is_in in folds-of_run settings events w is_run g (inr (at.0, p, at.1, carries))

-- so it is of what the next event of a run leaves
pub apart_next : (settings : SettingsModel) (events : List Event) (w : WorldState) (e : Event) → w ≡ run settings events → LeavesToldApart (happens settings e w)
apart_next settings events w e is_run done is =
    apart_of_run settings (events ++ e ∷ []) done.world
    (sym (ap (after w) is) ∙ ap (λ (x : WorldState). after x (happens settings e x)) is_run ∙ sym (run-push settings empty_world events e))
