-- Each allowed move keeps what is true of promises.
use Rattle.std.proofs.Common.{◌≡◌, ℕ, Bool, true, false, ◌⊎◌, inl, inr, List, [], ◌∷◌, Option, Some, None, is_some, Contains, refl, sym, ap, ◌∙◌, subst, true≢false}
use Rattle.std.proofs.lemmas.Option.{same_Some}
use Rattle.ak_line.specs.Name.{Name}
use Rattle.ak_promise.specs.Ballot.{BallotModel}
use Rattle.ak_line.specs.Line.{Line, IsLine, IsStrict}
use Rattle.ak_line.specs.Shards.{Mark, Placement, put_at, own_placement, assigned, freed, yielded}
use Rattle.ak_line.specs.Moves.{Trial, Phase, Younger, Asking, Active, Ended, Activation, Node, Said, Ask, Granted, Released, HandedOver, Names, HostShard, HandOff, ShardStopped, Packet, Cluster, Move, ballot_of, set, puts, says, promises, with_grant, with_latest, Sent, IsLive, IsNew, IsFree, IsNamed, Allowed, after}
use Rattle.ak_line.specs.Promised.{Descends, newest, LivesIn, Lives, HasCensus, Promised}
use Rattle.ak_address.proofs.Elements.{contains_first, contains_rest, first_or_rest, contains_nothing}
use Rattle.ak_line.proofs.Puts.{at_set, from_set, put_kept}

module _ {V : Type 0} (l : Line V) (line : IsLine V l) (above : BallotModel → BallotModel → Type 0) (strict : IsStrict above) where
  -- ---- one packet more
  module _ (w : Cluster V) (p : Promised l above w) (i : Name) (said : Said V) (named : Contains (w.node (ballot_of said).unique).promised (ballot_of said))
      (granted : (c : BallotModel) (f : V) (m : ℕ → Mark) → said ≡ Granted c f m → Contains (w.node i).promised c)
      (dead : (y : Name) (h : BallotModel) (f : V) → (said ≡ Released h f) ⊎ (said ≡ HandedOver h f) → Lives l above w y h → ⊥) where
    new_packet : Packet V
    new_packet = record { from = i; said = said }

    says_dead : (y z : Name) (h : BallotModel) (f : V) → Sent l above (says l above i said w) z (Released h f) ⊎ Sent l above (says l above i said w) z (HandedOver h f) → Lives l above w y h → ⊥
    says_dead y z h f (inl there) lives = elim (first_or_rest (record { from = i; said = said }) (record { from = z; said = Released h f }) w.packets there) [
      | inl is ↦ dead y h f (inl (sym (ap (λ (q : Packet V). q.said) is))) lives
      | inr old ↦ p.dead y z h f (inl old) lives
    ]
    says_dead y z h f (inr there) lives = elim (first_or_rest (record { from = i; said = said }) (record { from = z; said = HandedOver h f }) w.packets there) [
      | inl is ↦ dead y h f (inr (sym (ap (λ (q : Packet V). q.said) is))) lives
      | inr old ↦ p.dead y z h f (inr old) lives
    ]

    says_kept : Promised l above (says l above i said w)
    says_kept = record {
      finished = p.finished;
      own = p.own;
      descends = p.descends;
      newest = p.newest;
      known = p.known;
      named = λ q there. elim (first_or_rest (record { from = i; said = said }) q w.packets there) [
        | inl is ↦ subst (λ (x : Packet V). Contains (w.node (ballot_of x.said).unique).promised (ballot_of x.said)) (sym is) named
        | inr old ↦ p.named q old
      ];
      binds = p.binds;
      granters = p.granters;
      grants = λ z c f m there. elim (first_or_rest (record { from = i; said = said }) (record { from = z; said = Granted c f m }) w.packets there) [
        | inl is ↦ subst (λ k. Contains (w.node k).promised c) (sym (ap (λ (x : Packet V). x.from) is)) (granted c f m (sym (ap (λ (x : Packet V). x.said) is)))
        | inr old ↦ p.grants z c f m old
      ];
      dead = says_dead;
      let_go = p.let_go;
      activations = λ x a is. let c = p.activations x a is in record {
        promised = c.promised;
        own = c.own;
        rose = c.rose;
        first_on = c.first_on;
        latest_on = c.latest_on;
        itself = c.itself;
        stays = c.stays;
        census = c.census;
        greatest = c.greatest;
        within = c.within;
        current = c.current;
      };
      active = p.active;
      before = p.before;
    }

  -- ---- who was active last is no matter of promises
  pub latest_kept : (w : Cluster V) → Promised l above w → (o : Option Name) → Promised l above (record w { latest = o })
  latest_kept w p o = record {
    finished = p.finished;
    own = p.own;
    descends = p.descends;
    newest = p.newest;
    known = p.known;
    named = p.named;
    binds = p.binds;
    granters = p.granters;
    grants = p.grants;
    dead = p.dead;
    let_go = p.let_go;
    activations = λ x a is. let c = p.activations x a is in record {
      promised = c.promised;
      own = c.own;
      rose = c.rose;
      first_on = c.first_on;
      latest_on = c.latest_on;
      itself = c.itself;
      stays = c.stays;
      census = c.census;
      greatest = c.greatest;
      within = c.within;
      current = c.current;
    };
    active = p.active;
    before = p.before;
  }

  -- ---- the parts of a changed node that it has as before
  module _ (w : Cluster V) (p : Promised l above w) (i : Name) where
    known_before : (b : BallotModel) → Contains (w.node i).promised b → (b.unique ≡ i) ⊎ Contains (w.node b.unique).promised b
    known_before b h = inr (p.known i b h)

    granters_before : (t : Trial V) (z : Name) → IsLive l above (w.node i).phase t → Contains t.granted z → (z ≡ i → Contains (w.node i).promised t.ballot) × ((z ≡ i → ⊥) → Contains (w.node z).promised t.ballot)
    granters_before t z live g = let h = p.granters i z t live g in (λ is. subst (λ k. Contains (w.node k).promised t.ballot) is h, λ other. h)

    finished_before : (r : Bool) → ((w.node i).runs ≡ false → r ≡ false) → (q : Name) → Contains (w.node i).finished q → ((q ≡ i → r ≡ false) × ((q ≡ i → ⊥) → (w.node q).runs ≡ false)) × l.on (w.node i).settled × l.removed (w.node i).settled q
    finished_before r rests q h = let f = p.finished i q h in ((λ is. rests (subst (λ k. (w.node k).runs ≡ false) is f.0), λ other. f.0), f.1, f.2)

    -- the census of an activation, where the node is changed
    census_after : (n : Node V) (a b : Activation V) → HasCensus l above w i a → b.ballot ≡ a.ballot → b.first ≡ a.first
        → ((c : BallotModel) → Contains (w.node i).promised c → Contains n.promised c) → ((z : Name) → l.aged a.first z → z ≡ i → (w.node i).runs ≡ false → n.runs ≡ false)
        → l.below b.first b.latest → l.on b.latest → (l.removed b.latest i → ⊥) → ((c : BallotModel) → Contains n.promised c → c.unique ≡ i → (c ≡ a.ballot) ⊎ above a.ballot c) → l.below b.latest n.settled
        → ((t : Trial V) → n.phase ≡ Active t → (t.ballot ≡ a.ballot) × (b.latest ≡ n.settled)) → HasCensus l above (puts l above i n w) i b
    census_after n a b c ballot first grows rests rose on_latest stays greatest within current =
        let here : (P : Node V → Type 0) → P n → P (set l above i n w.node i) = λ P h. at_set l line above P i n w.node i (λ is. h) (λ other. absurd (other refl)) in
        record {
          promised = here (λ m. Contains m.promised b.ballot) (subst (Contains n.promised) (sym ballot) (grows a.ballot c.promised));
          own = ap (λ (x : BallotModel). x.unique) ballot ∙ c.own;
          rose = rose;
          first_on = subst l.on (sym first) c.first_on;
          latest_on = on_latest;
          itself = subst (λ v. l.aged v i) (sym first) c.itself;
          stays = stays;
          census = λ z aged_b.
              let aged : l.aged a.first z = subst (λ v. l.aged v z) first aged_b in
              elim (c.census z aged) [
                | inl promised ↦ inl (at_set l line above (λ m. Contains m.promised b.ballot) i n w.node z (λ is. subst (Contains n.promised) (sym ballot) (grows a.ballot (subst (λ k. Contains (w.node k).promised a.ballot) is promised))) (λ other. subst (Contains (w.node z).promised) (sym ballot) promised))
                | inr gone ↦ inr (subst (λ v. l.removed v z) (sym first) gone.0, at_set l line above (λ m. m.runs ≡ false) i n w.node z (λ is. rests z aged is (subst (λ k. (w.node k).runs ≡ false) is gone.1)) (λ other. gone.1))
              ];
          greatest = here (λ m. (x : BallotModel) → Contains m.promised x → x.unique ≡ i → (x ≡ b.ballot) ⊎ above b.ballot x) (subst (λ y. (x : BallotModel) → Contains n.promised x → x.unique ≡ i → (x ≡ y) ⊎ above y x) (sym ballot) greatest);
          within = here (λ m. l.below b.latest m.settled) within;
          current = here (λ m. (t : Trial V) → m.phase ≡ Active t → (t.ballot ≡ b.ballot) × (b.latest ≡ m.settled)) (subst (λ y. (t : Trial V) → n.phase ≡ Active t → (t.ballot ≡ y) × (b.latest ≡ n.settled)) (sym ballot) current);
        }

    -- ---- a start, a stop, a finding
    pub stop_kept : Promised l above (puts l above i (record (w.node i) { runs = false }) w)
    stop_kept = put_kept l line above w p i (record (w.node i) { runs = false }) (record {
      grows = λ b h. h;
      rests = inl (λ is. refl);
      finished = finished_before false (λ is. refl);
      own = p.own i;
      descends = p.descends i;
      newest = p.newest i;
      known = known_before;
      live = λ c lives. absurd (true≢false (sym lives.is_running));
      binds = λ y c other lives h. p.binds y i c lives h;
      granters = granters_before;
      let_go = λ y c other lives last released. p.let_go y i c last released lives;
      activations = λ a is. let c = p.activations i a is in census_after (record (w.node i) { runs = false }) a a c refl refl (λ b h. h) (λ z aged same was. refl) c.rose c.latest_on c.stays c.greatest c.within c.current;
      active = p.active i;
      before = p.before i;
    })

    -- marks and tables are no matter of promises
    pub shards_kept : (m : ℕ → Mark) (e : ℕ → Placement) → Promised l above (puts l above i (record (w.node i) { marks = m; table = e }) w)
    shards_kept m e = put_kept l line above w p i (record (w.node i) { marks = m; table = e }) (record {
      grows = λ b h. h;
      rests = inl (λ is. is);
      finished = finished_before (w.node i).runs (λ is. is);
      own = p.own i;
      descends = p.descends i;
      newest = p.newest i;
      known = known_before;
      live = λ c lives. inl (record { is_running = lives.is_running; trial = lives.trial; live = lives.live; is_ballot = lives.is_ballot });
      binds = λ y c other lives h. p.binds y i c lives h;
      granters = granters_before;
      let_go = λ y c other lives last released. p.let_go y i c last released lives;
      activations = λ a is. let c = p.activations i a is in census_after (record (w.node i) { marks = m; table = e }) a a c refl refl (λ b h. h) (λ z aged same was. was) c.rose c.latest_on c.stays c.greatest c.within c.current;
      active = p.active i;
      before = p.before i;
    })

    pub find_kept : (q : Name) → Allowed l above w (Move.Find i q) → Promised l above (puts l above i (record (w.node i) { finished = q ∷ (w.node i).finished }) w)
    find_kept q (running, is_on, removed, stopped) = put_kept l line above w p i (record (w.node i) { finished = q ∷ (w.node i).finished }) (record {
      grows = λ b h. h;
      rests = inl (λ is. is);
      finished = λ z h. elim (first_or_rest q z (w.node i).finished h) [
        | inl is ↦ (
          (λ same. subst (λ k. (w.node k).runs ≡ false) (sym is ∙ same) stopped, λ other. subst (λ k. (w.node k).runs ≡ false) (sym is) stopped),
          is_on,
          subst (l.removed (w.node i).settled) (sym is) removed,
        )
        | inr old ↦ finished_before (w.node i).runs (λ is. is) z old
      ];
      own = p.own i;
      descends = p.descends i;
      newest = p.newest i;
      known = known_before;
      live = λ c lives. inl (record { is_running = lives.is_running; trial = lives.trial; live = lives.live; is_ballot = lives.is_ballot });
      binds = λ y c other lives h. p.binds y i c lives h;
      granters = granters_before;
      let_go = λ y c other lives last released. p.let_go y i c last released lives;
      activations = λ a is. let c = p.activations i a is in census_after (record (w.node i) { finished = q ∷ (w.node i).finished }) a a c refl refl (λ b h. h) (λ z aged same was. was) c.rose c.latest_on c.stays c.greatest c.within c.current;
      active = p.active i;
      before = p.before i;
    })

    -- ---- what the greatest promise says
    above_all : (b : BallotModel) (bs : List BallotModel) → Descends above bs → ((d : BallotModel) → newest bs ≡ Some d → above b d) → (c : BallotModel) → Contains bs c → above b c
    above_all b [] falls over c h = absurd (contains_nothing c h)
    above_all b (d ∷ bs) falls over c h = elim (first_or_rest d c bs h) [
      | inl is ↦ subst (above b) (sym is) (over d refl)
      | inr rest ↦ strict.transitive b d c (over d refl) (falls.0 c rest)
    ]

    pub new_above : (b : BallotModel) → IsNew l above (w.node i) b → (c : BallotModel) → Contains (w.node i).promised c → above b c
    new_above b is_new = above_all b (w.node i).promised (p.descends i) (λ d is. is_new d (p.newest i ∙ is))

    pub new_unpromised : (b : BallotModel) → IsNew l above (w.node i) b → Contains (w.node i).promised b → ⊥
    new_unpromised b is_new h = strict.never_itself b (new_above b is_new b h)

    pub is_last : (b : BallotModel) → (w.node i).last ≡ Some b → (c : BallotModel) → Contains (w.node i).promised c → (c ≡ b) ⊎ above b c
    is_last b last = by_list (w.node i).promised (p.descends i) (sym (p.newest i) ∙ last)
      where
        by_list : (bs : List BallotModel) → Descends above bs → newest bs ≡ Some b → (c : BallotModel) → Contains bs c → (c ≡ b) ⊎ above b c
        by_list [] falls is c h = absurd (contains_nothing c h)
        by_list (d ∷ bs) falls is c h = elim (first_or_rest d c bs h) [
          | inl same ↦ inl (same ∙ same_Some d b is)
          | inr rest ↦ inr (subst (λ x. above x c) (same_Some d b is) (falls.0 c rest))
        ]

    pub promised_last : (x : Name) (c : BallotModel) → (w.node x).last ≡ Some c → Contains (w.node x).promised c
    promised_last x c last = by_list (w.node x).promised (sym (p.newest x) ∙ last)
      where
        by_list : (bs : List BallotModel) → newest bs ≡ Some c → Contains bs c
        by_list [] none = absurd (cc)
        by_list (b ∷ bs) first = subst (Contains (b ∷ bs)) (same_Some b c first) (contains_first b bs)

    -- a live ballot is its node's
    pub its_node : (y : Name) (c : BallotModel) → Lives l above w y c → c.unique ≡ y
    its_node y c lives = sym (ap (λ (b : BallotModel). b.unique) lives.is_ballot) ∙ (p.own y lives.trial lives.live).2

    pub its_last : (y : Name) (c : BallotModel) → Lives l above w y c → (w.node y).last ≡ Some c
    its_last y c lives = (p.own y lives.trial lives.live).0 ∙ ap Some lives.is_ballot

    -- ---- a start
    pub start_kept : Allowed l above w (Move.Start i) → Promised l above (puts l above i (record (w.node i) { runs = true }) w)
    start_kept (is_blank, unheard) = put_kept l line above w p i (record (w.node i) { runs = true }) (record {
      grows = λ b h. h;
      rests = inr unheard;
      finished = λ q h. absurd (contains_nothing q (subst (λ (m : Node V). Contains m.finished q) is_blank h));
      own = p.own i;
      descends = p.descends i;
      newest = p.newest i;
      known = known_before;
      live = λ c lives. absurd (subst (λ (m : Node V). IsLive l above m.phase lives.trial) is_blank lives.live);
      binds = λ y c other lives h. p.binds y i c lives h;
      granters = granters_before;
      let_go = λ y c other lives last released. p.let_go y i c last released lives;
      activations = λ a is. absurd (true≢false (sym (ap is_some (sym (ap (λ (m : Node V). m.activation) is_blank) ∙ is))));
      active = p.active i;
      before = p.before i;
    })

    -- ---- a node notes a settled version
    noted_same : (v : V) → l.below (w.node i).settled v → (b : Activation V) → (w.node i).activation ≡ Some b → ((u : Trial V) → (w.node i).phase ≡ Active u → ⊥)
        → HasCensus l above (puts l above i (record (w.node i) { settled = v; activation = with_latest l above v (w.node i).phase (w.node i).activation }) w) i b
    noted_same v below b is inactive =
        let c = p.activations i b is in
        census_after (record (w.node i) { settled = v; activation = with_latest l above v (w.node i).phase (w.node i).activation }) b b c refl refl (λ x h. h) (λ z aged here was. was)
        c.rose c.latest_on c.stays c.greatest (line.transitive b.latest (w.node i).settled v c.within below) (λ u is_u. absurd (inactive u is_u))

    noted_census : (v : V) → l.on v → l.below (w.node i).settled v → (l.removed v i → ⊥) → (ph : Phase V) → (w.node i).phase ≡ ph → (o : Option (Activation V)) → (w.node i).activation ≡ o → (b : Activation V) → with_latest l above v ph o ≡ Some b
        → HasCensus l above (puts l above i (record (w.node i) { settled = v; activation = with_latest l above v (w.node i).phase (w.node i).activation }) w) i b
    noted_census v is_on below stays (Active t) phase None act b is = absurd (cc)
    noted_census v is_on below stays (Active t) phase (Some a) act b is =
        let c = p.activations i a act in
        let same : record a { latest = v } ≡ b = same_Some (record a { latest = v }) b is in
        subst (HasCensus l above (puts l above i (record (w.node i) { settled = v; activation = with_latest l above v (w.node i).phase (w.node i).activation }) w) i) same
        (census_after (record (w.node i) { settled = v; activation = with_latest l above v (w.node i).phase (w.node i).activation }) a (record a { latest = v }) c refl refl (λ x h. h) (λ z aged here was. was)
        (line.transitive a.first a.latest v c.rose (subst (λ x. l.below x v) (sym (c.current t phase).1) below)) is_on stays c.greatest (line.reflexive v) (λ u is_u. ((c.current u is_u).0, refl)))
    noted_census v is_on below stays Younger phase o act b is = noted_same v below b (act ∙ is) (λ u is_u. absurd (phases_differ u (sym phase ∙ is_u)))
      where
        phases_differ : (u : Trial V) → Younger ≡ Active u → ⊥
        phases_differ u is = absurd (cc)
    noted_census v is_on below stays (Asking t) phase o act b is = noted_same v below b (act ∙ is) (λ u is_u. absurd (phases_differ u (sym phase ∙ is_u)))
      where
        phases_differ : (u : Trial V) → Asking t ≡ Active u → ⊥
        phases_differ u is = absurd (cc)
    noted_census v is_on below stays Ended phase o act b is = noted_same v below b (act ∙ is) (λ u is_u. absurd (phases_differ u (sym phase ∙ is_u)))
      where
        phases_differ : (u : Trial V) → Ended ≡ Active u → ⊥
        phases_differ u is = absurd (cc)

    pub note_kept : (v : V) → Allowed l above w (Move.Note i v) → Promised l above (puts l above i (record (w.node i) { settled = v; activation = with_latest l above v (w.node i).phase (w.node i).activation }) w)
    note_kept v (running, is_on, below, stays) = put_kept l line above w p i (record (w.node i) { settled = v; activation = with_latest l above v (w.node i).phase (w.node i).activation }) (record {
      grows = λ b h. h;
      rests = inl (λ is. is);
      finished = λ q h. let f = finished_before (w.node i).runs (λ is. is) q h in (f.0, is_on, line.still_removed (w.node i).settled v q below f.2);
      own = p.own i;
      descends = p.descends i;
      newest = p.newest i;
      known = known_before;
      live = λ c lives. inl (record { is_running = lives.is_running; trial = lives.trial; live = lives.live; is_ballot = lives.is_ballot });
      binds = λ y c other lives h. p.binds y i c lives h;
      granters = granters_before;
      let_go = λ y c other lives last released. p.let_go y i c last released lives;
      activations = λ b is. noted_census v is_on below stays (w.node i).phase refl (w.node i).activation refl b is;
      active = λ t is. let a = p.active i t is in (record a.0 { latest = v }, (λ k. with_latest l above v (is k) (a.1 k)));
      before = λ phase. elim phase [
        | inl is ↦ ap (λ ph. with_latest l above v ph (w.node i).activation) is ∙ p.before i (inl is)
        | inr is ↦ ap (λ ph. with_latest l above v ph (w.node i).activation) is.1 ∙ p.before i (inr is)
      ];
    })

    -- ---- a node that never asked ends
    pub retire_kept : Allowed l above w (Move.Retire i) → Promised l above (puts l above i (record (w.node i) { phase = Ended }) w)
    retire_kept (running, younger) = put_kept l line above w p i (record (w.node i) { phase = Ended }) (record {
      grows = λ b h. h;
      rests = inl (λ is. is);
      finished = finished_before (w.node i).runs (λ is. is);
      own = λ t live. absurd live;
      descends = p.descends i;
      newest = p.newest i;
      known = known_before;
      live = λ c lives. absurd lives.live;
      binds = λ y c other lives h. p.binds y i c lives h;
      granters = λ t z live g. absurd live;
      let_go = λ y c other lives last released. p.let_go y i c last released lives;
      activations = λ a is. absurd (true≢false (sym (ap is_some (sym (p.before i (inl younger)) ∙ is))));
      active = λ t is. absurd (cc);
      before = λ phase. p.before i (inl younger);
    })

    -- ---- a grant comes
    pub one_live : (ph : Phase V) (s t : Trial V) → IsLive l above ph s → IsLive l above ph t → s ≡ t
    one_live Younger s t a b = absurd a
    one_live (Asking x) s t a b = sym a ∙ b
    one_live (Active x) s t a b = sym a ∙ b
    one_live Ended s t a b = absurd a

    pub granted_live : (z : Name) (f : V) (ph : Phase V) (u : Trial V) → IsLive l above (with_grant l above z f ph) u → (s : Trial V) × IsLive l above ph s × (s.ballot ≡ u.ballot) × (z ∷ s.granted ≡ u.granted)
    granted_live z f Younger u live = absurd live
    granted_live z f (Asking x) u live = (x, refl, ap (λ (t : Trial V). t.ballot) live, ap (λ (t : Trial V). t.granted) live)
    granted_live z f (Active x) u live = (x, refl, ap (λ (t : Trial V). t.ballot) live, ap (λ (t : Trial V). t.granted) live)
    granted_live z f Ended u live = absurd live

    abbrev ballot_in : BallotModel → Phase V → BallotModel
    ballot_in d Younger = d
    ballot_in d (Asking t) = t.ballot
    ballot_in d (Active t) = t.ballot
    ballot_in d Ended = d

    pub granted_active : (z : Name) (f : V) (ph : Phase V) (u : Trial V) → with_grant l above z f ph ≡ Active u → (s : Trial V) × (ph ≡ Active s) × (s.ballot ≡ u.ballot)
    granted_active z f Younger u is = absurd (cc)
    granted_active z f (Asking x) u is = absurd (cc)
    granted_active z f (Active x) u is = (x, refl, ap (ballot_in x.ballot) is)
    granted_active z f Ended u is = absurd (cc)

    granted_early : (z : Name) (f : V) (ph : Phase V) → (with_grant l above z f ph ≡ Younger) ⊎ ((u : Trial V) × (with_grant l above z f ph ≡ Asking u)) → (ph ≡ Younger) ⊎ ((s : Trial V) × (ph ≡ Asking s))
    granted_early z f Younger early = inl refl
    granted_early z f (Asking x) early = inr (x, refl)
    granted_early z f (Active x) early = elim early [ inl is ↦ absurd (cc) | inr is ↦ let h = is.1 in absurd (cc) ]
    granted_early z f Ended early = elim early [ inl is ↦ absurd (cc) | inr is ↦ let h = is.1 in absurd (cc) ]

    pub accept_kept : (t : Trial V) (z : Name) (f : V) (m : ℕ → Mark) (e : ℕ → Placement) → Allowed l above w (Move.Accept i t z f m e) → Promised l above (puts l above i (record (w.node i) { phase = with_grant l above z f (w.node i).phase; table = e }) w)
    accept_kept t z f m e (running, live_t, sent, unheard, stays, learns) = put_kept l line above w p i (record (w.node i) { phase = with_grant l above z f (w.node i).phase; table = e }) (record {
      grows = λ b h. h;
      rests = inl (λ is. is);
      finished = finished_before (w.node i).runs (λ is. is);
      own = λ u live.
          let s = granted_live z f (w.node i).phase u live in
          let o = p.own i s.0 s.1 in
          (o.0 ∙ ap Some s.2, o.1, ap (λ (b : BallotModel). b.unique) (sym s.2) ∙ o.2, subst (λ g. Contains g i) s.3 (contains_rest z i s.0.granted o.3));
      descends = p.descends i;
      newest = p.newest i;
      known = known_before;
      live = λ c lives. let s = granted_live z f (w.node i).phase lives.trial lives.live in inl (record { is_running = lives.is_running; trial = s.0; live = s.1; is_ballot = s.2 ∙ lives.is_ballot });
      binds = λ y c other lives h. p.binds y i c lives h;
      granters = λ u x live g.
          let s = granted_live z f (w.node i).phase u live in
          let there : Contains (w.node x).promised u.ballot =
          elim (first_or_rest z x s.0.granted (subst (λ k. Contains k x) (sym s.3) g)) [
            | inl is ↦ subst (λ k. Contains (w.node k).promised u.ballot) (sym is) (subst (Contains (w.node z).promised) (ap (λ (y : Trial V). y.ballot) (one_live (w.node i).phase t s.0 live_t s.1) ∙ s.2) (p.grants z t.ballot f m sent))
            | inr old ↦ subst (Contains (w.node x).promised) s.2 (p.granters i x s.0 s.1 old)
          ] in
          (λ is. subst (λ k. Contains (w.node k).promised u.ballot) is there, λ other. there);
      let_go = λ y c other lives last released. p.let_go y i c last released lives;
      activations = λ a is.
          let c = p.activations i a is in
          census_after (record (w.node i) { phase = with_grant l above z f (w.node i).phase; table = e }) a a c refl refl (λ b h. h) (λ x aged same was. was) c.rose c.latest_on c.stays c.greatest c.within
          (λ u is_u. let s = granted_active z f (w.node i).phase u is_u in let k = c.current s.0 s.1 in (sym s.2 ∙ k.0, k.1));
      active = λ u is. let s = granted_active z f (w.node i).phase u is in p.active i s.0 s.1;
      before = λ early. p.before i (granted_early z f (w.node i).phase early);
    })

    -- ---- an activation
    pub activate_kept : (t : Trial V) → Allowed l above w (Move.Activate i t)
        → Promised l above (puts l above i (record (w.node i) { phase = Active t; activation = Some (record { ballot = t.ballot; first = (w.node i).settled; latest = (w.node i).settled }) }) w)
    activate_kept t (running, asking, candidate, over, needed) =
        let a : Activation V = record { ballot = t.ballot; first = (w.node i).settled; latest = (w.node i).settled } in
        let n : Node V = record (w.node i) { phase = Active t; activation = Some a } in
        let live_t : IsLive l above (w.node i).phase t = subst (λ ph. IsLive l above ph t) (sym asking) refl in
        let o = p.own i t live_t in
        let here : (P : Node V → Type 0) → P n → P (set l above i n w.node i) = λ P h. at_set l line above P i n w.node i (λ is. h) (λ other. absurd (other refl)) in
        put_kept l line above w p i n (record {
          grows = λ b h. h;
          rests = inl (λ is. is);
          finished = finished_before (w.node i).runs (λ is. is);
          own = λ u live. p.own i u (subst (IsLive l above (w.node i).phase) live live_t);
          descends = p.descends i;
          newest = p.newest i;
          known = known_before;
          live = λ c lives. inl (record { is_running = lives.is_running; trial = t; live = live_t; is_ballot = ap (λ (u : Trial V). u.ballot) lives.live ∙ lives.is_ballot });
          binds = λ y c other lives h. p.binds y i c lives h;
          granters = λ u x live g. granters_before u x (subst (IsLive l above (w.node i).phase) live live_t) g;
          let_go = λ y c other lives last released. p.let_go y i c last released lives;
          activations = λ b is. subst (HasCensus l above (puts l above i n w) i) (same_Some a b is) (record {
            promised = here (λ m. Contains m.promised t.ballot) (promised_last i t.ballot o.0);
            own = o.2;
            rose = line.reflexive (w.node i).settled;
            first_on = candidate.0;
            latest_on = candidate.0;
            itself = candidate.1;
            stays = candidate.2;
            census = λ z aged. elim (needed z aged) [
              | inl granted ↦ inl (at_set l line above (λ m. Contains m.promised t.ballot) i n w.node z (λ same. subst (λ k. Contains (w.node k).promised t.ballot) same (p.granters i z t live_t granted)) (λ other. p.granters i z t live_t granted))
              | inr finished ↦ let f = p.finished i z finished in inr (f.2, at_set l line above (λ m. m.runs ≡ false) i n w.node z (λ same. subst (λ k. (w.node k).runs ≡ false) same f.0) (λ other. f.0))
            ];
            greatest = here (λ m. (x : BallotModel) → Contains m.promised x → x.unique ≡ i → (x ≡ t.ballot) ⊎ above t.ballot x) (λ x h node. is_last t.ballot o.0 x h);
            within = here (λ m. l.below (w.node i).settled m.settled) (line.reflexive (w.node i).settled);
            current = here (λ m. (u : Trial V) → m.phase ≡ Active u → (u.ballot ≡ t.ballot) × ((w.node i).settled ≡ m.settled)) (λ u is_u. (sym (ap (ballot_in t.ballot) is_u), refl));
          });
          active = λ u is. (a, refl);
          before = λ early. elim early [ inl is ↦ absurd (cc) | inr is ↦ let h = is.1 in absurd (cc) ];
        })

    -- ---- a release comes
    pub release_kept : (h : BallotModel) (f : V) → Allowed l above w (Move.Release i h f) → Promised l above (puts l above i (record (w.node i) { released = true; floor = l.merged (w.node i).floor f }) w)
    release_kept h f (running, last, from) = put_kept l line above w p i (record (w.node i) { released = true; floor = l.merged (w.node i).floor f }) (record {
      grows = λ b k. k;
      rests = inl (λ is. is);
      finished = finished_before (w.node i).runs (λ is. is);
      own = λ u live. absurd (dead i (record { is_running = running; trial = u; live = live; is_ballot = same_Some u.ballot h (sym (p.own i u live).0 ∙ last) }));
      descends = p.descends i;
      newest = p.newest i;
      known = known_before;
      live = λ c lives. inl (record { is_running = lives.is_running; trial = lives.trial; live = lives.live; is_ballot = lives.is_ballot });
      binds = λ y c other lives k. absurd (dead y (subst (Lives l above w y) (same_Some c h (sym (p.binds y i c lives k).0 ∙ last)) lives));
      granters = granters_before;
      let_go = λ y c other lives is released. dead y (subst (Lives l above w y) (same_Some c h (sym is ∙ last)) lives);
      activations = λ a is. let c = p.activations i a is in census_after (record (w.node i) { released = true; floor = l.merged (w.node i).floor f }) a a c refl refl (λ b k. k) (λ x aged same was. was) c.rose c.latest_on c.stays c.greatest c.within c.current;
      active = p.active i;
      before = p.before i;
    })
      where
        dead : (y : Name) → Lives l above w y h → ⊥
        dead y lives = p.dead y from.0 h f from.1 lives

    -- ---- an asking or an activity ends
    module _ (t : Trial V) (q : Phase V) (running : (w.node i).runs ≡ true) (cases : (((w.node i).phase ≡ Asking t) × ((q ≡ Younger) ⊎ (q ≡ Ended))) ⊎ (((w.node i).phase ≡ Active t) × (q ≡ Ended))) where
      pub closing_live : IsLive l above (w.node i).phase t
      closing_live = elim cases [ inl asking ↦ subst (λ ph. IsLive l above ph t) (sym asking.0) refl | inr active ↦ subst (λ ph. IsLive l above ph t) (sym active.0) refl ]

      over : (q ≡ Younger) ⊎ (q ≡ Ended)
      over = elim cases [ inl asking ↦ asking.1 | inr active ↦ inr active.1 ]

      not_live : (u : Trial V) → IsLive l above q u → ⊥
      not_live u live = elim over [ inl is ↦ subst (λ ph. IsLive l above ph u) is live | inr is ↦ subst (λ ph. IsLive l above ph u) is live ]

      not_active : (u : Trial V) → q ≡ Active u → ⊥
      not_active u is = not_live u (subst (λ ph. IsLive l above ph u) (sym is) refl)

      its_own : (y : Name) (c : BallotModel) → (y ≡ i → ⊥) → Lives l above w y c → (w.node i).last ≡ Some c → ⊥
      its_own y c other lives last =
          let o = p.own i t closing_live in
          let same : c ≡ t.ballot = same_Some c t.ballot (sym last ∙ o.0) in
          other (sym (its_node y c lives) ∙ ap (λ (b : BallotModel). b.unique) same ∙ o.2)

      pub close_put : Promised l above (puts l above i (record (w.node i) { released = true; floor = l.merged (w.node i).floor (w.node i).settled; phase = q }) w)
      close_put = put_kept l line above w p i (record (w.node i) { released = true; floor = l.merged (w.node i).floor (w.node i).settled; phase = q }) (record {
        grows = λ b k. k;
        rests = inl (λ is. is);
        finished = finished_before (w.node i).runs (λ is. is);
        own = λ u live. absurd (not_live u live);
        descends = p.descends i;
        newest = p.newest i;
        known = known_before;
        live = λ c lives. absurd (not_live lives.trial lives.live);
        binds = λ y c other lives k. absurd (its_own y c other lives (p.binds y i c lives k).0);
        granters = λ u z live g. absurd (not_live u live);
        let_go = λ y c other lives last released. its_own y c other lives last;
        activations = λ a is. let c = p.activations i a is in
            census_after (record (w.node i) { released = true; floor = l.merged (w.node i).floor (w.node i).settled; phase = q }) a a c refl refl (λ b k. k) (λ x aged same was. was) c.rose c.latest_on c.stays c.greatest c.within (λ u is_u. absurd (not_active u is_u));
        active = λ u is. absurd (not_active u is);
        before = λ early. elim cases [
          | inl asking ↦ p.before i (inr (t, asking.0))
          | inr active ↦ elim early [ inl is ↦ absurd (ended_younger (sym active.1 ∙ is)) | inr is ↦ absurd (ended_asking is.0 (sym active.1 ∙ is.1)) ]
        ];
      })
        where
          ended_younger : ◌≡◌ {A = Phase V} Ended Younger → ⊥
          ended_younger is = absurd (cc)

          ended_asking : (u : Trial V) → Ended ≡ Asking u → ⊥
          ended_asking u is = absurd (cc)

      close_kept : Promised l above (says l above i (Released t.ballot (w.node i).settled) (puts l above i (record (w.node i) { released = true; floor = l.merged (w.node i).floor (w.node i).settled; phase = q }) w))
      close_kept =
          let o = p.own i t closing_live in
          let n : Node V = record (w.node i) { released = true; floor = l.merged (w.node i).floor (w.node i).settled; phase = q } in
          says_kept (puts l above i n w) close_put i (Released t.ballot (w.node i).settled)
          (at_set l line above (λ m. Contains m.promised t.ballot) i n w.node t.ballot.unique (λ is. promised_last i t.ballot o.0) (λ other. absurd (other o.2)))
          (λ c f m is. absurd (not_granted c f m is))
          (λ y h f is lives. gone y h (elim is [ inl same ↦ sym (ap ballot_of same) | inr same ↦ absurd (not_handed h f same) ]) lives)
        where
          not_granted : (c : BallotModel) (f : V) (m : ℕ → Mark) → Released t.ballot (w.node i).settled ≡ Granted c f m → ⊥
          not_granted c f m is = absurd (cc)

          not_handed : (h : BallotModel) (f : V) → Released t.ballot (w.node i).settled ≡ HandedOver h f → ⊥
          not_handed h f is = absurd (cc)

          gone : (y : Name) (h : BallotModel) → h ≡ t.ballot → LivesIn l above (set l above i (record (w.node i) { released = true; floor = l.merged (w.node i).floor (w.node i).settled; phase = q }) w.node y) h → ⊥
          gone y h is lives = elim (from_set l line above (λ m. LivesIn l above m h) i (record (w.node i) { released = true; floor = l.merged (w.node i).floor (w.node i).settled; phase = q }) w.node y lives) [
            | inl here ↦ not_live here.1.trial here.1.live
            | inr there ↦ there.0 (sym (its_node y h there.1) ∙ ap (λ (b : BallotModel). b.unique) is ∙ (p.own i t closing_live).2)
          ]

    -- ---- a promise to another
    module _ (b : BallotModel) (running : (w.node i).runs ≡ true) (asked : Sent l above w b.unique (Ask b)) (is_new : IsNew l above (w.node i) b) (is_free : IsFree l above (w.node i) b.unique) where
      pub asker_promised : Contains (w.node b.unique).promised b
      asker_promised = p.named (record { from = b.unique; said = Ask b }) asked

      -- a node that lives with the last promise would have promised to itself
      not_bound : (y : Name) (c : BallotModel) → Lives l above w y c → (w.node i).last ≡ Some c → (w.node i).released ≡ false → ⊥
      not_bound y c lives last unreleased = elim (is_free c last) [
        | inl released ↦ true≢false (sym released ∙ unreleased)
        | inr rest ↦ elim rest [
          | inl same ↦
              let node : b.unique ≡ y = sym same ∙ its_node y c lives in
              elim (is_last_of y c (its_last y c lives) b (subst (λ k. Contains (w.node k).promised b) node asker_promised)) [
                | inl is ↦ strict.never_itself b (subst (above b) (sym is) (is_new c last))
                | inr below ↦ strict.never_itself b (strict.transitive b c b (is_new c last) below)
              ]
          | inr finished ↦ true≢false (sym lives.is_running ∙ subst (λ k. (w.node k).runs ≡ false) (its_node y c lives) (p.finished i c.unique finished).0)
        ]
      ]
        where
          is_last_of : (y : Name) (c : BallotModel) → (w.node y).last ≡ Some c → (d : BallotModel) → Contains (w.node y).promised d → (d ≡ c) ⊎ above c d
          is_last_of y c last d h = by_list (w.node y).promised (p.descends y) (sym (p.newest y) ∙ last) h
            where
              by_list : (bs : List BallotModel) → Descends above bs → newest bs ≡ Some c → Contains bs d → (d ≡ c) ⊎ above c d
              by_list [] falls is h = absurd (contains_nothing d h)
              by_list (x ∷ bs) falls is h = elim (first_or_rest x d bs h) [
                | inl same ↦ inl (same ∙ same_Some x c is)
                | inr rest ↦ inr (subst (λ k. above k d) (same_Some x c is) (falls.0 d rest))
              ]

      no_trial : (u : Trial V) → IsLive l above (w.node i).phase u → ⊥
      no_trial u live = let o = p.own i u live in not_bound i u.ballot (record { is_running = running; trial = u; live = live; is_ballot = refl }) o.0 o.1

      pub promise_put : Promised l above (puts l above i (promises l above b (w.node i)) w)
      promise_put = put_kept l line above w p i (promises l above b (w.node i)) (record {
        grows = λ c h. contains_rest b c (w.node i).promised h;
        rests = inl (λ is. is);
        finished = finished_before (w.node i).runs (λ is. is);
        own = λ u live. absurd (no_trial u live);
        descends = (new_above b is_new, p.descends i);
        newest = refl;
        known = λ c h. elim (first_or_rest b c (w.node i).promised h) [
          | inl is ↦ inr (subst (λ x. Contains (w.node x.unique).promised x) (sym is) asker_promised)
          | inr old ↦ inr (p.known i c old)
        ];
        live = λ c lives. absurd (no_trial lives.trial lives.live);
        binds = λ y c other lives h. elim (first_or_rest b c (w.node i).promised h) [
          | inl is ↦ (ap Some (sym is), refl)
          | inr old ↦ let k = p.binds y i c lives old in absurd (not_bound y c lives k.0 k.1)
        ];
        granters = λ u z live g. absurd (no_trial u live);
        let_go = λ y c other lives last released. true≢false (sym released);
        activations = λ a is. let c = p.activations i a is in
            census_after (promises l above b (w.node i)) a a c refl refl (λ x h. contains_rest b x (w.node i).promised h) (λ x aged same was. was) c.rose c.latest_on c.stays
            (λ x h node. elim (first_or_rest b x (w.node i).promised h) [
              | inl same ↦ c.greatest x (subst (λ k. Contains (w.node k).promised x) node (subst (λ d. Contains (w.node d.unique).promised d) (sym same) asker_promised)) node
              | inr old ↦ c.greatest x old node
            ]) c.within c.current;
        active = p.active i;
        before = p.before i;
      })

      promise_kept : (f : V) (m : ℕ → Mark) → Promised l above (says l above i (Granted b f m) (puts l above i (promises l above b (w.node i)) w))
      promise_kept f m =
          let n : Node V = promises l above b (w.node i) in
          says_kept (puts l above i n w) promise_put i (Granted b f m)
          (at_set l line above (λ m. Contains m.promised b) i n w.node b.unique (λ is. contains_first b (w.node i).promised) (λ other. asker_promised))
          (λ c g k is. at_set l line above (λ x. Contains x.promised c) i n w.node i (λ same. subst (λ x. Contains (b ∷ (w.node i).promised) x) (ap ballot_of is) (contains_first b (w.node i).promised)) (λ other. absurd (other refl)))
          (λ y h g is lives. elim is [ inl same ↦ absurd (not_released h g same) | inr same ↦ absurd (not_handed h g same) ])
        where
          not_released : (h : BallotModel) (g : V) → Granted b f m ≡ Released h g → ⊥
          not_released h g is = absurd (cc)

          not_handed : (h : BallotModel) (g : V) → Granted b f m ≡ HandedOver h g → ⊥
          not_handed h g is = absurd (cc)

    -- ---- a new ballot of the node's own
    module _ (c : BallotModel) (t : Trial V) (table : ℕ → Placement) (node : c.unique ≡ i) (is_ballot : t.ballot ≡ c) (itself : t.granted ≡ i ∷ []) (is_new : IsNew l above (w.node i) c) (no_act : (w.node i).activation ≡ None)
        (unbound : (y : Name) (d : BallotModel) → (y ≡ i → ⊥) → Lives l above w y d → (w.node i).last ≡ Some d → (w.node i).released ≡ false → ⊥) where
      pub fresh : (j : Name) → Contains (w.node j).promised c → ⊥
      fresh j h = new_unpromised c is_new (subst (λ k. Contains (w.node k).promised c) node (p.known j c h))

      pub opens_kept : Promised l above (puts l above i (record (promises l above c (w.node i)) { phase = Asking t; table = table }) w)
      opens_kept = put_kept l line above w p i (record (promises l above c (w.node i)) { phase = Asking t; table = table }) (record {
        grows = λ d h. contains_rest c d (w.node i).promised h;
        rests = inl (λ is. is);
        finished = finished_before (w.node i).runs (λ is. is);
        own = λ u live. (ap Some (sym is_ballot ∙ ap (λ (x : Trial V). x.ballot) live), refl, ap (λ (x : Trial V). x.ballot.unique) (sym live) ∙ ap (λ (d : BallotModel). d.unique) is_ballot ∙ node, subst (λ (x : Trial V). Contains x.granted i) live (subst (λ g. Contains g i) (sym itself) (contains_first i [])));
        descends = (new_above c is_new, p.descends i);
        newest = refl;
        known = λ d h. elim (first_or_rest c d (w.node i).promised h) [ inl is ↦ inl (ap (λ (x : BallotModel). x.unique) is ∙ node) | inr old ↦ inr (p.known i d old) ];
        live = λ d lives. let same : c ≡ d = sym is_ballot ∙ ap (λ (x : Trial V). x.ballot) lives.live ∙ lives.is_ballot in inr (subst (λ x. (j : Name) → Contains (w.node j).promised x → ⊥) same fresh);
        binds = λ y d other lives h. elim (first_or_rest c d (w.node i).promised h) [
          | inl is ↦ absurd (fresh y (promised_last y c (its_last y d lives ∙ ap Some is)))
          | inr old ↦ let k = p.binds y i d lives old in absurd (unbound y d other lives k.0 k.1)
        ];
        granters = λ u z live g.
            let is : u.ballot ≡ c = ap (λ (x : Trial V). x.ballot) (sym live) ∙ is_ballot in
            let mine : z ≡ i = only z (subst (λ k. Contains k z) itself (subst (λ (x : Trial V). Contains x.granted z) (sym live) g)) in
            (λ same. subst (Contains (c ∷ (w.node i).promised)) (sym is) (contains_first c (w.node i).promised), λ other. absurd (other mine));
        let_go = λ y d other lives last released. true≢false (sym released);
        activations = λ a is. absurd (true≢false (sym (ap is_some (sym no_act ∙ is))));
        active = λ u is. absurd (cc);
        before = λ early. no_act;
      })
        where
          only : (z : Name) → Contains (i ∷ []) z → z ≡ i
          only z h = elim (first_or_rest i z [] h) [ inl is ↦ is | inr none ↦ absurd (contains_nothing z none) ]

-- ---- each move
module _ {V : Type 0} (l : Line V) (line : IsLine V l) (above : BallotModel → BallotModel → Type 0) (strict : IsStrict above) (w : Cluster V) (p : Promised l above w) where
  -- what only names a known ballot, and grants and releases nothing
  naming_kept : (i : Name) (said : Said V) → ((c : BallotModel) (f : V) (m : ℕ → Mark) → said ≡ Granted c f m → ⊥) → ((c : BallotModel) (f : V) → said ≡ Released c f → ⊥) → ((c : BallotModel) (f : V) → said ≡ HandedOver c f → ⊥)
      → Contains (w.node (ballot_of said).unique).promised (ballot_of said) → Promised l above (says l above i said w)
  naming_kept i said no_grant no_release no_hand known = says_kept l line above strict w p i said known (λ c f m is. absurd (no_grant c f m is)) (λ y h f is lives. elim is [ inl same ↦ no_release h f same | inr same ↦ no_hand h f same ])

  promised_known : (i : Name) (b : BallotModel) → (w.node i).last ≡ Some b → Contains (w.node b.unique).promised b
  promised_known i b last = p.known i b (promised_last l line above strict w p i i b last)

  named_known : (b : BallotModel) → IsNamed l above w b → Contains (w.node b.unique).promised b
  named_known b (q, there, is) = subst (λ x. Contains (w.node x.unique).promised x) is (p.named q there)

  active_known : (i : Name) (t : Trial V) → (w.node i).phase ≡ Active t → Contains (w.node t.ballot.unique).promised t.ballot
  active_known i t active = promised_known i t.ballot (p.own i t (subst (λ ph. IsLive l above ph t) (sym active) refl)).0

  pub kept : (m : Move V) → Allowed l above w m → Promised l above (after l above w m)
  kept (Move.Start i) h = start_kept l line above strict w p i h
  kept (Move.Stop i) h = stop_kept l line above strict w p i
  kept (Move.Note i v) h = note_kept l line above strict w p i v h
  kept (Move.Find i q) h = find_kept l line above strict w p i q h
  kept (Move.Promise i b) (running, asked, is_new, is_free) = promise_kept l line above strict w p i b running asked is_new is_free (l.merged (w.node i).floor (w.node i).settled) (w.node i).marks
  kept (Move.Repeat i b) (running, last, unreleased) = says_kept l line above strict w p i (Granted b (l.merged (w.node i).floor (w.node i).settled) (w.node i).marks) (promised_known i b last)
      (λ c f m is. subst (Contains (w.node i).promised) (ap ballot_of is) (promised_last l line above strict w p i i b last)) (λ y h f is lives. elim is [ inl same ↦ absurd (not_released h f same) | inr same ↦ absurd (not_handed h f same) ])
    where
      not_released : (h : BallotModel) (f : V) → Granted b (l.merged (w.node i).floor (w.node i).settled) (w.node i).marks ≡ Released h f → ⊥
      not_released h f is = absurd (cc)

      not_handed : (h : BallotModel) (f : V) → Granted b (l.merged (w.node i).floor (w.node i).settled) (w.node i).marks ≡ HandedOver h f → ⊥
      not_handed h f is = absurd (cc)
  kept (Move.Open i c) (running, younger, candidate, node, is_new, is_free) =
      opens_kept l line above strict w p i c (record { ballot = c; granted = i ∷ []; floor = l.merged (w.node i).floor (w.node i).settled; opened = (w.node i).settled }) (λ s. own_placement i ((w.node i).marks s)) node refl refl is_new (p.before i (inl younger))
      (λ y d other lives last unreleased. elim (is_free d last) [
        | inl released ↦ true≢false (sym released ∙ unreleased)
        | inr rest ↦ elim rest [
          | inl same ↦ other (sym (its_node l line above strict w p i y d lives) ∙ same)
          | inr finished ↦ true≢false (sym lives.is_running ∙ subst (λ k. (w.node k).runs ≡ false) (its_node l line above strict w p i y d lives) (p.finished i d.unique finished).0)
        ]
      ])
  kept (Move.Reopen i t c) (running, asking, node, higher) =
      let o = p.own i t (subst (λ ph. IsLive l above ph t) (sym asking) refl) in
      opens_kept l line above strict w p i c (record t { ballot = c; granted = i ∷ [] }) (λ s. own_placement i ((w.node i).marks s)) node refl refl (λ d last. subst (above c) (same_Some t.ballot d (sym o.0 ∙ last)) higher) (p.before i (inr (t, asking)))
      (λ y d other lives last unreleased. other (sym (its_node l line above strict w p i y d lives) ∙ ap (λ (b : BallotModel). b.unique) (same_Some d t.ballot (sym last ∙ o.0)) ∙ o.2))
  kept (Move.Close i t q) (running, cases) = close_kept l line above strict w p i t q running cases
  kept (Move.Retire i) h = retire_kept l line above strict w p i h
  kept (Move.Accept i t z f m e) h = accept_kept l line above strict w p i t z f m e h
  kept (Move.Activate i t) h = latest_kept l line above strict _ (activate_kept l line above strict w p i t h) (Some i)
  kept (Move.Solicit i t) (running, live) = naming_kept i (Ask t.ballot) (λ c f m is. absurd (cc)) (λ c f is. absurd (cc)) (λ c f is. absurd (cc)) (promised_known i t.ballot (p.own i t live).0)
  kept (Move.HandOver i h) (running, node, named, other) = says_kept l line above strict w p i (HandedOver h (w.node i).settled) (named_known h named) (λ c f m is. absurd (cc)) (λ y b f is lives. elim is [
    | inl same ↦ absurd (cc)
    | inr same ↦
        let mine : h ≡ b = ap ballot_of same in
        let at : y ≡ i = sym (its_node l line above strict w p i y b lives) ∙ ap (λ (x : BallotModel). x.unique) (sym mine) ∙ node in
        other lives.trial (subst (λ k. IsLive l above (w.node k).phase lives.trial) at lives.live) (lives.is_ballot ∙ sym mine)
  ])
  kept (Move.Pass i h f) (running, z, sent) = says_kept l line above strict w p i (Released h f) (p.named (record { from = z; said = HandedOver h f }) sent) (λ c g m is. absurd (cc)) (λ y b g is lives. elim is [
    | inl same ↦ p.dead y z h f (inr sent) (subst (Lives l above w y) (sym (ap ballot_of same)) lives)
    | inr same ↦ absurd (cc)
  ])
  kept (Move.Release i h f) k = release_kept l line above strict w p i h f k
  kept (Move.Say i b) (running, known) = naming_kept i (Names b) (λ c f m is. absurd (cc)) (λ c f is. absurd (cc)) (λ c f is. absurd (cc)) (elim known [ inl last ↦ promised_known i b last | inr named ↦ named_known b named ])
  kept (Move.Assign i t s r) h = shards_kept l line above strict w p i (w.node i).marks (put_at s (assigned r ((w.node i).table s)) (w.node i).table)
  kept (Move.Free i t s h) k = shards_kept l line above strict w p i (w.node i).marks (put_at s (freed ((w.node i).table s)) (w.node i).table)
  kept (Move.Order i t s h) (running, active, home) = naming_kept i (HostShard t.ballot h.node s h.number) (λ c f m is. absurd (cc)) (λ c f is. absurd (cc)) (λ c f is. absurd (cc)) (active_known i t active)
  kept (Move.Recall i t s h) (running, active, home) = naming_kept i (HandOff t.ballot h.node s h.number) (λ c f m is. absurd (cc)) (λ c f is. absurd (cc)) (λ c f is. absurd (cc)) (active_known i t active)
  kept (Move.Host i b s n) h = shards_kept l line above strict w p i (put_at s (record { number = n; hosts = true }) (w.node i).marks) (w.node i).table
  kept (Move.Yield i b s n) h = shards_kept l line above strict w p i (put_at s (yielded n ((w.node i).marks s)) (w.node i).marks) (w.node i).table
  kept (Move.Confirm i b s n) (running, last, over, stays) = naming_kept i (ShardStopped b s n) (λ c f m is. absurd (cc)) (λ c f is. absurd (cc)) (λ c f is. absurd (cc)) (promised_known i b last)
