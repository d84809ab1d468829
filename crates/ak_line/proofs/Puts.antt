-- What is true of promises stays true where one node is changed so that it has its part of it, and where one packet more is sent.
use Rattle.std.proofs.Common.{◌≡◌, true, false, if◌then◌else◌, ◌⊎◌, inl, inr, List, [], ◌∷◌, Some, None, Contains, refl, sym, ap, ◌∙◌, subst, true≢false}
use Rattle.std.proofs.lemmas.Option.{same_Some}
use Rattle.ak_address.proofs.Elements.{contains_first}
use Rattle.ak_line.specs.Name.{Name}
use Rattle.ak_line.proofs.Names.{name_tells}
use Rattle.ak_promise.specs.Ballot.{BallotModel}
use Rattle.ak_line.specs.Line.{Line, IsLine}
use Rattle.ak_line.specs.Moves.{Trial, Younger, Asking, Active, Activation, Node, Released, HandedOver, Packet, Cluster, ballot_of, set, puts, Sent, IsLive, IsUnheard}
use Rattle.ak_line.specs.Promised.{Descends, newest, LivesIn, Lives, HasCensus, Promised}

module _ {V : Type 0} (l : Line V) (line : IsLine V l) (above : BallotModel → BallotModel → Type 0) where
  pub at_set : (P : Node V → Type 0) (i : Name) (n : Node V) (nodes : Name → Node V) (j : Name) → (j ≡ i → P n) → ((j ≡ i → ⊥) → P (nodes j)) → P (set l above i n nodes j)
  at_set P i n nodes j here there = elim (name_tells j i) [
    | inl is ↦ subst (λ b. P (if b then n else nodes j)) (sym is.0) (here is.1)
    | inr other ↦ subst (λ b. P (if b then n else nodes j)) (sym other.0) (there other.1)
  ]

  pub from_set : (P : Node V → Type 0) (i : Name) (n : Node V) (nodes : Name → Node V) (j : Name) → P (set l above i n nodes j) → ((j ≡ i) × P n) ⊎ ((j ≡ i → ⊥) × P (nodes j))
  from_set P i n nodes j h = elim (name_tells j i) [
    | inl is ↦ inl (is.1, subst (λ b. P (if b then n else nodes j)) is.0 h)
    | inr other ↦ inr (other.1, subst (λ b. P (if b then n else nodes j)) other.0 h)
  ]

  -- one part for the changed node
  pub record Put (w : Cluster V) (i : Name) (n : Node V) : Type 0 where
    pub grows : (b : BallotModel) → Contains (w.node i).promised b → Contains n.promised b
    pub rests : ((w.node i).runs ≡ false → n.runs ≡ false) ⊎ IsUnheard l above w i
    pub finished : (q : Name) → Contains n.finished q → ((q ≡ i → n.runs ≡ false) × ((q ≡ i → ⊥) → (w.node q).runs ≡ false)) × l.on n.settled × l.removed n.settled q
    pub own : (t : Trial V) → IsLive l above n.phase t → (n.last ≡ Some t.ballot) × (n.released ≡ false) × (t.ballot.unique ≡ i) × Contains t.granted i
    pub descends : Descends above n.promised
    pub newest : n.last ≡ newest n.promised
    pub known : (b : BallotModel) → Contains n.promised b → (b.unique ≡ i) ⊎ Contains (w.node b.unique).promised b
    pub live : (c : BallotModel) → LivesIn l above n c → LivesIn l above (w.node i) c ⊎ ((j : Name) → Contains (w.node j).promised c → ⊥)
    pub binds : (y : Name) (c : BallotModel) → (y ≡ i → ⊥) → Lives l above w y c → Contains n.promised c → (n.last ≡ Some c) × (n.released ≡ false)
    pub granters : (t : Trial V) (z : Name) → IsLive l above n.phase t → Contains t.granted z → (z ≡ i → Contains n.promised t.ballot) × ((z ≡ i → ⊥) → Contains (w.node z).promised t.ballot)
    pub let_go : (y : Name) (c : BallotModel) → (y ≡ i → ⊥) → Lives l above w y c → n.last ≡ Some c → n.released ≡ true → ⊥
    pub activations : (a : Activation V) → n.activation ≡ Some a → HasCensus l above (puts l above i n w) i a
    pub active : (t : Trial V) → n.phase ≡ Active t → (a : Activation V) × (n.activation ≡ Some a)
    pub before : (n.phase ≡ Younger) ⊎ ((t : Trial V) × (n.phase ≡ Asking t)) → n.activation ≡ None

  module _ (w : Cluster V) (p : Promised l above w) (i : Name) (n : Node V) (o : Put w i n) where
    v : Cluster V
    v = puts l above i n w

    promised_grows : (j : Name) (b : BallotModel) → Contains (w.node j).promised b → Contains (set l above i n w.node j).promised b
    promised_grows j b h = at_set (λ m. Contains m.promised b) i n w.node j (λ is. o.grows b (subst (λ k. Contains (w.node k).promised b) is h)) (λ other. h)

    still_rests : (j q : Name) → (q ≡ i → n.runs ≡ false) → ((q ≡ i → ⊥) → (w.node q).runs ≡ false) → (set l above i n w.node q).runs ≡ false
    still_rests j q here there = at_set (λ m. m.runs ≡ false) i n w.node q here there

    -- a stopped node that others found finished, or that is in a census, stays stopped
    rests_still : (z : Name) → (IsUnheard l above w i → z ≡ i → ⊥) → (w.node z).runs ≡ false → (set l above i n w.node z).runs ≡ false
    rests_still z heard stopped = at_set (λ m. m.runs ≡ false) i n w.node z (λ is. elim o.rests [ inl kept ↦ kept (subst (λ k. (w.node k).runs ≡ false) is stopped) | inr unheard ↦ absurd (heard unheard is) ]) (λ other. stopped)

    put_finished : (j q : Name) → Contains (set l above i n w.node j).finished q → ((set l above i n w.node q).runs ≡ false) × l.on (set l above i n w.node j).settled × l.removed (set l above i n w.node j).settled q
    put_finished j q h = elim (from_set (λ m. Contains m.finished q) i n w.node j h) [
      | inl here ↦
          let f = o.finished q here.1 in
          at_set (λ m. ((set l above i n w.node q).runs ≡ false) × l.on m.settled × l.removed m.settled q) i n w.node j (λ is. (still_rests j q f.0.0 f.0.1, f.1, f.2)) (λ other. absurd (other here.0))
      | inr there ↦
          let f = p.finished j q there.1 in
          at_set (λ m. ((set l above i n w.node q).runs ≡ false) × l.on m.settled × l.removed m.settled q) i n w.node j (λ is. absurd (there.0 is)) (λ other. (
            rests_still q (λ unheard is. (unheard j).0 (subst (l.aged (w.node j).settled) is (line.removed_aged (w.node j).settled q f.2))) f.0,
            f.1,
            f.2,
          ))
    ]

    put_own : (j : Name) (t : Trial V) → IsLive l above (set l above i n w.node j).phase t → ((set l above i n w.node j).last ≡ Some t.ballot) × ((set l above i n w.node j).released ≡ false) × (t.ballot.unique ≡ j) × Contains t.granted j
    put_own j t = at_set (λ m. IsLive l above m.phase t → (m.last ≡ Some t.ballot) × (m.released ≡ false) × (t.ballot.unique ≡ j) × Contains t.granted j) i n w.node j
        (λ is live. subst (λ k. (n.last ≡ Some t.ballot) × (n.released ≡ false) × (t.ballot.unique ≡ k) × Contains t.granted k) (sym is) (o.own t live)) (λ other. p.own j t)

    put_known : (j : Name) (b : BallotModel) → Contains (set l above i n w.node j).promised b → Contains (set l above i n w.node b.unique).promised b
    put_known j b h = elim (from_set (λ m. Contains m.promised b) i n w.node j h) [
      | inl here ↦ elim (o.known b here.1) [
        | inl is ↦ at_set (λ m. Contains m.promised b) i n w.node b.unique (λ same. here.1) (λ other. absurd (other is))
        | inr there ↦ promised_grows b.unique b there
      ]
      | inr there ↦ promised_grows b.unique b (p.known j b there.1)
    ]

    put_binds : (y x : Name) (c : BallotModel) → LivesIn l above (set l above i n w.node y) c → Contains (set l above i n w.node x).promised c → ((set l above i n w.node x).last ≡ Some c) × ((set l above i n w.node x).released ≡ false)
    put_binds y x c lives h = elim (from_set (λ m. LivesIn l above m c) i n w.node y lives) [
      | inl new ↦ elim (from_set (λ m. Contains m.promised c) i n w.node x h) [
        | inl here ↦
            let own = o.own new.1.trial new.1.live in
            at_set (λ m. (m.last ≡ Some c) × (m.released ≡ false)) i n w.node x (λ is. (own.0 ∙ ap Some new.1.is_ballot, own.1)) (λ other. absurd (other here.0))
        | inr there ↦ elim (o.live c new.1) [
          | inl old ↦ at_set (λ m. (m.last ≡ Some c) × (m.released ≡ false)) i n w.node x (λ is. absurd (there.0 is)) (λ other. p.binds i x c old there.1)
          | inr fresh ↦ absurd (fresh x there.1)
        ]
      ]
      | inr old ↦ elim (from_set (λ m. Contains m.promised c) i n w.node x h) [
        | inl here ↦ at_set (λ m. (m.last ≡ Some c) × (m.released ≡ false)) i n w.node x (λ is. o.binds y c old.0 old.1 here.1) (λ other. absurd (other here.0))
        | inr there ↦ at_set (λ m. (m.last ≡ Some c) × (m.released ≡ false)) i n w.node x (λ is. absurd (there.0 is)) (λ other. p.binds y x c old.1 there.1)
      ]
    ]

    put_granters : (y z : Name) (t : Trial V) → IsLive l above (set l above i n w.node y).phase t → Contains t.granted z → Contains (set l above i n w.node z).promised t.ballot
    put_granters y z t live granted = elim (from_set (λ m. IsLive l above m.phase t) i n w.node y live) [
      | inl new ↦ let g = o.granters t z new.1 granted in at_set (λ m. Contains m.promised t.ballot) i n w.node z g.0 g.1
      | inr old ↦ promised_grows z t.ballot (p.granters y z t old.1 granted)
    ]

    -- no packet names a ballot that is new
    named_old : (q : Packet V) (h : BallotModel) → Contains w.packets q → ballot_of q.said ≡ h → ((j : Name) → Contains (w.node j).promised h → ⊥) → ⊥
    named_old q h there is fresh = fresh h.unique (subst (λ b. Contains (w.node b.unique).promised b) is (p.named q there))

    put_dead : (y z : Name) (h : BallotModel) (f : V) → Sent l above w z (Released h f) ⊎ Sent l above w z (HandedOver h f) → LivesIn l above (set l above i n w.node y) h → ⊥
    put_dead y z h f said lives = elim (from_set (λ m. LivesIn l above m h) i n w.node y lives) [
      | inl new ↦ elim (o.live h new.1) [
        | inl old ↦ p.dead i z h f said old
        | inr fresh ↦ elim said [ inl one ↦ named_old _ h one refl fresh | inr other ↦ named_old _ h other refl fresh ]
      ]
      | inr old ↦ p.dead y z h f said old.1
    ]

    pub last_promised : (x : Name) (c : BallotModel) → (w.node x).last ≡ Some c → Contains (w.node x).promised c
    last_promised x c is = by_list (w.node x).promised (sym (p.newest x) ∙ is)
      where
        by_list : (bs : List BallotModel) → newest bs ≡ Some c → Contains bs c
        by_list [] none = absurd (cc)
        by_list (b ∷ bs) first = subst (Contains (b ∷ bs)) (same_Some b c first) (contains_first b bs)

    put_let_go : (y x : Name) (h : BallotModel) → (set l above i n w.node x).last ≡ Some h → (set l above i n w.node x).released ≡ true → LivesIn l above (set l above i n w.node y) h → ⊥
    put_let_go y x h last released lives = elim (from_set (λ m. (m.last ≡ Some h) × (m.released ≡ true)) i n w.node x (last, released)) [
      | inl here ↦ elim (from_set (λ m. LivesIn l above m h) i n w.node y lives) [
        | inl new ↦ true≢false (sym here.1.1 ∙ (o.own new.1.trial new.1.live).1)
        | inr old ↦ o.let_go y h old.0 old.1 here.1.0 here.1.1
      ]
      | inr there ↦ elim (from_set (λ m. LivesIn l above m h) i n w.node y lives) [
        | inl new ↦ elim (o.live h new.1) [ inl old ↦ p.let_go i x h there.1.0 there.1.1 old | inr fresh ↦ fresh x (last_promised x h there.1.0) ]
        | inr old ↦ p.let_go y x h there.1.0 there.1.1 old.1
      ]
    ]

    put_activations : (x : Name) (a : Activation V) → (set l above i n w.node x).activation ≡ Some a → HasCensus l above (puts l above i n w) x a
    put_activations x a is = elim (from_set (λ m. m.activation ≡ Some a) i n w.node x is) [
      | inl here ↦ subst (λ k. HasCensus l above (puts l above i n w) k a) (sym here.0) (o.activations a here.1)
      | inr there ↦
          let c = p.activations x a there.1 in
          let same : (P : Node V → Type 0) → P (w.node x) → P (set l above i n w.node x) = λ P h. at_set P i n w.node x (λ here. absurd (there.0 here)) (λ other. h) in
          record {
            promised = same (λ m. Contains m.promised a.ballot) c.promised;
            own = c.own;
            rose = c.rose;
            first_on = c.first_on;
            latest_on = c.latest_on;
            itself = c.itself;
            stays = c.stays;
            census = λ z aged. elim (c.census z aged) [
              | inl promised ↦ inl (promised_grows z a.ballot promised)
              | inr gone ↦ inr (gone.0, rests_still z (λ unheard same_z. (unheard x).1 a there.1 (subst (l.aged a.first) same_z aged)) gone.1)
            ];
            greatest = same (λ m. (b : BallotModel) → Contains m.promised b → b.unique ≡ x → (b ≡ a.ballot) ⊎ above a.ballot b) c.greatest;
            within = same (λ m. l.below a.latest m.settled) c.within;
            current = same (λ m. (t : Trial V) → m.phase ≡ Active t → (t.ballot ≡ a.ballot) × (a.latest ≡ m.settled)) c.current;
          }
    ]

    pub put_kept : Promised l above (puts l above i n w)
    put_kept = record {
      finished = put_finished;
      own = put_own;
      descends = λ j. at_set (λ m. Descends above m.promised) i n w.node j (λ is. o.descends) (λ other. p.descends j);
      newest = λ j. at_set (λ m. m.last ≡ newest m.promised) i n w.node j (λ is. o.newest) (λ other. p.newest j);
      known = put_known;
      named = λ q there. promised_grows (ballot_of q.said).unique (ballot_of q.said) (p.named q there);
      binds = put_binds;
      granters = put_granters;
      grants = λ z c f m said. promised_grows z c (p.grants z c f m said);
      dead = put_dead;
      let_go = put_let_go;
      activations = put_activations;
      active = λ x t. at_set (λ m. m.phase ≡ Active t → (a : Activation V) × (m.activation ≡ Some a)) i n w.node x (λ is. o.active t) (λ other. p.active x t);
      before = λ x. at_set (λ m. (m.phase ≡ Younger) ⊎ ((t : Trial V) × (m.phase ≡ Asking t)) → m.activation ≡ None) i n w.node x (λ is. o.before) (λ other. p.before x);
    }
