-- Each allowed move keeps what is true of floors.
use Rattle.std.proofs.Common.{◌≡◌, ℕ, Bool, true, false, ◌⊎◌, inl, inr, List, [], ◌∷◌, Option, Some, None, is_some, Contains, refl, sym, ap, ◌∙◌, subst, true≢false}
use Rattle.std.proofs.lemmas.Option.{same_Some}
use Rattle.ak_line.specs.Name.{Name}
use Rattle.ak_promise.specs.Ballot.{BallotModel}
use Rattle.ak_line.specs.Line.{Line, IsLine, IsStrict}
use Rattle.ak_line.specs.Shards.{Mark, Placement, put_at, own_placement, assigned, freed, yielded}
use Rattle.ak_line.specs.Moves.{Node, Trial, Phase, Younger, Asking, Active, Ended, Activation, Ask, Granted, Released, HandedOver, Names, HostShard, HandOff, ShardStopped, Cluster, Move, ballot_of, set, puts, promises, with_grant, with_latest, Sent, IsLive, IsNew, IsFree, Allowed, after}
use Rattle.ak_line.specs.Promised.{LivesIn, Promised}
use Rattle.ak_line.specs.Floors.{Follows, Floors}
use Rattle.ak_address.proofs.Elements.{first_or_rest, contains_nothing}
use Rattle.ak_line.proofs.Puts.{at_set}
use Rattle.ak_line.proofs.Kept.{new_above, is_last, close_put, promise_put, asker_promised, closing_live, one_live, granted_live, kept}
use Rattle.ak_line.proofs.FloorPuts.{heard_before, floors_put, floors_said, floors_plain}

module _ {V : Type 0} (l : Line V) (line : IsLine V l) (above : BallotModel → BallotModel → Type 0) (strict : IsStrict above) (w : Cluster V) (p : Promised l above w) (f : Floors l above w) (i : Name) where
  -- an activation is of the node of its ballot
  pub act_node : (x : Name) (a : Activation V) → (w.node x).activation ≡ Some a → a.ballot.unique ≡ x
  act_node x a act = (p.activations x a act).own

  -- a node that asks or never asked has not been active
  pub not_acted : (x : Name) (a : Activation V) → (w.node x).activation ≡ Some a → (w.node x).activation ≡ None → ⊥
  not_acted x a act none = true≢false (sym (ap is_some (sym none ∙ act)))

  -- no change of the ballots, the floor, the settled version, the phase and the activation
  quiet_put : (r : Bool) (g : List Name) (m : ℕ → Mark) (e : ℕ → Placement) (o : Option Name) → Promised l above (record (puts l above i (record (w.node i) { runs = r; finished = g; marks = m; table = e }) w) { latest = o })
      → Floors l above (record (puts l above i (record (w.node i) { runs = r; finished = g; marks = m; table = e }) w) { latest = o })
  quiet_put r g m e o q = floors_put l line above strict w p f i (record (w.node i) { runs = r; finished = g; marks = m; table = e }) o q (record {
    acts = λ a act. inl act;
    follows = λ x a act has. f.follows x i a act has;
    fresh = λ b has. inl has;
    heard = λ x z a t act live granted higher has. heard_before l line above strict w p f i (record (w.node i) { runs = r; finished = g; marks = m; table = e }) (λ b h. inl h) x i z a t act live granted higher has;
  })

  -- a version that has removed the coordinator covers its last one
  pub over_finished : (x : Name) (a : Activation V) → (w.node x).activation ≡ Some a → Contains (w.node i).finished x → l.below a.latest (w.node i).settled
  over_finished x a act finished =
      let g = p.finished i x finished in
      let c = p.activations x a act in
      elim (line.total a.latest (w.node i).settled c.latest_on g.1) [
        | inl below ↦ below
        | inr under ↦ absurd (c.stays (line.still_removed (w.node i).settled a.latest x under g.2))
      ]

  -- a node that may promise another ballot knows of a covering version
  free_follows : (x k : Name) (a : Activation V) → (w.node x).activation ≡ Some a → IsFree l above (w.node i) k → ((w.node i).last ≡ Some a.ballot → a.ballot.unique ≡ k → ⊥) → Follows l above (w.node i) a → l.below a.latest (l.merged (w.node i).floor (w.node i).settled)
  free_follows x k a act is_free other (inr over) = over
  free_follows x k a act is_free other (inl bound) = elim (is_free a.ballot bound.0) [
    | inl released ↦ absurd (true≢false (sym released ∙ bound.1))
    | inr rest ↦ elim rest [
      | inl same ↦ absurd (other bound.0 same)
      | inr finished ↦ line.transitive a.latest (w.node i).settled (l.merged (w.node i).floor (w.node i).settled) (over_finished x a act (subst (Contains (w.node i).finished) (act_node x a act) finished)) (line.second (w.node i).floor (w.node i).settled)
    ]
  ]

  -- ---- a node notes a settled version
  merged_over : (b c d e : V) → l.below b d → l.below c e → l.below (l.merged b c) (l.merged d e)
  merged_over b c d e one two = line.covers (l.merged d e) b c (line.transitive b d (l.merged d e) one (line.first d e)) (line.transitive c e (l.merged d e) two (line.second d e))

  follows_over : (n : Node V) (a : Activation V) → ((w.node i).last ≡ n.last) → ((w.node i).released ≡ n.released) → l.below (l.merged (w.node i).floor (w.node i).settled) (l.merged n.floor n.settled) → Follows l above (w.node i) a → Follows l above n a
  follows_over n a last released over (inl bound) = inl (sym last ∙ bound.0, sym released ∙ bound.1)
  follows_over n a last released over (inr below) = inr (line.transitive a.latest (l.merged (w.node i).floor (w.node i).settled) (l.merged n.floor n.settled) below over)

  -- the activation of a node that is active now is that of its ballot
  noted_acts : (v : V) → (w.node i).runs ≡ true → (ph : Phase V) → (w.node i).phase ≡ ph → (o : Option (Activation V)) → (w.node i).activation ≡ o → (a : Activation V) → with_latest l above v ph o ≡ Some a
      → ((w.node i).activation ≡ Some a) ⊎ LivesIn l above (record (w.node i) { settled = v; activation = with_latest l above v (w.node i).phase (w.node i).activation }) a.ballot
  noted_acts v running (Active t) phase None act a is = absurd (cc)
  noted_acts v running (Active t) phase (Some b) act a is = inr (record {
    is_running = running;
    trial = t;
    live = subst (λ ph. IsLive l above ph t) (sym phase) refl;
    is_ballot = ((p.activations i b act).current t phase).0 ∙ ap (λ (x : Activation V). x.ballot) (same_Some (record b { latest = v }) a is);
  })
  noted_acts v running Younger phase o act a is = inl (act ∙ is)
  noted_acts v running (Asking t) phase o act a is = inl (act ∙ is)
  noted_acts v running Ended phase o act a is = inl (act ∙ is)

  note_floors : (v : V) → Allowed l above w (Move.Note i v) → Floors l above (after l above w (Move.Note i v))
  note_floors v h =
      let n : Node V = record (w.node i) { settled = v; activation = with_latest l above v (w.node i).phase (w.node i).activation } in
      floors_put l line above strict w p f i n w.latest (kept l line above strict w p (Move.Note i v) h) (record {
        acts = λ a act. noted_acts v h.0 (w.node i).phase refl (w.node i).activation refl a act;
        follows = λ x a act has. follows_over n a refl refl (merged_over (w.node i).floor (w.node i).settled (w.node i).floor v (line.reflexive (w.node i).floor) h.2) (f.follows x i a act has);
        fresh = λ b has. inl has;
        heard = λ x z a t act live granted higher has. heard_before l line above strict w p f i n (λ b k. inl k) x i z a t act live granted higher has;
      })

  -- ---- a promise to another
  promise_floors : (b : BallotModel) → Allowed l above w (Move.Promise i b) → Floors l above (after l above w (Move.Promise i b))
  promise_floors b (running, asked, is_new, is_free) =
      let n : Node V = promises l above b (w.node i) in
      let q = promise_put l line above strict w p i b running asked is_new is_free in
      let here : (P : Node V → Type 0) → P (set l above i n w.node i) → P n = λ P h. at_set l line above (λ m. P m → P n) i n w.node i (λ is k. k) (λ other k. absurd (other refl)) h in
      let put = floors_put l line above strict w p f i n w.latest q (record {
        acts = λ a act. inl act;
        follows = λ x a act has. promised_follows x a act has;
        fresh = λ c has. fresh_promise c has;
        heard = λ x z a t act live granted higher has. heard_before l line above strict w p f i n fresh_promise x i z a t act live granted higher has;
      }) in
      floors_said l line above strict (puts l above i n w) put i (Granted b (l.merged (w.node i).floor (w.node i).settled) (w.node i).marks)
      (λ x a g act is. elim is [ inl one ↦ absurd (cc) | inr two ↦ absurd (cc) ])
      (λ x a c g m act is higher has. elim (here (λ k. Follows l above k a) (put.follows x i a act has)) [
        | inl bound ↦ absurd (strict.never_itself b (subst (above b) (same_Some a.ballot b (sym bound.0)) (subst (λ d. above d a.ballot) (sym (ap ballot_of is)) higher)))
        | inr over ↦ subst (l.below a.latest) (floor_of c g m is) over
      ])
    where
      fresh_promise : (c : BallotModel) → Contains (b ∷ (w.node i).promised) c → Contains (w.node i).promised c ⊎ ((d : BallotModel) → Contains (w.node i).promised d → above c d)
      fresh_promise c has = elim (first_or_rest b c (w.node i).promised has) [
        | inl is ↦ inr (subst (λ e. (d : BallotModel) → Contains (w.node i).promised d → above e d) (sym is) (new_above l line above strict w p i b is_new))
        | inr old ↦ inl old
      ]

      -- the holder of the last promise does not ask with another ballot
      not_holder : (x : Name) (a : Activation V) → (w.node x).activation ≡ Some a → (w.node i).last ≡ Some a.ballot → a.ballot.unique ≡ b.unique → ⊥
      not_holder x a act last same = elim ((p.activations x a act).greatest b (subst (λ k. Contains (w.node k).promised b) (sym same ∙ act_node x a act) (asker_promised l line above strict w p i b running asked is_new is_free)) (sym same ∙ act_node x a act)) [
        | inl is ↦ strict.never_itself b (subst (above b) (sym is) (is_new a.ballot last))
        | inr lower ↦ strict.never_itself b (strict.transitive b a.ballot b (is_new a.ballot last) lower)
      ]

      promised_follows : (x : Name) (a : Activation V) → (w.node x).activation ≡ Some a → Contains (b ∷ (w.node i).promised) a.ballot → Follows l above (promises l above b (w.node i)) a
      promised_follows x a act has = elim (first_or_rest b a.ballot (w.node i).promised has) [
        | inl is ↦ inl (ap Some (sym is), refl)
        | inr old ↦ inr (free_follows x b.unique a act is_free (not_holder x a act) (f.follows x i a act old))
      ]

      floor_of : (c : BallotModel) (g : V) (m : ℕ → Mark) → Granted b (l.merged (w.node i).floor (w.node i).settled) (w.node i).marks ≡ Granted c g m → l.merged (w.node i).floor (w.node i).settled ≡ g
      floor_of c g m is = cc

  repeat_floors : (b : BallotModel) → Allowed l above w (Move.Repeat i b) → Floors l above (after l above w (Move.Repeat i b))
  repeat_floors b (running, last, unreleased) =
      floors_said l line above strict w f i (Granted b (l.merged (w.node i).floor (w.node i).settled) (w.node i).marks)
      (λ x a g act is. elim is [ inl one ↦ absurd (cc) | inr two ↦ absurd (cc) ])
      (λ x a c g m act is higher has. elim (f.follows x i a act has) [
        | inl bound ↦ absurd (strict.never_itself b (subst (above b) (same_Some a.ballot b (sym bound.0 ∙ last)) (subst (λ d. above d a.ballot) (sym (ap ballot_of is)) higher)))
        | inr over ↦ subst (l.below a.latest) (floor_of c g m is) over
      ])
    where
      floor_of : (c : BallotModel) (g : V) (m : ℕ → Mark) → Granted b (l.merged (w.node i).floor (w.node i).settled) (w.node i).marks ≡ Granted c g m → l.merged (w.node i).floor (w.node i).settled ≡ g
      floor_of c g m is = cc

  -- ---- a new ballot of the node's own
  module _ (c : BallotModel) (t : Trial V) (table : ℕ → Placement) (is_ballot : t.ballot ≡ c) (itself : t.granted ≡ i ∷ []) (is_new : IsNew l above (w.node i) c) (none : (w.node i).activation ≡ None)
      (follows : (x : Name) (a : Activation V) → (w.node x).activation ≡ Some a → Contains (w.node i).promised a.ballot → l.below a.latest (l.merged (w.node i).floor (w.node i).settled))
      (floor : (x : Name) (a : Activation V) → (w.node x).activation ≡ Some a → Contains (w.node i).promised a.ballot → l.below a.latest t.floor)
      (q : Promised l above (puts l above i (record (promises l above c (w.node i)) { phase = Asking t; table = table }) w)) where
    opened : Node V
    opened = record (promises l above c (w.node i)) { phase = Asking t; table = table }

    only_itself : (z : Name) → Contains t.granted z → z ≡ i
    only_itself z has = elim (first_or_rest i z [] (subst (λ g. Contains g z) itself has)) [ inl is ↦ is | inr nothing ↦ absurd (contains_nothing z nothing) ]

    -- of those that were active, the node promised the ballots before
    lower_before : (x z : Name) (a : Activation V) → z ≡ i → above c a.ballot → Contains (set l above i (record (promises l above c (w.node i)) { phase = Asking t; table = table }) w.node z).promised a.ballot → Contains (w.node i).promised a.ballot
    lower_before x z a is higher = at_set l line above (λ m. Contains m.promised a.ballot → Contains (w.node i).promised a.ballot) i (record (promises l above c (w.node i)) { phase = Asking t; table = table }) w.node z
        (λ same has. elim (first_or_rest c a.ballot (w.node i).promised has) [ inl its ↦ absurd (strict.never_itself c (subst (above c) its higher)) | inr old ↦ old ])
        (λ other has. absurd (other is))

    open_floors : Floors l above (puts l above i (record (promises l above c (w.node i)) { phase = Asking t; table = table }) w)
    open_floors = floors_put l line above strict w p f i (record (promises l above c (w.node i)) { phase = Asking t; table = table }) w.latest q (record {
      acts = λ a act. inl act;
      follows = λ x a act has. elim (first_or_rest c a.ballot (w.node i).promised has) [
        | inl is ↦ inl (ap Some (sym is), refl)
        | inr old ↦ inr (follows x a act old)
      ];
      fresh = λ b has. elim (first_or_rest c b (w.node i).promised has) [
        | inl is ↦ inr (subst (λ e. (d : BallotModel) → Contains (w.node i).promised d → above e d) (sym is) (new_above l line above strict w p i c is_new))
        | inr old ↦ inl old
      ];
      heard = λ x z a s act live granted higher has.
          let above_c : above c a.ballot = subst (λ b. above b a.ballot) (ap (λ (u : Trial V). u.ballot) (sym live) ∙ is_ballot) higher in
          let mine : z ≡ i = only_itself z (subst (λ (u : Trial V). Contains u.granted z) (sym live) granted) in
          subst (λ (u : Trial V). l.below a.latest u.floor) live (floor x a act (lower_before x z a mine above_c has));
    })

  open_kept : (c : BallotModel) → Allowed l above w (Move.Open i c) → Floors l above (after l above w (Move.Open i c))
  open_kept c (running, younger, candidate, node, is_new, is_free) =
      let none = p.before i (inl younger) in
      let over : (x : Name) (a : Activation V) → (w.node x).activation ≡ Some a → Contains (w.node i).promised a.ballot → l.below a.latest (l.merged (w.node i).floor (w.node i).settled)
      = λ x a act has. free_follows x i a act is_free (λ last same. not_acted x a act (subst (λ k. (w.node k).activation ≡ None) (sym same ∙ act_node x a act) none)) (f.follows x i a act has) in
      open_floors c (record { ballot = c; granted = i ∷ []; floor = l.merged (w.node i).floor (w.node i).settled; opened = (w.node i).settled }) (λ s. own_placement i ((w.node i).marks s)) refl refl is_new none over over
      (kept l line above strict w p (Move.Open i c) (running, younger, candidate, node, is_new, is_free))

  reopen_kept : (t : Trial V) (c : BallotModel) → Allowed l above w (Move.Reopen i t c) → Floors l above (after l above w (Move.Reopen i t c))
  reopen_kept t c (running, asking, node, higher) =
      let live : IsLive l above (w.node i).phase t = subst (λ ph. IsLive l above ph t) (sym asking) refl in
      let own = p.own i t live in
      let none = p.before i (inr (t, asking)) in
      -- the live ballot is of no activation
      let other : (x : Name) (a : Activation V) → (w.node x).activation ≡ Some a → a.ballot ≡ t.ballot → ⊥
      = λ x a act is. not_acted x a act (subst (λ k. (w.node k).activation ≡ None) (sym (ap (λ (b : BallotModel). b.unique) is ∙ own.2) ∙ act_node x a act) none) in
      open_floors c (record t { ballot = c; granted = i ∷ [] }) (λ s. own_placement i ((w.node i).marks s)) refl refl (λ d last. subst (above c) (same_Some t.ballot d (sym own.0 ∙ last)) higher) none
      (λ x a act has. elim (f.follows x i a act has) [ inl bound ↦ absurd (other x a act (same_Some a.ballot t.ballot (sym bound.0 ∙ own.0))) | inr over ↦ over ])
      (λ x a act has. elim (is_last l line above strict w p i t.ballot own.0 a.ballot has) [
        | inl is ↦ absurd (other x a act is)
        | inr lower ↦ f.heard x i i a t act live own.3 lower has
      ])
      (kept l line above strict w p (Move.Reopen i t c) (running, asking, node, higher))

  -- ---- a grant comes
  accept_floors : (t : Trial V) (z : Name) (g : V) (m : ℕ → Mark) (e : ℕ → Placement) → Allowed l above w (Move.Accept i t z g m e) → Floors l above (after l above w (Move.Accept i t z g m e))
  accept_floors t z g m e (running, live_t, sent, unheard, stays, learns) =
      let n : Node V = record (w.node i) { phase = with_grant l above z g (w.node i).phase; table = e } in
      floors_put l line above strict w p f i n w.latest (kept l line above strict w p (Move.Accept i t z g m e) (running, live_t, sent, unheard, stays, learns)) (record {
        acts = λ a act. inl act;
        follows = λ x a act has. f.follows x i a act has;
        fresh = λ b has. inl has;
        heard = λ x y a u act live granted higher has.
            let s = granted_live l line above strict w p i z g (w.node i).phase u live in
            let same : t ≡ s.0 = one_live l line above strict w p i (w.node i).phase t s.0 live_t s.1 in
            let old : Contains (w.node y).promised a.ballot = at_set l line above (λ k. Contains k.promised a.ballot → Contains (w.node y).promised a.ballot) i n w.node y (λ is h. subst (λ k. Contains (w.node k).promised a.ballot) (sym is) h) (λ other h. h) has in
            let higher_t : above t.ballot a.ballot = subst (λ b. above b a.ballot) (sym (ap (λ (k : Trial V). k.ballot) same ∙ s.2)) higher in
            subst (l.below a.latest) (grown_floor z g (w.node i).phase u live s.0 s.1) (elim (first_or_rest z y s.0.granted (subst (λ k. Contains k y) (sym s.3) granted)) [
              | inl is ↦ line.transitive a.latest g (l.merged s.0.floor g) (f.answered x z a t.ballot g m act sent higher_t (subst (λ k. Contains (w.node k).promised a.ballot) is old)) (line.second s.0.floor g)
              | inr before ↦ line.transitive a.latest s.0.floor (l.merged s.0.floor g) (f.heard x i y a s.0 act s.1 before (subst (λ (k : Trial V). above k.ballot a.ballot) same higher_t) old) (line.first s.0.floor g)
            ]);
      })
    where
      grown_floor : (z : Name) (g : V) (ph : Phase V) (u : Trial V) → IsLive l above (with_grant l above z g ph) u → (s : Trial V) → IsLive l above ph s → l.merged s.floor g ≡ u.floor
      grown_floor z g Younger u live s was = absurd was
      grown_floor z g (Asking x) u live s was = ap (λ (k : Trial V). l.merged k.floor g) (sym was) ∙ ap (λ (k : Trial V). k.floor) live
      grown_floor z g (Active x) u live s was = ap (λ (k : Trial V). l.merged k.floor g) (sym was) ∙ ap (λ (k : Trial V). k.floor) live
      grown_floor z g Ended u live s was = absurd was

  -- ---- an activation
  activate_floors : (t : Trial V) → Allowed l above w (Move.Activate i t) → Floors l above (after l above w (Move.Activate i t))
  activate_floors t (running, asking, candidate, over, needed) =
      let n : Node V = record (w.node i) { phase = Active t; activation = Some (record { ballot = t.ballot; first = (w.node i).settled; latest = (w.node i).settled }) } in
      floors_put l line above strict w p f i n (Some i) (kept l line above strict w p (Move.Activate i t) (running, asking, candidate, over, needed)) (record {
        acts = λ a act. inr (record {
          is_running = running;
          trial = t;
          live = refl;
          is_ballot = ap (λ (b : Activation V). b.ballot) (same_Some (record { ballot = t.ballot; first = (w.node i).settled; latest = (w.node i).settled }) a act);
        });
        follows = λ x a act has. f.follows x i a act has;
        fresh = λ b has. inl has;
        heard = λ x z a u act live granted higher has.
            heard_before l line above strict w p f i n (λ b h. inl h) x i z a u act (subst (λ ph. IsLive l above ph u) (sym asking) live) granted higher has;
      })

  -- ---- a release comes
  release_floors : (h : BallotModel) (g : V) → Allowed l above w (Move.Release i h g) → Floors l above (after l above w (Move.Release i h g))
  release_floors h g (running, last, from) =
      let n : Node V = record (w.node i) { released = true; floor = l.merged (w.node i).floor g } in
      let grows : l.below (l.merged (w.node i).floor (w.node i).settled) (l.merged n.floor n.settled) = merged_over (w.node i).floor (w.node i).settled n.floor n.settled (line.first (w.node i).floor g) (line.reflexive (w.node i).settled) in
      floors_put l line above strict w p f i n w.latest (kept l line above strict w p (Move.Release i h g) (running, last, from)) (record {
        acts = λ a act. inl act;
        follows = λ x a act has. elim (f.follows x i a act has) [
          | inl bound ↦
              let same : h ≡ a.ballot = same_Some h a.ballot (sym last ∙ bound.0) in
              let below : l.below a.latest g = f.covered x from.0 a g act (subst (λ b. Sent l above w from.0 (Released b g) ⊎ Sent l above w from.0 (HandedOver b g)) same from.1) in
              inr (line.transitive a.latest g (l.merged n.floor n.settled) below (line.transitive g n.floor (l.merged n.floor n.settled) (line.second (w.node i).floor g) (line.first n.floor n.settled)))
          | inr over ↦ inr (line.transitive a.latest (l.merged (w.node i).floor (w.node i).settled) (l.merged n.floor n.settled) over grows)
        ];
        fresh = λ b has. inl has;
        heard = λ x z a t act live granted higher has. heard_before l line above strict w p f i n (λ b k. inl k) x i z a t act live granted higher has;
      })

  -- ---- an asking or an activity ends
  close_floors : (t : Trial V) (ph : Phase V) → Allowed l above w (Move.Close i t ph) → Floors l above (after l above w (Move.Close i t ph))
  close_floors t ph (running, cases) =
      let n : Node V = record (w.node i) { released = true; floor = l.merged (w.node i).floor (w.node i).settled; phase = ph } in
      let q = close_put l line above strict w p i t ph running cases in
      let put = floors_put l line above strict w p f i n w.latest q (record {
        acts = λ a act. inl act;
        follows = λ x a act has. inr (closed_over x a act has);
        fresh = λ b has. inl has;
        heard = λ x z a u act live granted higher has. absurd (not_alive u live);
      }) in
      floors_said l line above strict (puts l above i n w) put i (Released t.ballot (w.node i).settled)
      (λ x a g act is. elim is [
        | inl one ↦
            let own = q.activations x a act in
            let at : x ≡ i = sym own.own ∙ ap (λ (b : BallotModel). b.unique) (sym (ap ballot_of one)) ∙ (p.own i t live_t).2 in
            subst (l.below a.latest) (floor_of a.ballot g one) (at_set l line above (λ k. l.below a.latest k.settled → l.below a.latest (w.node i).settled) i n w.node x (λ same h. h) (λ other h. absurd (other at)) own.within)
        | inr two ↦ absurd (cc)
      ])
      (λ x a c g m act is higher has. absurd (cc))
    where
      live_t : IsLive l above (w.node i).phase t
      live_t = closing_live l line above strict w p i t ph running cases

      not_alive : (u : Trial V) → IsLive l above ph u → ⊥
      not_alive u live = elim cases [
        | inl asking ↦ elim asking.1 [ inl is ↦ subst (λ x. IsLive l above x u) is live | inr is ↦ subst (λ x. IsLive l above x u) is live ]
        | inr active ↦ subst (λ x. IsLive l above x u) active.1 live
      ]

      floor_of : (b : BallotModel) (g : V) → Released t.ballot (w.node i).settled ≡ Released b g → (w.node i).settled ≡ g
      floor_of b g is = cc

      within_merged : (a : Activation V) → l.below a.latest (w.node i).settled → l.below a.latest (l.merged (l.merged (w.node i).floor (w.node i).settled) (w.node i).settled)
      within_merged a below = line.transitive a.latest (w.node i).settled (l.merged (l.merged (w.node i).floor (w.node i).settled) (w.node i).settled) below (line.second (l.merged (w.node i).floor (w.node i).settled) (w.node i).settled)

      closed_over : (x : Name) (a : Activation V) → (w.node x).activation ≡ Some a → Contains (w.node i).promised a.ballot → l.below a.latest (l.merged (l.merged (w.node i).floor (w.node i).settled) (w.node i).settled)
      closed_over x a act has = elim (f.follows x i a act has) [
        | inl bound ↦
            let own = p.own i t live_t in
            let at : x ≡ i = sym (act_node x a act) ∙ ap (λ (b : BallotModel). b.unique) (same_Some a.ballot t.ballot (sym bound.0 ∙ own.0)) ∙ own.2 in
            within_merged a (subst (λ k. l.below a.latest (w.node k).settled) at (p.activations x a act).within)
        | inr over ↦ line.transitive a.latest (l.merged (w.node i).floor (w.node i).settled) (l.merged (l.merged (w.node i).floor (w.node i).settled) (w.node i).settled) over
            (line.first (l.merged (w.node i).floor (w.node i).settled) (w.node i).settled)
      ]

  retire_floors : Allowed l above w (Move.Retire i) → Floors l above (after l above w (Move.Retire i))
  retire_floors h = floors_put l line above strict w p f i (record (w.node i) { phase = Ended }) w.latest (kept l line above strict w p (Move.Retire i) h) (record {
    acts = λ a act. inl act;
    follows = λ x a act has. f.follows x i a act has;
    fresh = λ b has. inl has;
    heard = λ x z a u act live granted higher has. absurd live;
  })

  handed_floors : (h : BallotModel) → Allowed l above w (Move.HandOver i h) → Floors l above (after l above w (Move.HandOver i h))
  handed_floors h (running, node, named, other) = floors_said l line above strict w f i (HandedOver h (w.node i).settled)
      (λ x a g act is. elim is [
        | inl one ↦ absurd (cc)
        | inr two ↦
            let at : x ≡ i = sym (act_node x a act) ∙ ap (λ (b : BallotModel). b.unique) (sym (ap ballot_of two)) ∙ node in
            subst (l.below a.latest) (floor_of a.ballot g two) (subst (λ k. l.below a.latest (w.node k).settled) at (p.activations x a act).within)
      ])
      (λ x a c g m act is higher has. absurd (cc))
    where
      floor_of : (b : BallotModel) (g : V) → HandedOver h (w.node i).settled ≡ HandedOver b g → (w.node i).settled ≡ g
      floor_of b g is = cc

  pass_floors : (h : BallotModel) (g : V) → Allowed l above w (Move.Pass i h g) → Floors l above (after l above w (Move.Pass i h g))
  pass_floors h g (running, z, sent) = floors_said l line above strict w f i (Released h g)
      (λ x a k act is. elim is [
        | inl one ↦ subst (l.below a.latest) (floor_of a.ballot k one) (f.covered x z a g act (inr (subst (λ b. Sent l above w z (HandedOver b g)) (ap ballot_of one) sent)))
        | inr two ↦ absurd (cc)
      ])
      (λ x a c k m act is higher has. absurd (cc))
    where
      floor_of : (b : BallotModel) (k : V) → Released h g ≡ Released b k → g ≡ k
      floor_of b k is = cc

-- ---- each move
module _ {V : Type 0} (l : Line V) (line : IsLine V l) (above : BallotModel → BallotModel → Type 0) (strict : IsStrict above) (w : Cluster V) (p : Promised l above w) (f : Floors l above w) where
  quiet : (i : Name) (r : Bool) (g : List Name) (m : ℕ → Mark) (e : ℕ → Placement) → Promised l above (puts l above i (record (w.node i) { runs = r; finished = g; marks = m; table = e }) w)
      → Floors l above (puts l above i (record (w.node i) { runs = r; finished = g; marks = m; table = e }) w)
  quiet i r g m e q = quiet_put l line above strict w p f i r g m e w.latest q

  pub floors_kept : (m : Move V) → Allowed l above w m → Floors l above (after l above w m)
  floors_kept (Move.Start i) h = quiet i true (w.node i).finished (w.node i).marks (w.node i).table (kept l line above strict w p (Move.Start i) h)
  floors_kept (Move.Stop i) h = quiet i false (w.node i).finished (w.node i).marks (w.node i).table (kept l line above strict w p (Move.Stop i) h)
  floors_kept (Move.Note i v) h = note_floors l line above strict w p f i v h
  floors_kept (Move.Find i q) h = quiet i (w.node i).runs (q ∷ (w.node i).finished) (w.node i).marks (w.node i).table (kept l line above strict w p (Move.Find i q) h)
  floors_kept (Move.Promise i b) h = promise_floors l line above strict w p f i b h
  floors_kept (Move.Repeat i b) h = repeat_floors l line above strict w p f i b h
  floors_kept (Move.Open i c) h = open_kept l line above strict w p f i c h
  floors_kept (Move.Reopen i t c) h = reopen_kept l line above strict w p f i t c h
  floors_kept (Move.Close i t q) h = close_floors l line above strict w p f i t q h
  floors_kept (Move.Retire i) h = retire_floors l line above strict w p f i h
  floors_kept (Move.Accept i t z g m e) h = accept_floors l line above strict w p f i t z g m e h
  floors_kept (Move.Activate i t) h = activate_floors l line above strict w p f i t h
  floors_kept (Move.Solicit i t) h = floors_plain l line above strict w f i (Ask t.ballot) tt
  floors_kept (Move.HandOver i b) h = handed_floors l line above strict w p f i b h
  floors_kept (Move.Pass i b g) h = pass_floors l line above strict w p f i b g h
  floors_kept (Move.Release i b g) h = release_floors l line above strict w p f i b g h
  floors_kept (Move.Say i b) h = floors_plain l line above strict w f i (Names b) tt
  floors_kept (Move.Assign i t s r) h = quiet i (w.node i).runs (w.node i).finished (w.node i).marks (put_at s (assigned r ((w.node i).table s)) (w.node i).table) (kept l line above strict w p (Move.Assign i t s r) h)
  floors_kept (Move.Free i t s k) h = quiet i (w.node i).runs (w.node i).finished (w.node i).marks (put_at s (freed ((w.node i).table s)) (w.node i).table) (kept l line above strict w p (Move.Free i t s k) h)
  floors_kept (Move.Order i t s k) h = floors_plain l line above strict w f i (HostShard t.ballot k.node s k.number) tt
  floors_kept (Move.Recall i t s k) h = floors_plain l line above strict w f i (HandOff t.ballot k.node s k.number) tt
  floors_kept (Move.Host i b s n) h = quiet i (w.node i).runs (w.node i).finished (put_at s (record { number = n; hosts = true }) (w.node i).marks) (w.node i).table (kept l line above strict w p (Move.Host i b s n) h)
  floors_kept (Move.Yield i b s n) h = quiet i (w.node i).runs (w.node i).finished (put_at s (yielded n ((w.node i).marks s)) (w.node i).marks) (w.node i).table (kept l line above strict w p (Move.Yield i b s n) h)
  floors_kept (Move.Confirm i b s n) h = floors_plain l line above strict w f i (ShardStopped b s n) tt
