-- Each allowed move keeps that the active one is the latest, and that its first version covers the last ones of all before it.
use Rattle.std.proofs.Common.{◌≡◌, true, false, ◌⊎◌, inl, inr, ◌∷◌, Option, Some, None, is_some, Contains, refl, sym, ap, ◌∙◌, subst, true≢false}
use Rattle.std.proofs.lemmas.Option.{same_Some}
use Rattle.ak_line.specs.Name.{Name}
use Rattle.ak_promise.specs.Ballot.{BallotModel}
use Rattle.ak_line.specs.Line.{Line, IsLine, IsStrict}
use Rattle.ak_line.specs.Moves.{Node, Trial, Phase, Younger, Asking, Active, Ended, Activation, Said, Cluster, Move, set, puts, says, promises, with_grant, with_latest, IsLive, runs, Allowed, after}
use Rattle.ak_line.specs.Promised.{Lives, HasCensus, Promised}
use Rattle.ak_line.specs.Floors.{Floors, Latest}
use Rattle.ak_line.proofs.Puts.{at_set, from_set}
use Rattle.ak_line.proofs.Kept.{is_last, granted_active, kept}
use Rattle.ak_line.proofs.OneSingleton.{one_singleton}
use Rattle.ak_line.proofs.FloorsKept.{over_finished}

module _ {V : Type 0} (l : Line V) (line : IsLine V l) (above : BallotModel → BallotModel → Type 0) (strict : IsStrict above) where
  -- one part for the changed node
  pub record LatestPut (w : Cluster V) (i : Name) (n : Node V) : Type 0 where
    pub current : (t : Trial V) → n.runs ≡ true → n.phase ≡ Active t → w.latest ≡ Some i
    pub stays : (a : Activation V) → (w.node i).activation ≡ Some a → (b : Activation V) × (n.activation ≡ Some b)
    pub grown : (a : Activation V) → n.activation ≡ Some a → ((w.node i).activation ≡ Some a) ⊎ ((b : Activation V) × ((w.node i).activation ≡ Some b) × (a.first ≡ b.first) × (w.latest ≡ Some i))

  module _ (w : Cluster V) (k : Latest l above w) (i : Name) (n : Node V) (part : LatestPut w i n) where
    rises_put : (x y : Name) (a b : Activation V) → w.latest ≡ Some y → (set l above i n w.node x).activation ≡ Some a → (set l above i n w.node y).activation ≡ Some b → (x ≡ y) ⊎ l.below a.latest b.first
    rises_put x y a b latest act_x act_y = elim (from_set l line above (λ m. m.activation ≡ Some a) i n w.node x act_x) [
      | inl here ↦ elim (part.grown a here.1) [
        | inl old ↦ elim (later i a old) [ inl is ↦ inl (here.0 ∙ is) | inr below ↦ inr below ]
        | inr grown ↦ inl (here.0 ∙ same_Some i y (sym grown.3 ∙ latest))
      ]
      | inr there ↦ later x a there.1
    ]
      where
        later : (z : Name) (c : Activation V) → (w.node z).activation ≡ Some c → (z ≡ y) ⊎ l.below c.latest b.first
        later z c act = elim (from_set l line above (λ m. m.activation ≡ Some b) i n w.node y act_y) [
          | inl here ↦ elim (part.grown b here.1) [
            | inl old ↦ k.rises z y c b latest act (subst (λ j. (w.node j).activation ≡ Some b) (sym here.0) old)
            | inr grown ↦ elim (k.rises z y c grown.0 latest act (subst (λ j. (w.node j).activation ≡ Some grown.0) (sym here.0) grown.1)) [
              | inl is ↦ inl is
              | inr below ↦ inr (subst (l.below c.latest) (sym grown.2) below)
            ]
          ]
          | inr there ↦ k.rises z y c b latest act there.1
        ]

    pub latest_put : Latest l above (puts l above i n w)
    latest_put = record {
      current = λ y t. at_set l line above (λ m. m.runs ≡ true → m.phase ≡ Active t → w.latest ≡ Some y) i n w.node y
          (λ is running active. subst (λ j. w.latest ≡ Some j) (sym is) (part.current t running active)) (λ other. k.current y t);
      was_active = λ y latest. let a = k.was_active y latest in at_set l line above (λ m. (b : Activation V) × (m.activation ≡ Some b)) i n w.node y
          (λ is. part.stays a.0 (subst (λ j. (w.node j).activation ≡ Some a.0) is a.1)) (λ other. a);
      rises = rises_put;
    }

  pub latest_said : (w : Cluster V) → Latest l above w → (i : Name) (said : Said V) → Latest l above (says l above i said w)
  latest_said w k i said = record { current = k.current; was_active = k.was_active; rises = k.rises }

  module _ (w : Cluster V) (p : Promised l above w) (f : Floors l above w) (k : Latest l above w) (i : Name) where
    -- no change of what runs, of the phase and of the activation
    still : (n : Node V) → (n.runs ≡ true → (w.node i).runs ≡ true) → ((t : Trial V) → n.phase ≡ Active t → (s : Trial V) × ((w.node i).phase ≡ Active s)) → n.activation ≡ (w.node i).activation → Latest l above (puts l above i n w)
    still n running active act = latest_put w k i n (record {
      current = λ t r is. let s = active t is in k.current i s.0 (running r) s.1;
      stays = λ a is. (a, act ∙ is);
      grown = λ a is. inl (sym act ∙ is);
    })

    -- what an activation becomes where a version is noted
    pub noted : (v : V) → l.below (w.node i).settled v → (ph : Phase V) → (w.node i).phase ≡ ph → (a : Activation V) → (w.node i).activation ≡ Some a
        → (b : Activation V) × (with_latest l above v ph (Some a) ≡ Some b) × (b.ballot ≡ a.ballot) × (b.first ≡ a.first) × l.below a.latest b.latest × ((b ≡ a) ⊎ ((t : Trial V) × (ph ≡ Active t)))
    noted v below (Active t) phase a act = (record a { latest = v }, refl, refl, refl, subst (λ x. l.below x v) (sym ((p.activations i a act).current t phase).1) below, inr (t, refl))
    noted v below Younger phase a act = (a, refl, refl, refl, line.reflexive a.latest, inl refl)
    noted v below (Asking t) phase a act = (a, refl, refl, refl, line.reflexive a.latest, inl refl)
    noted v below Ended phase a act = (a, refl, refl, refl, line.reflexive a.latest, inl refl)

    pub noted_from : (v : V) (ph : Phase V) (o : Option (Activation V)) (a : Activation V) → with_latest l above v ph o ≡ Some a → (b : Activation V) × (o ≡ Some b)
    noted_from v (Active t) None a is = absurd (cc)
    noted_from v (Active t) (Some b) a is = (b, refl)
    noted_from v Younger o a is = (a, is)
    noted_from v (Asking t) o a is = (a, is)
    noted_from v Ended o a is = (a, is)

    note_latest : (v : V) → (w.node i).runs ≡ true → l.below (w.node i).settled v → Latest l above (puts l above i (record (w.node i) { settled = v; activation = with_latest l above v (w.node i).phase (w.node i).activation }) w)
    note_latest v running below = latest_put w k i (record (w.node i) { settled = v; activation = with_latest l above v (w.node i).phase (w.node i).activation }) (record {
      current = λ t r is. k.current i t r is;
      stays = λ a act. let b = noted v below (w.node i).phase refl a act in (b.0, ap (with_latest l above v (w.node i).phase) act ∙ b.1);
      grown = λ a is.
          let c = noted_from v (w.node i).phase (w.node i).activation a is in
          let b = noted v below (w.node i).phase refl c.0 c.1 in
          let same : b.0 ≡ a = same_Some b.0 a (sym b.1 ∙ ap (with_latest l above v (w.node i).phase) (sym c.1) ∙ is) in
          elim b.5 [
            | inl old ↦ inl (c.1 ∙ ap Some (sym old ∙ same))
            | inr active ↦ inr (c.0, c.1, ap (λ (x : Activation V). x.first) (sym same) ∙ b.3, k.current i active.0 running active.1)
          ];
    })

    -- ---- an activation
    module _ (t : Trial V) (h : Allowed l above w (Move.Activate i t)) where
      asking_live : IsLive l above (w.node i).phase t
      asking_live = subst (λ ph. IsLive l above ph t) (sym h.1) refl

      asking_lives : Lives l above w i t.ballot
      asking_lives = record { is_running = h.0; trial = t; live = asking_live; is_ballot = refl }

      none_yet : (w.node i).activation ≡ None
      none_yet = p.before i (inr (t, h.1))

      -- who was active before has its last version below the floor
      pub earlier : (x : Name) (a : Activation V) → (w.node x).activation ≡ Some a → l.below a.latest (w.node i).settled
      earlier x a act = elim (line.total a.first (w.node i).settled c.first_on h.2.0) [
        | inl below ↦ elim (h.4 x (line.still_aged a.first (w.node i).settled x below c.itself)) [
          | inl granted ↦ higher x granted c.promised ((p.binds i x t.ballot asking_lives (p.granters i x t asking_live granted)).0)
          | inr finished ↦ over_finished l line above strict w p f i x a act finished
        ]
        | inr under ↦ elim (c.census i (line.still_aged (w.node i).settled a.first i under h.2.1)) [
          | inl promised ↦ higher i own.3 promised own.0
          | inr gone ↦ absurd (true≢false (sym h.0 ∙ gone.1))
        ]
      ]
        where
          c : HasCensus l above w x a
          c = p.activations x a act

          own : ((w.node i).last ≡ Some t.ballot) × ((w.node i).released ≡ false) × (t.ballot.unique ≡ i) × Contains t.granted i
          own = p.own i t asking_live

          other : a.ballot ≡ t.ballot → ⊥
          other is = true≢false (sym (ap is_some (sym (subst (λ z. (w.node z).activation ≡ None) (sym own.2 ∙ ap (λ (b : BallotModel). b.unique) (sym is) ∙ c.own) none_yet) ∙ act)))

          higher : (z : Name) → Contains t.granted z → Contains (w.node z).promised a.ballot → (w.node z).last ≡ Some t.ballot → l.below a.latest (w.node i).settled
          higher z granted promised last = elim (is_last l line above strict w p z t.ballot last a.ballot promised) [
            | inl is ↦ absurd (other is)
            | inr lower ↦ line.transitive a.latest t.floor (w.node i).settled (f.heard x i z a t act asking_live granted lower promised) h.3
          ]

      abbrev first_act : Activation V
      first_act = record { ballot = t.ballot; first = (w.node i).settled; latest = (w.node i).settled }

      activate_latest : Promised l above (after l above w (Move.Activate i t)) → Latest l above (after l above w (Move.Activate i t))
      activate_latest q =
          let n : Node V = record (w.node i) { phase = Active t; activation = Some (record { ballot = t.ballot; first = (w.node i).settled; latest = (w.node i).settled }) } in
          let here : (P : Node V → Type 0) → P n → P (set l above i n w.node i) = λ P x. at_set l line above P i n w.node i (λ is. x) (λ other. absurd (other refl)) in
          record {
            current = λ y s running active. ap Some (one_singleton l line above (after l above w (Move.Activate i t)) q i y t s (here (λ m. m.runs ≡ true) h.0) running (here (λ m. m.phase ≡ Active t) refl) active);
            was_active = λ y latest. subst (λ z. (a : Activation V) × ((set l above i n w.node z).activation ≡ Some a)) (same_Some i y latest) (here (λ m. (a : Activation V) × (m.activation ≡ Some a)) (first_act, refl));
            rises = λ x y a b latest act_x act_y.
                let at : i ≡ y = same_Some i y latest in
                let mine : Some first_act ≡ Some b = at_set l line above (λ m. m.activation ≡ Some b → Some first_act ≡ Some b) i n w.node y (λ is act. act) (λ other. absurd (other (sym at))) act_y in
                elim (from_set l line above (λ m. m.activation ≡ Some a) i n w.node x act_x) [
                  | inl same ↦ inl (same.0 ∙ at)
                  | inr before ↦ inr (subst (λ (c : Activation V). l.below a.latest c.first) (same_Some first_act b mine) (earlier x a before.1))
                ];
          }

-- ---- each move
module _ {V : Type 0} (l : Line V) (line : IsLine V l) (above : BallotModel → BallotModel → Type 0) (strict : IsStrict above) (w : Cluster V) (p : Promised l above w) (f : Floors l above w) (k : Latest l above w) where
  -- no change of what runs, of the phase and of the activation
  same : (i : Name) (n : Node V) → n.runs ≡ (w.node i).runs → n.phase ≡ (w.node i).phase → n.activation ≡ (w.node i).activation → Latest l above (puts l above i n w)
  same i n runs phase act = still l line above strict w p f k i n (λ r. sym runs ∙ r) (λ t is. (t, sym phase ∙ is)) act

  -- the node is not active afterwards
  passive : (i : Name) (n : Node V) → ((t : Trial V) → n.phase ≡ Active t → ⊥) → (n.runs ≡ true → (w.node i).runs ≡ true) → n.activation ≡ (w.node i).activation → Latest l above (puts l above i n w)
  passive i n inactive running act = still l line above strict w p f k i n running (λ t is. absurd (inactive t is)) act

  pub latest_is_kept : (m : Move V) → Allowed l above w m → Latest l above (after l above w m)
  latest_is_kept (Move.Start i) (is_blank, unheard) = latest_put l line above strict w k i (record (w.node i) { runs = true }) (record {
    current = λ t r is. absurd (younger_active t (ap (λ (n : Node V). n.phase) (sym is_blank) ∙ is));
    stays = λ a is. (a, is);
    grown = λ a is. inl is;
  })
    where
      younger_active : (t : Trial V) → Younger ≡ Active t → ⊥
      younger_active t is = absurd (cc)
  latest_is_kept (Move.Stop i) h = still l line above strict w p f k i (record (w.node i) { runs = false }) (λ r. absurd (true≢false (sym r))) (λ t is. (t, is)) refl
  latest_is_kept (Move.Note i v) h = note_latest l line above strict w p f k i v h.0 h.2
  latest_is_kept (Move.Find i q) h = same i (record (w.node i) { finished = q ∷ (w.node i).finished }) refl refl refl
  latest_is_kept (Move.Promise i b) h = latest_said l line above strict (puts l above i (promises l above b (w.node i)) w) (same i (promises l above b (w.node i)) refl refl refl) i _
  latest_is_kept (Move.Repeat i b) h = latest_said l line above strict w k i _
  latest_is_kept (Move.Open i c) h = passive i _ (λ t is. absurd (cc)) (λ r. r) refl
  latest_is_kept (Move.Reopen i t c) h = passive i _ (λ t is. absurd (cc)) (λ r. r) refl
  latest_is_kept (Move.Close i t ph) (running, cases) = latest_said l line above strict (puts l above i (record (w.node i) { released = true; floor = l.merged (w.node i).floor (w.node i).settled; phase = ph }) w)
      (passive i (record (w.node i) { released = true; floor = l.merged (w.node i).floor (w.node i).settled; phase = ph }) (λ u is. elim cases [
        | inl asking ↦ elim asking.1 [ inl e ↦ absurd (younger_active u (sym e ∙ is)) | inr e ↦ absurd (ended_active u (sym e ∙ is)) ]
        | inr active ↦ absurd (ended_active u (sym active.1 ∙ is))
      ]) (λ r. r) refl) i _
    where
      younger_active : (u : Trial V) → Younger ≡ Active u → ⊥
      younger_active u is = absurd (cc)

      ended_active : (u : Trial V) → Ended ≡ Active u → ⊥
      ended_active u is = absurd (cc)
  latest_is_kept (Move.Retire i) h = passive i (record (w.node i) { phase = Ended }) (λ t is. absurd (cc)) (λ r. r) refl
  latest_is_kept (Move.Accept i t z g m e) h = still l line above strict w p f k i (record (w.node i) { phase = with_grant l above z g (w.node i).phase; table = e }) (λ r. r)
      (λ u is. let s = granted_active l line above strict w p i z g (w.node i).phase u is in (s.0, s.1)) refl
  latest_is_kept (Move.Activate i t) h = activate_latest l line above strict w p f k i t h (kept l line above strict w p (Move.Activate i t) h)
  latest_is_kept (Move.Solicit i t) h = latest_said l line above strict w k i _
  latest_is_kept (Move.HandOver i b) h = latest_said l line above strict w k i _
  latest_is_kept (Move.Pass i b g) h = latest_said l line above strict w k i _
  latest_is_kept (Move.Release i b g) h = same i (record (w.node i) { released = true; floor = l.merged (w.node i).floor g }) refl refl refl
  latest_is_kept (Move.Say i b) h = latest_said l line above strict w k i _
  latest_is_kept (Move.Assign i t s r) h = same i _ refl refl refl
  latest_is_kept (Move.Free i t s b) h = same i _ refl refl refl
  latest_is_kept (Move.Order i t s b) h = latest_said l line above strict w k i _
  latest_is_kept (Move.Recall i t s b) h = latest_said l line above strict w k i _
  latest_is_kept (Move.Host i b s n) h = same i _ refl refl refl
  latest_is_kept (Move.Yield i b s n) h = same i _ refl refl refl
  latest_is_kept (Move.Confirm i b s n) h = latest_said l line above strict w k i _
