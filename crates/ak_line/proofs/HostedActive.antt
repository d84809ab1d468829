-- An activation keeps what is true of hosts: the new coordinator's table has each shard that a running node hosts.
use Rattle.std.proofs.Common.{◌≡◌, ℕ, ◌<◌, ◌≤◌, true, inl, inr, Some, Contains, refl, sym, ap, ◌∙◌, subst, arith, true≢false}
use Rattle.std.proofs.lemmas.Option.{same_Some}
use Rattle.ak_line.specs.Name.{Name}
use Rattle.ak_line.proofs.Names.{name_tells}
use Rattle.ak_promise.specs.Ballot.{BallotModel}
use Rattle.ak_line.specs.Line.{Line, IsLine, IsStrict}
use Rattle.ak_line.specs.Shards.{Home}
use Rattle.ak_line.specs.Moves.{Node, Trial, Asking, Active, Activation, Cluster, Move, set, IsLive, runs, Allowed, after}
use Rattle.ak_line.specs.Promised.{Lives, Promised}
use Rattle.ak_line.specs.Floors.{Floors, Latest}
use Rattle.ak_line.specs.Placed.{Reached, Placed}
use Rattle.ak_line.specs.Reported.{Reported}
use Rattle.ak_line.specs.Hosted.{Touched, Hosted}
use Rattle.ak_line.proofs.Puts.{at_set, from_set}
use Rattle.ak_line.proofs.LatestKept.{earlier}
use Rattle.ak_line.proofs.ReportedKept.{untouched}
use Rattle.ak_line.proofs.HostedPuts.{touched_reached, hosts_reached}

module _ {V : Type 0} (l : Line V) (line : IsLine V l) (above : BallotModel → BallotModel → Type 0) (strict : IsStrict above) (w : Cluster V) (p : Promised l above w) (f : Floors l above w) (q : Latest l above w) (k : Placed l above w) (r : Reported l above w) (h : Hosted l above w)
    (i : Name) (t : Trial V) (x : Allowed l above w (Move.Activate i t)) where
  live : IsLive l above (w.node i).phase t
  live = subst (λ ph. IsLive l above ph t) (sym x.1) refl

  lives : Lives l above w i t.ballot
  lives = record { is_running = x.0; trial = t; live = live; is_ballot = refl }

  -- the version of the activation counts each reached node as aged
  reached_aged : (z : Name) → Reached l above w z → l.aged (w.node i).settled z
  reached_aged z (y, a, act, aged) = line.still_aged a.latest (w.node i).settled z (earlier l line above strict w p f q i t x y a act) aged

  -- so it granted, where it runs
  reached_granted : (z : Name) → runs l above w z → Reached l above w z → Contains t.granted z
  reached_granted z running reached = elim (x.4 z (reached_aged z reached)) [
    | inl granted ↦ granted
    | inr finished ↦ absurd (true≢false (sym running ∙ (p.finished i z finished).0))
  ]

  reached_promised : (z : Name) → runs l above w z → Reached l above w z → Contains (w.node z).promised t.ballot
  reached_promised z running reached = p.granters i z t live (reached_granted z running reached)

  -- who promised to this one and to another that asks does not exist
  one_asker : (y z : Name) (u : Trial V) → (y ≡ i → ⊥) → runs l above w y → (w.node y).phase ≡ Asking u → Contains (w.node z).promised t.ballot → (w.node z).last ≡ Some u.ballot → ⊥
  one_asker y z u other running asking promised last =
      let bound = p.binds i z t.ballot lives promised in
      let same : u.ballot ≡ t.ballot = same_Some u.ballot t.ballot (sym last ∙ bound.0) in
      other (sym (p.own y u (subst (λ ph. IsLive l above ph u) (sym asking) refl)).2 ∙ ap (λ (b : BallotModel). b.unique) same ∙ (p.own i t live).2)

  -- a home in the table of the one that becomes active is the host that runs: any other had a lesser number
  placed : (z : Name) (s : ℕ) → runs l above w z → ((w.node z).marks s).hosts ≡ true → ((w.node i).table s).home ≡ Some (record { node = z; number = ((w.node z).marks s).number })
  placed z s running hosts =
      let a = r.agrees i t x.0 x.1 in
      let b = a.housed z s (reached_granted z running (hosts_reached l line above strict w p q k h z s hosts)) hosts in
      let at = a.hosts s b.0 b.1 in
      elim (name_tells b.0.node z) [
        | inl is ↦ b.1 ∙ ap Some (home_is b.0 (sym (subst (λ j. ((w.node j).marks s).number ≡ b.0.number) is.1 at.1)) is.1)
        | inr other ↦ absurd (beaten b.0 b.1 b.2 at.0 at.1 other.1)
      ]
    where
      home_is : (c : Home) → c.number ≡ ((w.node z).marks s).number → c.node ≡ z → c ≡ record { node = z; number = ((w.node z).marks s).number }
      home_is c number node = subst (λ j. c ≡ record { node = j; number = ((w.node z).marks s).number }) node (subst (λ m. c ≡ record { node = c.node; number = m }) number refl)

      beaten : (c : Home) → ((w.node i).table s).home ≡ Some c → ((w.node z).marks s).number ≤ c.number → ((w.node c.node).marks s).hosts ≡ true → ((w.node c.node).marks s).number ≡ c.number → (c.node ≡ z → ⊥) → ⊥
      beaten c at below host number other =
          let granted = k.granted i t s c live at in
          let y = h.stale i c.node t s x.0 x.1 (p.granters i c.node t live granted) (r.unremoved i c.node t live granted) host in
          let own = h.housed z s running hosts in
          let same : own.0 ≡ y.0 = same_Some own.0 y.0 (sym own.1 ∙ y.1) in
          let less : ((w.node c.node).marks s).number < ((w.node z).marks s).number =
          y.3 (record { node = z; number = ((w.node z).marks s).number }) (subst (λ j. ((w.node j).table s).home ≡ Some (record { node = z; number = ((w.node z).marks s).number })) same own.2) running (λ is. other (sym is)) in
          omega (arith, less, below, number)

  -- no host promised to another that asks, unless it was removed when that asking was opened
  no_other : (y z : Name) (u : Trial V) → (y ≡ i → ⊥) → runs l above w y → (w.node y).phase ≡ Asking u → Contains (w.node z).promised u.ballot → (l.removed u.opened z → ⊥) → Reached l above w z → ⊥
  no_other y z u other running asking promised stays reached = elim (x.4 z (reached_aged z reached)) [
    | inl granted ↦ one_asker y z u other running asking (p.granters i z t live granted) (p.binds y z u.ballot (record { is_running = running; trial = u; live = live_u; is_ballot = refl }) promised).0
    | inr finished ↦
        let gone = p.finished i z finished in
        let opened = r.opened y u live_u in
        elim (line.total (w.node i).settled u.opened gone.1 opened.0) [
          | inl below ↦ stays (line.still_removed (w.node i).settled u.opened z below gone.2)
          | inr under ↦ elim (x.4 y (line.still_aged u.opened (w.node i).settled y under opened.2)) [
            | inl granted ↦ one_asker y y u other running asking (p.granters i y t live granted) (p.own y u live_u).0
            | inr ended ↦ true≢false (sym running ∙ (p.finished i y ended).0)
          ]
        ]
  ]
    where
      live_u : IsLive l above (w.node y).phase u
      live_u = subst (λ ph. IsLive l above ph u) (sym asking) refl

  -- ---- the world after the activation
  abbrev n : Node V
  n = record (w.node i) { phase = Active t; activation = Some (record { ballot = t.ballot; first = (w.node i).settled; latest = (w.node i).settled }) }

  unchanged : (P : Node V → Type 0) → (P (record (w.node i) { phase = Active t; activation = Some (record { ballot = t.ballot; first = (w.node i).settled; latest = (w.node i).settled }) }) → P (w.node i)) → (z : Name) → P (set l above i n w.node z) → P (w.node z)
  unchanged P drop z has = elim (from_set l line above P i n w.node z has) [ inl here ↦ subst (λ j. P (w.node j)) (sym here.0) (drop here.1) | inr there ↦ there.1 ]

  touched_then : (z : Name) → Touched l above (after l above w (Move.Activate i t)) z → Touched l above w z
  touched_then z (inl (s, more)) = inl (s, unchanged (λ m. 0 < (m.marks s).number) (λ is. is) z more)
  touched_then z (inr there) = inr there

  table_here : (s : ℕ) (b : Home) → ((w.node i).table s).home ≡ Some b → ((set l above i n w.node i).table s).home ≡ Some b
  table_here s b at = at_set l line above (λ m. (m.table s).home ≡ Some b) i n w.node i (λ is. at) (λ other. absurd (other refl))

  -- the node asks no more
  other_asks : (y : Name) (u : Trial V) → (set l above i n w.node y).phase ≡ Asking u → (y ≡ i → ⊥) × ((w.node y).phase ≡ Asking u)
  other_asks y u asking = elim (from_set l line above (λ m. m.phase ≡ Asking u) i n w.node y asking) [
    | inl here ↦ absurd (differ here.1)
    | inr there ↦ there
  ]
    where
      differ : Active t ≡ Asking u → ⊥
      differ is = absurd (cc)

  pub activate_hosted : Hosted l above (after l above w (Move.Activate i t))
  activate_hosted = record {
    housed = λ z s running. at_set l line above (λ m. (m.marks s).hosts ≡ true → (j : Name) × (Some i ≡ Some j) × (((set l above i n w.node j).table s).home ≡ Some (record { node = z; number = (m.marks s).number }))) i n w.node z
        (λ is hosts.
        let at = placed i s x.0 hosts in
        (i, refl, table_here s (record { node = z; number = ((w.node i).marks s).number }) (subst (λ j. ((w.node i).table s).home ≡ Some (record { node = j; number = ((w.node i).marks s).number })) (sym is) at)))
        (λ other hosts. (i, refl, table_here s (record { node = z; number = ((w.node z).marks s).number }) (placed z s (unchanged (λ m. m.runs ≡ true) (λ is. is) z running) hosts)));
    fenced = λ z y b s m sent running last.
        let told = k.directed y b s m (z, inl sent) in
        let ran = unchanged (λ e. e.runs ≡ true) (λ is. is) y running in
        absurd (untouched l line above strict w p f k r y i t b x.0 x.1 (reached_promised y ran told.1) (unchanged (λ e. e.last ≡ Some b) (λ is. is) y last) told.2);
    needed = λ j z a latest act running touched.
        let is : i ≡ j = same_Some i j latest in
        let ran = unchanged (λ e. e.runs ≡ true) (λ same. same) z running in
        let reached = touched_reached l line above strict w p q k h z (touched_then z touched) in
        let mine : t.ballot ≡ a.ballot = at_set l line above (λ m. m.activation ≡ Some a → t.ballot ≡ a.ballot) i n w.node j
        (λ same own. ap (λ (c : Activation V). c.ballot) (same_Some (record { ballot = t.ballot; first = (w.node i).settled; latest = (w.node i).settled }) a own)) (λ other. absurd (other (sym is))) act in (
          at_set l line above (λ m. Contains m.promised a.ballot) i n w.node z (λ same. subst (Contains (w.node i).promised) mine (subst (λ y. Contains (w.node y).promised t.ballot) same (reached_promised z ran reached))) (λ other. subst (Contains (w.node z).promised) mine (reached_promised z ran reached)),
          λ u phase. at_set l line above (λ m. m.phase ≡ Active u → Contains u.granted z) i n w.node j (λ same own. subst (λ g. Contains g z) (granted_of u own) (reached_granted z ran reached)) (λ other. absurd (other (sym is))) phase,
        );
    stale = λ y z u s running asking has stays hosts.
        let o = other_asks y u asking in
        absurd (no_other y z u o.0 (unchanged (λ m. m.runs ≡ true) (λ is. is) y running) o.1 (unchanged (λ m. Contains m.promised u.ballot) (λ is. is) z has) stays
        (hosts_reached l line above strict w p q k h z s (unchanged (λ m. (m.marks s).hosts ≡ true) (λ is. is) z hosts)));
  }
    where
      granted_of : (u : Trial V) → Active t ≡ Active u → t.granted ≡ u.granted
      granted_of u is = cc
