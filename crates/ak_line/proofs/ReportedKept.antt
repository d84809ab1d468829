-- Each allowed move keeps what is true of who asks.
use Rattle.std.proofs.Common.{◌≡◌, ℕ, ◌≤◌, true, false, ◌⊎◌, inl, inr, [], ◌∷◌, Option, Some, Contains, refl, sym, ap, ◌∙◌, subst, arith, true≢false, le_trans}
use Rattle.std.proofs.lemmas.Option.{same_Some}
use Rattle.ak_line.specs.Name.{Name}
use Rattle.ak_promise.specs.Ballot.{BallotModel}
use Rattle.ak_line.specs.Line.{Line, IsLine, IsStrict}
use Rattle.ak_line.specs.Shards.{Mark, Home, Placement, put_at, own_placement, assigned, freed, yielded}
use Rattle.ak_line.specs.Moves.{Node, Trial, Phase, Younger, Asking, Active, Ended, Said, Ask, Granted, Released, HandedOver, Names, HostShard, HandOff, ShardStopped, Packet, Cluster, Move, set, puts, says, promises, with_grant, with_latest, Sent, IsLive, IsNew, runs, Allowed, after}
use Rattle.ak_line.specs.Promised.{Lives, Promised}
use Rattle.ak_line.specs.Floors.{Floors}
use Rattle.ak_line.specs.Placed.{Acted, Placed}
use Rattle.ak_line.specs.Reported.{Agrees, Reported}
use Rattle.ak_address.proofs.Elements.{first_or_rest, contains_nothing}
use Rattle.ak_line.proofs.Puts.{at_set}
use Rattle.ak_line.proofs.Kept.{new_unpromised, one_live}
use Rattle.ak_line.proofs.FloorsKept.{not_acted}
use Rattle.ak_line.proofs.PlacedPuts.{own_home, own_home_is}

module _ {V : Type 0} (l : Line V) (line : IsLine V l) (above : BallotModel → BallotModel → Type 0) (strict : IsStrict above) (w : Cluster V) (p : Promised l above w) (f : Floors l above w) (k : Placed l above w) (r : Reported l above w) where
  asker_lives : (y : Name) (t : Trial V) → runs l above w y → (w.node y).phase ≡ Asking t → Lives l above w y t.ballot
  asker_lives y t running asking = record { is_running = running; trial = t; live = subst (λ ph. IsLive l above ph t) (sym asking) refl; is_ballot = refl }

  -- a node that promised to one that asks has no ballot of an activation as its last one
  pub untouched : (i y : Name) (t : Trial V) (b : BallotModel) → runs l above w y → (w.node y).phase ≡ Asking t → Contains (w.node i).promised t.ballot → (w.node i).last ≡ Some b → Acted l above w b → ⊥
  untouched i y t b running asking promised last (a, act, is) =
      let bound = p.binds y i t.ballot (asker_lives y t running asking) promised in
      let same : b ≡ t.ballot = same_Some b t.ballot (sym last ∙ bound.0) in
      let node : b.unique ≡ y = ap (λ (x : BallotModel). x.unique) same ∙ (p.own y t (subst (λ ph. IsLive l above ph t) (sym asking) refl)).2 in
      not_acted l line above strict w p f i y a (subst (λ z. (w.node z).activation ≡ Some a) node act) (p.before y (inr (t, asking)))

  -- the marks of a changed node are the same, or nobody that asks has its promise
  abbrev Quiet : Name → Node V → Type 0
  Quiet i n = (n.marks ≡ (w.node i).marks) ⊎ ((y : Name) (t : Trial V) → runs l above w y → (w.node y).phase ≡ Asking t → Contains (w.node i).promised t.ballot → ⊥)

  module _ (i : Name) (n : Node V) (o : Option Name) (quiet : Quiet i n) where
    -- what a granter's marks were they are still
    marks_still : (y z : Name) (t : Trial V) → runs l above w y → (w.node y).phase ≡ Asking t → Contains (w.node z).promised t.ballot → (set l above i n w.node z).marks ≡ (w.node z).marks
    marks_still y z t running asking promised = at_set l line above (λ m. m.marks ≡ (w.node z).marks) i n w.node z
        (λ is. elim quiet [
          | inl same ↦ subst (λ j. n.marks ≡ (w.node j).marks) (sym is) same
          | inr none ↦ absurd (none y t running asking (subst (λ j. Contains (w.node j).promised t.ballot) is promised))
        ])
        (λ other. refl)

    pub agrees_still : (y : Name) (t : Trial V) → runs l above w y → (w.node y).phase ≡ Asking t → Agrees l above (record (puts l above i n w) { latest = o }) (w.node y).table t
    agrees_still y t running asking =
        let a = r.agrees y t running asking in
        let live : IsLive l above (w.node y).phase t = subst (λ ph. IsLive l above ph t) (sym asking) refl in
        let still : (z : Name) → Contains t.granted z → (set l above i n w.node z).marks ≡ (w.node z).marks = λ z granted. marks_still y z t running asking (p.granters y z t live granted) in
        record {
          frozen = λ z g m sent. a.frozen z g m sent ∙ sym (marks_still y z t running asking (p.grants z t.ballot g m sent));
          covers = λ z s granted. subst (λ (m : ℕ → Mark). (m s).number ≤ ((w.node y).table s).last) (sym (still z granted)) (a.covers z s granted);
          housed = λ z s granted. subst (λ (m : ℕ → Mark). (m s).hosts ≡ true → (h : Home) × (((w.node y).table s).home ≡ Some h) × ((m s).number ≤ h.number)) (sym (still z granted)) (a.housed z s granted);
          hosts = λ s h at. subst (λ (m : ℕ → Mark). ((m s).hosts ≡ true) × ((m s).number ≡ h.number)) (sym (still h.node (k.granted y t s h live at))) (a.hosts s h at);
        }

    pub reported_put : ((t : Trial V) → n.runs ≡ true → n.phase ≡ Asking t → Agrees l above (record (puts l above i n w) { latest = o }) n.table t)
        → ((t : Trial V) → IsLive l above n.phase t → l.on t.opened × l.below t.opened n.settled × l.aged t.opened i)
        → ((z : Name) (t : Trial V) → IsLive l above n.phase t → Contains t.granted z → l.removed t.opened z → ⊥)
        → Reported l above (record (puts l above i n w) { latest = o })
    reported_put agrees opened unremoved = record {
      agrees = λ y t. at_set l line above (λ m. m.runs ≡ true → m.phase ≡ Asking t → Agrees l above (record (puts l above i n w) { latest = o }) m.table t) i n w.node y (λ is. agrees t) (λ other. agrees_still y t);
      opened = λ y t. at_set l line above (λ m. IsLive l above m.phase t → l.on t.opened × l.below t.opened m.settled × l.aged t.opened y) i n w.node y
          (λ is live. subst (λ j. l.on t.opened × l.below t.opened n.settled × l.aged t.opened j) (sym is) (opened t live)) (λ other. r.opened y t);
      unremoved = λ y z t. at_set l line above (λ m. IsLive l above m.phase t → Contains t.granted z → l.removed t.opened z → ⊥) i n w.node y (λ is. unremoved z t) (λ other. r.unremoved y z t);
    }

  module _ (i : Name) where
    -- no change of marks, phase and table, and no fall of the settled version
    same_reports : (n : Node V) → (n.runs ≡ true → (w.node i).runs ≡ true) → l.below (w.node i).settled n.settled
        → Reported l above (puts l above i (record n { marks = (w.node i).marks; phase = (w.node i).phase; table = (w.node i).table }) w)
    same_reports n running rose = reported_put i (record n { marks = (w.node i).marks; phase = (w.node i).phase; table = (w.node i).table }) w.latest (inl refl)
        (λ t is_running asking. agrees_still i (record n { marks = (w.node i).marks; phase = (w.node i).phase; table = (w.node i).table }) w.latest (inl refl) i t (running is_running) asking)
        (λ t live. let x = r.opened i t live in (x.0, line.transitive t.opened (w.node i).settled n.settled x.1 rose, x.2))
        (λ z t live granted. r.unremoved i z t live granted)

    -- no asking afterwards, and what lives was asking or active before
    past : (n : Node V) (o : Option Name) → ((t : Trial V) → n.phase ≡ Asking t → ⊥) → ((t : Trial V) → IsLive l above n.phase t → IsLive l above (w.node i).phase t)
        → Reported l above (record (puts l above i (record n { marks = (w.node i).marks; settled = (w.node i).settled }) w) { latest = o })
    past n o none before = reported_put i (record n { marks = (w.node i).marks; settled = (w.node i).settled }) o (inl refl)
        (λ t is_running asking. absurd (none t asking)) (λ t live. r.opened i t (before t live)) (λ z t live granted. r.unremoved i z t (before t live) granted)

    -- marks change by an order of an activation alone
    new_marks : (m : ℕ → Mark) (b : BallotModel) → (w.node i).last ≡ Some b → Acted l above w b → Reported l above (puts l above i (record (w.node i) { marks = m }) w)
    new_marks m b last acted =
        let quiet : Quiet i (record (w.node i) { marks = m }) = inr (λ y t running asking promised. untouched i y t b running asking promised last acted) in
        reported_put i (record (w.node i) { marks = m }) w.latest quiet
        (λ t running asking. agrees_still i (record (w.node i) { marks = m }) w.latest quiet i t running asking)
        (λ t live. r.opened i t live) (λ z t live granted. r.unremoved i z t live granted)

    -- a coordinator's table changes
    new_table : (e : ℕ → Placement) (t : Trial V) → (w.node i).phase ≡ Active t → Reported l above (puts l above i (record (w.node i) { table = e }) w)
    new_table e t active = past (record (w.node i) { table = e }) w.latest (λ u asking. absurd (differ u (sym active ∙ asking))) (λ u live. live)
      where
        differ : (u : Trial V) → Active t ≡ Asking u → ⊥
        differ u is = absurd (cc)

    -- the trial of a phase that has one
    abbrev trial_in : Trial V → Phase V → Trial V
    trial_in t Younger = t
    trial_in t (Asking u) = u
    trial_in t (Active u) = u
    trial_in t Ended = t

    -- ---- a new ballot of the node's own
    open_reported : (c : BallotModel) (t : Trial V) → c.unique ≡ i → t.ballot ≡ c → t.granted ≡ i ∷ [] → IsNew l above (w.node i) c → l.on t.opened × l.below t.opened (w.node i).settled × l.aged t.opened i → (l.removed t.opened i → ⊥)
        → Reported l above (puts l above i (record (promises l above c (w.node i)) { phase = Asking t; table = λ s. own_placement i ((w.node i).marks s) }) w)
    open_reported c t node is_ballot itself is_new opened stays = reported_put i n w.latest (inl refl)
        (λ u running asking. subst (λ x. Agrees l above (puts l above i n w) n.table x) (same_asking u asking) agrees)
        (λ u live. subst (λ (x : Trial V). l.on x.opened × l.below x.opened (w.node i).settled × l.aged x.opened i) live opened)
        (λ z u live granted removed. stays (subst (λ (x : Trial V). l.removed x.opened i) (sym live) (subst (l.removed u.opened) (only z (subst (λ (x : Trial V). Contains x.granted z) (sym live) granted)) removed)))
      where
        n : Node V
        n = record (promises l above c (w.node i)) { phase = Asking t; table = λ s. own_placement i ((w.node i).marks s) }

        same_asking : (u : Trial V) → Asking t ≡ Asking u → t ≡ u
        same_asking u is = ap (trial_in t) is

        only : (z : Name) → Contains t.granted z → z ≡ i
        only z has = elim (first_or_rest i z [] (subst (λ g. Contains g z) itself has)) [ inl is ↦ is | inr nothing ↦ absurd (contains_nothing z nothing) ]

        fresh : (z : Name) → Contains (w.node z).promised c → ⊥
        fresh z has = new_unpromised l line above strict w p i c is_new (subst (λ j. Contains (w.node j).promised c) node (p.known z c has))

        marks_at : (z : Name) → z ≡ i → (set l above i n w.node z).marks ≡ (w.node i).marks
        marks_at z is = at_set l line above (λ m. m.marks ≡ (w.node i).marks) i n w.node z (λ same. refl) (λ other. absurd (other is))

        agrees : Agrees l above (puts l above i n w) (λ s. own_placement i ((w.node i).marks s)) t
        agrees = record {
          frozen = λ z g m sent. absurd (fresh z (subst (Contains (w.node z).promised) is_ballot (p.grants z t.ballot g m sent)));
          covers = λ z s granted. subst (λ (m : ℕ → Mark). (m s).number ≤ ((w.node i).marks s).number) (sym (marks_at z (only z granted))) (let x = ((w.node i).marks s).number in omega arith);
          housed = λ z s granted. subst (λ (m : ℕ → Mark). (m s).hosts ≡ true → (h : Home) × ((own_placement i ((w.node i).marks s)).home ≡ Some h) × ((m s).number ≤ h.number)) (sym (marks_at z (only z granted)))
              (λ hosts. (record { node = i; number = ((w.node i).marks s).number }, own_home_is i ((w.node i).marks s) hosts, (let x = ((w.node i).marks s).number in omega arith)));
          hosts = λ s h at.
              let own = own_home i ((w.node i).marks s) h at in
              subst (λ (m : ℕ → Mark). ((m s).hosts ≡ true) × ((m s).number ≡ h.number)) (sym (marks_at h.node (ap (λ (x : Home). x.node) own.1))) (own.0, sym (ap (λ (x : Home). x.number) own.1));
        }

    -- ---- a report is learnt
    abbrev pub more_granted : Name → V → Trial V → Trial V
    more_granted z g t = record t { granted = z ∷ t.granted; floor = l.merged t.floor g }

    pub granted_asking : (z : Name) (g : V) (ph : Phase V) (u : Trial V) → with_grant l above z g ph ≡ Asking u → (s : Trial V) × (ph ≡ Asking s) × (more_granted z g s ≡ u)
    granted_asking z g Younger u is = absurd (cc)
    granted_asking z g (Asking s) u is = (s, refl, ap (trial_in (more_granted z g s)) is)
    granted_asking z g (Active s) u is = absurd (cc)
    granted_asking z g Ended u is = absurd (cc)

    granted_from : (z : Name) (g : V) (ph : Phase V) (u : Trial V) → IsLive l above (with_grant l above z g ph) u → (s : Trial V) × IsLive l above ph s × (more_granted z g s ≡ u)
    granted_from z g Younger u live = absurd live
    granted_from z g (Asking s) u live = (s, refl, live)
    granted_from z g (Active s) u live = (s, refl, live)
    granted_from z g Ended u live = absurd live

    accept_reported : (t : Trial V) (z : Name) (g : V) (m : ℕ → Mark) (e : ℕ → Placement) → Allowed l above w (Move.Accept i t z g m e) → Reported l above (after l above w (Move.Accept i t z g m e))
    accept_reported t z g m e (running, live_t, sent, unheard, stays, learns) = reported_put i n w.latest (inl refl)
        (λ u is_running asking. let s = granted_asking z g (w.node i).phase u asking in
        subst (λ x. Agrees l above (puts l above i n w) e x) s.2 (learnt s.0 s.1))
        (λ u live. let s = granted_from z g (w.node i).phase u live in subst (λ (x : Trial V). l.on x.opened × l.below x.opened (w.node i).settled × l.aged x.opened i) s.2 (r.opened i s.0 s.1))
        (λ y u live granted removed. let s = granted_from z g (w.node i).phase u live in unremoved_of y u s.0 s.1 s.2 granted removed)
      where
        n : Node V
        n = record (w.node i) { phase = with_grant l above z g (w.node i).phase; table = e }

        unremoved_of : (y : Name) (u s : Trial V) → IsLive l above (w.node i).phase s → more_granted z g s ≡ u → Contains u.granted y → l.removed u.opened y → ⊥
        unremoved_of y u s live same granted removed =
            let gone : l.removed s.opened y = subst (λ (x : Trial V). l.removed x.opened y) (sym same) removed in
            elim (first_or_rest z y s.granted (subst (λ (x : Trial V). Contains x.granted y) (sym same) granted)) [
              | inl is ↦ stays (line.still_removed s.opened (w.node i).settled z (r.opened i s live).1 (subst (l.removed s.opened) is gone))
              | inr old ↦ r.unremoved i y s live old gone
            ]

        learnt : (s : Trial V) → (w.node i).phase ≡ Asking s → Agrees l above (puts l above i n w) e (more_granted z g s)
        learnt s asking =
            let old = agrees_still i n w.latest (inl refl) i s running asking in
            let same : t ≡ s = one_live l line above strict w p i (w.node i).phase t s live_t (subst (λ ph. IsLive l above ph s) (sym asking) refl) in
            -- what was reported is so still
            let now : m ≡ (set l above i n w.node z).marks = old.frozen z g m (subst (λ (x : Trial V). Sent l above w z (Granted x.ballot g m)) same sent) in
            record {
              frozen = λ y h k there. old.frozen y h k there;
              covers = λ y j granted. elim (first_or_rest z y s.granted granted) [
                | inl is ↦ subst (λ x. ((set l above i n w.node x).marks j).number ≤ (e j).last) (sym is) (subst (λ (k : ℕ → Mark). (k j).number ≤ (e j).last) now (learns j).covers)
                | inr before ↦ le_trans (old.covers y j before) (learns j).keeps
              ];
              housed = λ y j granted hosts. elim (first_or_rest z y s.granted granted) [
                | inl is ↦ subst (λ x. (h : Home) × ((e j).home ≡ Some h) × (((set l above i n w.node x).marks j).number ≤ h.number)) (sym is)
                    (subst (λ (k : ℕ → Mark). (h : Home) × ((e j).home ≡ Some h) × ((k j).number ≤ h.number)) now
                    (its_home j (subst (λ (k : ℕ → Mark). (k j).hosts ≡ true) (sym now) (subst (λ x. ((set l above i n w.node x).marks j).hosts ≡ true) is hosts))))
                | inr before ↦ let x = old.housed y j before hosts in kept_home j ((set l above i n w.node y).marks j).number x.0 x.1 x.2
              ];
              hosts = λ j h at. elim (learns j).home [
                | inl kept ↦ old.hosts j h (sym kept.0 ∙ at)
                | inr new ↦
                    let is : record { node = z; number = (m j).number } ≡ h = same_Some (record { node = z; number = (m j).number }) h (sym new.0 ∙ at) in
                    subst (λ (x : Home). (((set l above i n w.node x.node).marks j).hosts ≡ true) × (((set l above i n w.node x.node).marks j).number ≡ x.number)) is
                    (subst (λ (k : ℕ → Mark). ((k j).hosts ≡ true) × ((k j).number ≡ (m j).number)) now (new.1, refl))
              ];
            }
          where
            its_home : (j : ℕ) → (m j).hosts ≡ true → (h : Home) × ((e j).home ≡ Some h) × ((m j).number ≤ h.number)
            its_home j hosts = elim (learns j).home [
              | inl kept ↦ let x = kept.1 hosts in (x.0, kept.0 ∙ x.1, x.2 asks)
              | inr new ↦ (record { node = z; number = (m j).number }, new.0, (let x = (m j).number in omega arith))
            ]
              where
                asks : (w.node i).phase ≡ Asking t
                asks = asking ∙ ap Asking (sym (one_live l line above strict w p i (w.node i).phase t s live_t (subst (λ ph. IsLive l above ph s) (sym asking) refl)))

            kept_home : (j a : ℕ) (h : Home) → ((w.node i).table j).home ≡ Some h → a ≤ h.number → (x : Home) × ((e j).home ≡ Some x) × (a ≤ x.number)
            kept_home j a h at less = elim (learns j).home [
              | inl kept ↦ (h, kept.0 ∙ at, less)
              | inr new ↦ (record { node = z; number = (m j).number }, new.0, le_trans less (new.2 h at).1)
            ]

  -- ---- one packet more
  said_reported : (v : Cluster V) → Reported l above v → (i : Name) (said : Said V) → ((c : BallotModel) (g : V) (m : ℕ → Mark) → said ≡ Granted c g m → m ≡ (v.node i).marks) → Reported l above (says l above i said v)
  said_reported v x i said granted = record {
    agrees = λ y t running asking. let a = x.agrees y t running asking in record {
      frozen = λ z g m there. elim (first_or_rest (record { from = i; said = said }) (record { from = z; said = Granted t.ballot g m }) v.packets there) [
        | inl is ↦ subst (λ j. m ≡ (v.node j).marks) (sym (ap (λ (q : Packet V). q.from) is)) (granted t.ballot g m (sym (ap (λ (q : Packet V). q.said) is)))
        | inr old ↦ a.frozen z g m old
      ];
      covers = a.covers;
      housed = a.housed;
      hosts = a.hosts;
    };
    opened = x.opened;
    unremoved = x.unremoved;
  }

  granted_reported : (v : Cluster V) → Reported l above v → (i : Name) (b : BallotModel) (g : V) (m : ℕ → Mark) → (v.node i).marks ≡ m → Reported l above (says l above i (Granted b g m) v)
  granted_reported v x i b g m is = said_reported v x i (Granted b g m) (λ c h y same. sym (marks_of c h y same) ∙ sym is)
    where
      marks_of : (c : BallotModel) (h : V) (y : ℕ → Mark) → Granted b g m ≡ Granted c h y → m ≡ y
      marks_of c h y same = cc

  -- ---- each move
  pub reported_kept : (m : Move V) → Allowed l above w m → Reported l above (after l above w m)
  reported_kept (Move.Start i) (is_blank, unheard) = past i (record (w.node i) { runs = true }) w.latest (λ t asking. absurd (differ t (ap (λ (n : Node V). n.phase) (sym is_blank) ∙ asking))) (λ t live. live)
    where
      differ : (t : Trial V) → Younger ≡ Asking t → ⊥
      differ t is = absurd (cc)
  reported_kept (Move.Stop i) h = same_reports i (record (w.node i) { runs = false }) (λ is. absurd (true≢false (sym is))) (line.reflexive (w.node i).settled)
  reported_kept (Move.Note i v) h = same_reports i (record (w.node i) { settled = v; activation = with_latest l above v (w.node i).phase (w.node i).activation }) (λ is. is) h.2
  reported_kept (Move.Find i z) h = same_reports i (record (w.node i) { finished = z ∷ (w.node i).finished }) (λ is. is) (line.reflexive (w.node i).settled)
  reported_kept (Move.Promise i b) h = granted_reported (puts l above i (promises l above b (w.node i)) w) (same_reports i (promises l above b (w.node i)) (λ is. is) (line.reflexive (w.node i).settled)) i b (l.merged (w.node i).floor (w.node i).settled) (w.node i).marks
      (at_set l line above (λ (m : Node V). m.marks ≡ (w.node i).marks) i (promises l above b (w.node i)) w.node i (λ is. refl) (λ other. absurd (other refl)))
  reported_kept (Move.Repeat i b) h = granted_reported w r i b (l.merged (w.node i).floor (w.node i).settled) (w.node i).marks refl
  reported_kept (Move.Open i c) (running, younger, candidate, node, is_new, is_free) =
      open_reported i c (record { ballot = c; granted = i ∷ []; floor = l.merged (w.node i).floor (w.node i).settled; opened = (w.node i).settled }) node refl refl is_new (candidate.0, line.reflexive (w.node i).settled, candidate.1) candidate.2
  reported_kept (Move.Reopen i t c) (running, asking, node, higher) =
      let live : IsLive l above (w.node i).phase t = subst (λ ph. IsLive l above ph t) (sym asking) refl in
      let own = p.own i t live in
      open_reported i c (record t { ballot = c; granted = i ∷ [] }) node refl refl (λ d last. subst (above c) (same_Some t.ballot d (sym own.0 ∙ last)) higher) (r.opened i t live) (r.unremoved i i t live own.3)
  reported_kept (Move.Close i t ph) (running, cases) = said_reported (puts l above i (record (w.node i) { released = true; floor = l.merged (w.node i).floor (w.node i).settled; phase = ph }) w)
      (past i (record (w.node i) { released = true; floor = l.merged (w.node i).floor (w.node i).settled; phase = ph }) w.latest (λ u asking. not_live u (subst (λ x. IsLive l above x u) (sym asking) refl)) (λ u live. absurd (not_live u live)))
      i (Released t.ballot (w.node i).settled) (λ c g m is. absurd (cc))
    where
      not_live : (u : Trial V) → IsLive l above ph u → ⊥
      not_live u live = elim cases [
        | inl asking ↦ elim asking.1 [ inl is ↦ subst (λ x. IsLive l above x u) is live | inr is ↦ subst (λ x. IsLive l above x u) is live ]
        | inr active ↦ subst (λ x. IsLive l above x u) active.1 live
      ]
  reported_kept (Move.Retire i) h = past i (record (w.node i) { phase = Ended }) w.latest (λ t asking. absurd (cc)) (λ t live. absurd live)
  reported_kept (Move.Accept i t z g m e) h = accept_reported i t z g m e h
  reported_kept (Move.Activate i t) (running, asking, candidate, over, needed) =
      past i (record (w.node i) { phase = Active t; activation = Some (record { ballot = t.ballot; first = (w.node i).settled; latest = (w.node i).settled }) }) (Some i) (λ u is. absurd (cc)) (λ u live. subst (λ ph. IsLive l above ph u) (sym asking) live)
  reported_kept (Move.Solicit i t) h = said_reported w r i (Ask t.ballot) (λ c g m is. absurd (cc))
  reported_kept (Move.HandOver i b) h = said_reported w r i (HandedOver b (w.node i).settled) (λ c g m is. absurd (cc))
  reported_kept (Move.Pass i b g) h = said_reported w r i (Released b g) (λ c g m is. absurd (cc))
  reported_kept (Move.Release i b g) h = same_reports i (record (w.node i) { released = true; floor = l.merged (w.node i).floor g }) (λ is. is) (line.reflexive (w.node i).settled)
  reported_kept (Move.Say i b) h = said_reported w r i (Names b) (λ c g m is. absurd (cc))
  reported_kept (Move.Assign i t s j) h = new_table i (put_at s (assigned j ((w.node i).table s)) (w.node i).table) t h.1
  reported_kept (Move.Free i t s b) h = new_table i (put_at s (freed ((w.node i).table s)) (w.node i).table) t h.1
  reported_kept (Move.Order i t s b) h = said_reported w r i (HostShard t.ballot b.node s b.number) (λ c g m is. absurd (cc))
  reported_kept (Move.Recall i t s b) h = said_reported w r i (HandOff t.ballot b.node s b.number) (λ c g m is. absurd (cc))
  reported_kept (Move.Host i b s m) (running, last, from, unhosted, greater) = new_marks i (put_at s (record { number = m; hosts = true }) (w.node i).marks) b last (k.directed i b s m (from.0, inl from.1)).2
  reported_kept (Move.Yield i b s m) (running, last, from) = new_marks i (put_at s (yielded m ((w.node i).marks s)) (w.node i).marks) b last (k.directed i b s m (from.0, inr from.1)).2
  reported_kept (Move.Confirm i b s m) h = said_reported w r i (ShardStopped b s m) (λ c g y is. absurd (cc))
