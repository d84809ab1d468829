-- Each allowed move keeps what is true of hosts.
use Rattle.std.proofs.Common.{◌≡◌, ℕ, suc, ◌<◌, ◌≤◌, true, false, ◌⊎◌, inl, inr, [], ◌∷◌, Some, None, Contains, refl, sym, ap, ◌∙◌, subst, arith, true≢false, lt_of_lt_of_le}
use Rattle.std.proofs.Math.Nat.{le-max_left, max-eq_left}
use Rattle.std.proofs.lemmas.Option.{same_Some}
use Rattle.ak_line.specs.Name.{Name}
use Rattle.ak_promise.specs.Ballot.{BallotModel}
use Rattle.ak_line.specs.Line.{Line, IsLine, IsStrict}
use Rattle.ak_line.specs.Shards.{Mark, Home, Placement, put_at, own_placement, assigned, freed, yielded}
use Rattle.ak_line.specs.Moves.{Node, Trial, Phase, Younger, Asking, Active, Ended, Activation, Said, Ask, Granted, Released, HandedOver, Names, HostShard, HandOff, ShardStopped, Cluster, Move, ballot_of, puts, says, promises, with_grant, with_latest, IsLive, IsNew, runs, Allowed, after}
use Rattle.ak_line.specs.Promised.{Promised}
use Rattle.ak_line.specs.Floors.{Floors, Latest}
use Rattle.ak_line.specs.Placed.{Reached, Placed}
use Rattle.ak_line.specs.Reported.{Reported}
use Rattle.ak_line.specs.Hosted.{Hosted}
use Rattle.ak_address.proofs.Elements.{contains_rest, first_or_rest}
use Rattle.ak_line.proofs.Kept.{new_unpromised, one_live}
use Rattle.ak_line.proofs.FloorsKept.{not_acted}
use Rattle.ak_line.proofs.LatestKept.{noted, noted_from}
use Rattle.ak_line.proofs.PlacedPuts.{at_put, yielded_hosts}
use Rattle.ak_line.proofs.ReportedKept.{untouched, granted_asking}
use Rattle.ak_line.proofs.HostedPuts.{Turns, turns_same, HostedPut, hosted_put, hosted_marks, hosted_said, hosted_silent}
use Rattle.ak_line.proofs.HostedActive.{activate_hosted}

module _ {V : Type 0} (l : Line V) (line : IsLine V l) (above : BallotModel → BallotModel → Type 0) (strict : IsStrict above) (w : Cluster V) (p : Promised l above w) (f : Floors l above w) (q : Latest l above w) (k : Placed l above w) (r : Reported l above w) (h : Hosted l above w) (i : Name) where
  abbrev Part : Node V → Type 0
  Part = HostedPut l line above strict w p q k h i

  abbrev Turned : ℕ → Placement → Placement → Type 0
  Turned = Turns l line above strict w p q k h

  -- a node that asks or never asked is not the latest
  not_latest : (w.node i).activation ≡ None → w.latest ≡ Some i → ⊥
  not_latest none latest = let a = q.was_active i latest in not_acted l line above strict w p f i i a.0 a.1 none

  same_table : (e : ℕ → Placement) (s : ℕ) → Turned s (e s) (e s)
  same_table e s = turns_same l line above strict w p q k h s (e s)

  -- no change of the last ballot, the promises, the phase, the table and the activation
  still : (n : Node V) → (n.runs ≡ true → ((w.node i).runs ≡ true) ⊎ (Reached l above w i → ⊥)) → ((t : Trial V) → n.runs ≡ true → (w.node i).phase ≡ Asking t → runs l above w i)
      → Hosted l above (puts l above i (record n { last = (w.node i).last; promised = (w.node i).promised; phase = (w.node i).phase; activation = (w.node i).activation; table = (w.node i).table; marks = (w.node i).marks }) w)
  still n awake asks = hosted_put l line above strict w p q k h i (record n { last = (w.node i).last; promised = (w.node i).promised; phase = (w.node i).phase; activation = (w.node i).activation; table = (w.node i).table }) (record {
    awake = awake;
    lasts = λ b is. inl is;
    promises = λ b has. has;
    promised = λ b has. inl has;
    acts = λ a act. (a, act, refl);
    active = λ t is. (t, is, λ z has. has);
    tables = λ latest s. same_table (w.node i).table s;
    asks = λ t running asking. inl (t, (asks t running asking, asking, refl, refl));
  })

  -- the phase is over
  over : (n : Node V) (ph : Phase V) → ((t : Trial V) → IsLive l above ph t → ⊥) → (n.runs ≡ true → (w.node i).runs ≡ true)
      → Hosted l above (puts l above i (record n { last = (w.node i).last; promised = (w.node i).promised; phase = ph; activation = (w.node i).activation; table = (w.node i).table; marks = (w.node i).marks }) w)
  over n ph ended running = hosted_put l line above strict w p q k h i (record n { last = (w.node i).last; promised = (w.node i).promised; phase = ph; activation = (w.node i).activation; table = (w.node i).table }) (record {
    awake = λ is. inl (running is);
    lasts = λ b is. inl is;
    promises = λ b has. has;
    promised = λ b has. inl has;
    acts = λ a act. (a, act, refl);
    active = λ t is. absurd (ended t (subst (λ x. IsLive l above x t) (sym is) refl));
    tables = λ latest s. same_table (w.node i).table s;
    asks = λ t is_running is. absurd (ended t (subst (λ x. IsLive l above x t) (sym is) refl));
  })

  -- the table of the latest coordinator turns
  new_table : (e : ℕ → Placement) → (w.latest ≡ Some i → (s : ℕ) → Turned s ((w.node i).table s) (e s)) → ((t : Trial V) → (w.node i).phase ≡ Asking t → ⊥)
      → Hosted l above (puts l above i (record (w.node i) { table = e }) w)
  new_table e turns none = hosted_put l line above strict w p q k h i (record (w.node i) { table = e }) (record {
    awake = λ is. inl is;
    lasts = λ b is. inl is;
    promises = λ b has. has;
    promised = λ b has. inl has;
    acts = λ a act. (a, act, refl);
    active = λ t is. (t, is, λ z has. has);
    tables = turns;
    asks = λ t is_running is. absurd (none t is);
  })

  note_hosted : (v : V) → Allowed l above w (Move.Note i v) → Hosted l above (after l above w (Move.Note i v))
  note_hosted v (running, on, below, stays) = hosted_put l line above strict w p q k h i (record (w.node i) { settled = v; activation = with_latest l above v (w.node i).phase (w.node i).activation }) (record {
    awake = λ is. inl is;
    lasts = λ b is. inl is;
    promises = λ b has. has;
    promised = λ b has. inl has;
    acts = λ a is.
        let c = noted_from l line above strict w p f q i v (w.node i).phase (w.node i).activation a is in
        let b = noted l line above strict w p f q i v below (w.node i).phase refl c.0 c.1 in
        let same : b.0 ≡ a = same_Some b.0 a (sym b.1 ∙ ap (with_latest l above v (w.node i).phase) (sym c.1) ∙ is) in
        (c.0, c.1, sym b.2 ∙ ap (λ (x : Activation V). x.ballot) same);
    active = λ t is. (t, is, λ z has. has);
    tables = λ latest s. same_table (w.node i).table s;
    asks = λ t is_running is. inl (t, (running, is, refl, refl));
  })

  promise_hosted : (b : BallotModel) → (w.node i).runs ≡ true → IsNew l above (w.node i) b → Hosted l above (puts l above i (promises l above b (w.node i)) w)
  promise_hosted b running is_new = hosted_put l line above strict w p q k h i (promises l above b (w.node i)) (record {
    awake = λ is. inl is;
    lasts = λ c is. inr (λ has. new_unpromised l line above strict w p i b is_new (subst (Contains (w.node i).promised) (sym (same_Some b c is)) has));
    promises = λ c has. contains_rest b c (w.node i).promised has;
    promised = λ c has. elim (first_or_rest b c (w.node i).promised has) [ inl is ↦ inr running | inr old ↦ inl old ];
    acts = λ a act. (a, act, refl);
    active = λ t is. (t, is, λ z has. has);
    tables = λ latest s. same_table (w.node i).table s;
    asks = λ t is_running is. inl (t, (running, is, refl, refl));
  })

  -- a new ballot of the node's own
  open_hosted : (c : BallotModel) (t : Trial V) (e : ℕ → Placement) → (w.node i).runs ≡ true → c.unique ≡ i → t.ballot ≡ c → IsNew l above (w.node i) c → (w.node i).activation ≡ None
      → Hosted l above (puts l above i (record (promises l above c (w.node i)) { phase = Asking t; table = e }) w)
  open_hosted c t e running node is_ballot is_new none = hosted_put l line above strict w p q k h i (record (promises l above c (w.node i)) { phase = Asking t; table = e }) (record {
    awake = λ is. inl is;
    lasts = λ b is. inr (λ has. new_unpromised l line above strict w p i c is_new (subst (Contains (w.node i).promised) (sym (same_Some c b is)) has));
    promises = λ b has. contains_rest c b (w.node i).promised has;
    promised = λ b has. elim (first_or_rest c b (w.node i).promised has) [ inl is ↦ inr running | inr old ↦ inl old ];
    acts = λ a act. (a, act, refl);
    active = λ u is. absurd (cc);
    tables = λ latest s. absurd (not_latest none latest);
    asks = λ u is_running is. inr ((λ z other has. fresh z (subst (Contains (w.node z).promised) (sym (ballot_in u is) ∙ is_ballot) has)), running);
  })
    where
      fresh : (z : Name) → Contains (w.node z).promised c → ⊥
      fresh z has = new_unpromised l line above strict w p i c is_new (subst (λ j. Contains (w.node j).promised c) node (p.known z c has))

      ballot_in : (u : Trial V) → Asking t ≡ Asking u → t.ballot ≡ u.ballot
      ballot_in u is = cc

  -- ---- a report is learnt
  granted_active : (z : Name) (g : V) (ph : Phase V) (u : Trial V) → with_grant l above z g ph ≡ Active u → (s : Trial V) × (ph ≡ Active s) × ((x : Name) → Contains s.granted x → Contains u.granted x)
  granted_active z g Younger u is = absurd (cc)
  granted_active z g (Asking s) u is = absurd (cc)
  granted_active z g (Active s) u is = (s, refl, λ x has. subst (λ a. Contains a x) (more s u is) (contains_rest z x s.granted has))
    where
      more : (s u : Trial V) → ◌≡◌ {A = Phase V} (Active (record s { granted = z ∷ s.granted; floor = l.merged s.floor g })) (Active u) → z ∷ s.granted ≡ u.granted
      more s u is = cc
  granted_active z g Ended u is = absurd (cc)

  live_phase : (ph : Phase V) (t : Trial V) → IsLive l above ph t → (ph ≡ Asking t) ⊎ (ph ≡ Active t)
  live_phase Younger t live = absurd live
  live_phase (Asking s) t live = inl (ap Asking live)
  live_phase (Active s) t live = inr (ap Active live)
  live_phase Ended t live = absurd live

  accept_hosted : (t : Trial V) (z : Name) (g : V) (m : ℕ → Mark) (e : ℕ → Placement) → Allowed l above w (Move.Accept i t z g m e) → Hosted l above (after l above w (Move.Accept i t z g m e))
  accept_hosted t z g m e (running, live_t, sent, unheard, stays, learns) = hosted_put l line above strict w p q k h i (record (w.node i) { phase = with_grant l above z g (w.node i).phase; table = e }) (record {
    awake = λ is. inl is;
    lasts = λ b is. inl is;
    promises = λ b has. has;
    promised = λ b has. inl has;
    acts = λ a act. (a, act, refl);
    active = λ u is. granted_active z g (w.node i).phase u is;
    tables = λ latest s. elim (live_phase (w.node i).phase t live_t) [
      | inl asking ↦ absurd (not_latest (p.before i (inr (t, asking))) latest)
      | inr active ↦ turns latest active s
    ];
    asks = λ u is_running is.
        let s = granted_asking l line above strict w p f k r i z g (w.node i).phase u is in
        inl (s.0, (running, s.1, ap (λ (x : Trial V). x.ballot) s.2, ap (λ (x : Trial V). x.opened) s.2));
  })
    where
      not_asking : (u v : Trial V) → (w.node i).phase ≡ Active u → (w.node i).phase ≡ Asking v → ⊥
      not_asking u v active asking = differ (sym active ∙ asking)
        where
          differ : Active u ≡ Asking v → ⊥
          differ is = absurd (cc)

      -- a node that reports a hosted shard, and has not granted, does not run
      stopped : (s : ℕ) → w.latest ≡ Some i → (w.node i).phase ≡ Active t → (m s).hosts ≡ true → runs l above w z → ⊥
      stopped s latest active hosts runs_z =
          let a = q.was_active i latest in
          let told = k.reported z t.ballot g m s sent in
          unheard ((h.needed i z a.0 latest a.1 runs_z (inl (s, lt_of_lt_of_le (told.1 hosts) told.0))).1 t active)

      turns : w.latest ≡ Some i → (w.node i).phase ≡ Active t → (s : ℕ) → Turned s ((w.node i).table s) (e s)
      turns latest active s = elim (learns s).home [
        | inl kept ↦ record { last = (learns s).keeps; home = inl kept.0; fresh = λ b at. inl (sym kept.0 ∙ at) }
        | inr new ↦ record {
          last = (learns s).keeps;
          home = inr ((λ x runs_x hosts at. not_asking t t active (new.2 (record { node = x; number = ((w.node x).marks s).number }) at).0), (λ x n runs_x at. absurd (not_asking t t active (new.2 (record { node = x; number = n }) at).0)));
          fresh = λ b at. inr (inr (λ runs_b. stopped s latest active new.1 (subst (λ (x : Home). runs l above w x.node) (same_Some b (record { node = z; number = (m s).number }) (sym at ∙ new.0)) runs_b)));
        }
      ]

  -- ---- the coordinator's own moves
  module _ (t : Trial V) (running : (w.node i).runs ≡ true) (active : (w.node i).phase ≡ Active t) where
    active_live : IsLive l above (w.node i).phase t
    active_live = subst (λ ph. IsLive l above ph t) (sym active) refl

    never_asks : (u : Trial V) → (w.node i).phase ≡ Asking u → ⊥
    never_asks u asking = differ (sym active ∙ asking)
      where
        differ : Active t ≡ Asking u → ⊥
        differ is = absurd (cc)

    assign_hosted : (s : ℕ) (x : Name) → Allowed l above w (Move.Assign i t s x) → Hosted l above (after l above w (Move.Assign i t s x))
    assign_hosted s x (is_running, is_active, free, aged, granted) = new_table (put_at s (assigned x ((w.node i).table s)) (w.node i).table)
        (λ latest j. at_put (λ (e : Placement). Turned j ((w.node i).table j) e) s (assigned x ((w.node i).table s)) (w.node i).table j
        (λ is. subst (λ c. Turned c ((w.node i).table c) (assigned x ((w.node i).table s))) (sym is) (record {
          last = (let y = ((w.node i).table s).last in omega arith);
          home = inr ((λ z runs_z hosts at. none (record { node = z; number = ((w.node z).marks s).number }) (sym free ∙ at)), (λ z n runs_z at. absurd (none (record { node = z; number = n }) (sym free ∙ at))));
          fresh = λ b at. inr (inl (subst (λ (c : Home). ((w.node i).table s).last < c.number) (same_Some (record { node = x; number = suc ((w.node i).table s).last }) b at) (let y = ((w.node i).table s).last in omega arith)));
        }))
        (λ other. same_table (w.node i).table j))
        never_asks
      where
        none : (b : Home) → None ≡ Some b → ⊥
        none b is = absurd (cc)

    free_hosted : (s : ℕ) (b : Home) → Allowed l above w (Move.Free i t s b) → Hosted l above (after l above w (Move.Free i t s b))
    free_hosted s b (is_running, is_active, at_b, cases) = new_table (put_at s (freed ((w.node i).table s)) (w.node i).table)
        (λ latest j. at_put (λ (e : Placement). Turned j ((w.node i).table j) e) s (freed ((w.node i).table s)) (w.node i).table j
        (λ is. subst (λ c. Turned c ((w.node i).table c) (freed ((w.node i).table s))) (sym is) (record {
          last = (let y = ((w.node i).table s).last in omega arith);
          home = inr ((λ z runs_z hosts at. vacant z runs_z hosts (same_Some b (record { node = z; number = ((w.node z).marks s).number }) (sym at_b ∙ at))), (λ z n runs_z at. fence z n runs_z (same_Some b (record { node = z; number = n }) (sym at_b ∙ at))));
          fresh = λ c at. absurd (cc);
        }))
        (λ other. same_table (w.node i).table j))
        never_asks
      where
        -- the home has stopped, or it stopped the shard with its number
        vacant : (z : Name) → runs l above w z → ((w.node z).marks s).hosts ≡ true → b ≡ record { node = z; number = ((w.node z).marks s).number } → ⊥
        vacant z runs_z hosts is = elim cases [
          | inl finished ↦ true≢false (sym runs_z ∙ subst (λ (c : Home). (w.node c.node).runs ≡ false) is (p.finished i b.node finished).0)
          | inr sent ↦
              let told = subst (λ (c : Home). (c.number ≤ ((w.node c.node).marks s).number) × (((w.node c.node).marks s).hosts ≡ true → c.number < ((w.node c.node).marks s).number)) is (k.stopped b.node t.ballot s b.number sent) in
              let less = told.1 hosts in omega (arith, less)
        ]

        fence : (z : Name) (n : ℕ) → runs l above w z → b ≡ record { node = z; number = n } → n ≤ ((w.node z).marks s).number
        fence z n runs_z is = elim cases [
          | inl finished ↦ absurd (true≢false (sym runs_z ∙ subst (λ (c : Home). (w.node c.node).runs ≡ false) is (p.finished i b.node finished).0))
          | inr sent ↦ subst (λ (c : Home). c.number ≤ ((w.node c.node).marks s).number) is (k.stopped b.node t.ballot s b.number sent).0
        ]

    abbrev target : Said V → Name
    target (Ask b) = i
    target (Granted b g m) = i
    target (Released b g) = i
    target (HandedOver b g) = i
    target (Names b) = i
    target (HostShard b to s n) = to
    target (HandOff b to s n) = to
    target (ShardStopped b s n) = i

    -- the home of a shard granted the coordinator that tells it of the shard
    home_granted : (s : ℕ) (b : Home) → ((w.node i).table s).home ≡ Some b → (j : Name) (a : Activation V) → w.latest ≡ Some j → (w.node j).activation ≡ Some a
        → Contains (w.node b.node).promised a.ballot × ((u : Trial V) → (w.node j).phase ≡ Active u → Contains u.granted b.node)
    home_granted s b at j a latest act =
        let is : i ≡ j = same_Some i j (sym (q.current i t running active) ∙ latest) in
        let mine : (w.node i).activation ≡ Some a = subst (λ x. (w.node x).activation ≡ Some a) (sym is) act in
        let granted : Contains t.granted b.node = k.granted i t s b active_live at in (
          subst (Contains (w.node b.node).promised) ((p.activations i a mine).current t active).0 (p.granters i b.node t active_live granted),
          λ u phase. subst (λ (x : Trial V). Contains x.granted b.node) (one_live l line above strict w p i (w.node i).phase t u active_live (subst (λ ph. IsLive l above ph u) (sym (subst (λ x. (w.node x).phase ≡ Active u) (sym is) phase)) refl)) granted,
        )

    order_hosted : (s : ℕ) (b : Home) → ((w.node i).table s).home ≡ Some b → Hosted l above (says l above i (HostShard t.ballot b.node s b.number) w)
    order_hosted s b at = hosted_said l above w h i (HostShard t.ballot b.node s b.number)
        (λ x c j n is.
        subst (λ y. (w.latest ≡ Some y.unique) × (((w.node y.unique).table j).home ≡ Some (record { node = x; number = n }))) (ap ballot_of is)
        (subst (λ y. (w.latest ≡ Some y) × (((w.node y).table j).home ≡ Some (record { node = x; number = n }))) (sym (p.own i t active_live).2)
        (q.current i t running active, subst (λ y. ((w.node i).table y).home ≡ Some (record { node = x; number = n })) (shard_of x c j n is) (at ∙ ap Some (home_of x c j n is)))))
        (λ j x a c y n is latest act. elim is [
          | inl one ↦ subst (λ d. Contains (w.node d).promised a.ballot × ((u : Trial V) → (w.node j).phase ≡ Active u → Contains u.granted d)) (ap target one) (home_granted s b at j a latest act)
          | inr two ↦ absurd (cc)
        ])
      where
        shard_of : (x : Name) (c : BallotModel) (j n : ℕ) → ◌≡◌ {A = Said V} (HostShard t.ballot b.node s b.number) (HostShard c x j n) → s ≡ j
        shard_of x c j n is = cc

        number_of : (x : Name) (c : BallotModel) (j n : ℕ) → ◌≡◌ {A = Said V} (HostShard t.ballot b.node s b.number) (HostShard c x j n) → b.number ≡ n
        number_of x c j n is = cc

        home_of : (x : Name) (c : BallotModel) (j n : ℕ) → ◌≡◌ {A = Said V} (HostShard t.ballot b.node s b.number) (HostShard c x j n) → b ≡ record { node = x; number = n }
        home_of x c j n is = subst (λ y. b ≡ record { node = y; number = n }) (ap target is) (subst (λ y. b ≡ record { node = b.node; number = y }) (number_of x c j n is) refl)

    recall_hosted : (s : ℕ) (b : Home) → ((w.node i).table s).home ≡ Some b → Hosted l above (says l above i (HandOff t.ballot b.node s b.number) w)
    recall_hosted s b at = hosted_said l above w h i (HandOff t.ballot b.node s b.number)
        (λ x c j n is. absurd (cc))
        (λ j x a c y n is latest act. elim is [
          | inl one ↦ absurd (cc)
          | inr two ↦ subst (λ d. Contains (w.node d).promised a.ballot × ((u : Trial V) → (w.node j).phase ≡ Active u → Contains u.granted d)) (ap target two) (home_granted s b at j a latest act)
        ])

  -- ---- a node hosts a shard, and hands it off
  host_hosted : (b : BallotModel) (s n : ℕ) → Allowed l above w (Move.Host i b s n) → Hosted l above (after l above w (Move.Host i b s n))
  host_hosted b s n (running, last, from, unhosted, greater) = hosted_marks l line above strict w p q k h i (put_at s (record { number = n; hosts = true }) (w.node i).marks)
      (λ j. at_put (λ (x : Mark). ((w.node i).marks j).number ≤ x.number) s (record { number = n; hosts = true }) (w.node i).marks j
      (λ is. subst (λ c. ((w.node i).marks c).number ≤ n) (sym is) (let x = ((w.node i).marks s).number in omega (arith, greater))) (λ other. let x = ((w.node i).marks j).number in omega arith))
      (inr (b, s, n, (from.0, inl from.1)))
      (λ j is_running. at_put (λ (x : Mark). x.hosts ≡ true → (y : Name) × (w.latest ≡ Some y) × (((w.node y).table j).home ≡ Some (record { node = i; number = x.number }))) s (record { number = n; hosts = true }) (w.node i).marks j
      (λ is hosts. let x = h.fenced from.0 i b s n from.1 running last in
      (b.unique, x.0, subst (λ c. ((w.node b.unique).table c).home ≡ Some (record { node = i; number = n })) (sym is) (elim x.1 [ inl below ↦ absurd (omega (arith, below, greater)) | inr home ↦ home ])))
      (λ other hosts. h.housed i j running hosts))
      (λ y t runs_y asking promised. untouched l line above strict w p f k r i y t b runs_y asking promised last (k.directed i b s n (from.0, inl from.1)).2)

  yield_hosted : (b : BallotModel) (s n : ℕ) → Allowed l above w (Move.Yield i b s n) → Hosted l above (after l above w (Move.Yield i b s n))
  yield_hosted b s n (running, last, from) = hosted_marks l line above strict w p q k h i (put_at s (yielded n ((w.node i).marks s)) (w.node i).marks)
      (λ j. at_put (λ (x : Mark). ((w.node i).marks j).number ≤ x.number) s (yielded n ((w.node i).marks s)) (w.node i).marks j
      (λ is. subst (λ c. ((w.node i).marks c).number ≤ (yielded n ((w.node i).marks s)).number) (sym is) (le-max_left ((w.node i).marks s).number n)) (λ other. let x = ((w.node i).marks j).number in omega arith))
      (inr (b, s, n, (from.0, inr from.1)))
      (λ j is_running. at_put (λ (x : Mark). x.hosts ≡ true → (y : Name) × (w.latest ≡ Some y) × (((w.node y).table j).home ≡ Some (record { node = i; number = x.number }))) s (yielded n ((w.node i).marks s)) (w.node i).marks j
      (λ is hosts.
      let old = yielded_hosts n ((w.node i).marks s) hosts in
      let same : ((w.node i).marks s).number ≡ (yielded n ((w.node i).marks s)).number = sym (max-eq_left (let less = old.1 in omega (arith, less))) in
      let x = h.housed i s running old.0 in
      (x.0, x.1, subst (λ c. ((w.node x.0).table c).home ≡ Some (record { node = i; number = (yielded n ((w.node i).marks s)).number })) (sym is) (x.2 ∙ ap (λ c. Some (record { node = i; number = c })) same)))
      (λ other hosts. h.housed i j running hosts))
      (λ y t runs_y asking promised. untouched l line above strict w p f k r i y t b runs_y asking promised last (k.directed i b s n (from.0, inr from.1)).2)

-- ---- each move
module _ {V : Type 0} (l : Line V) (line : IsLine V l) (above : BallotModel → BallotModel → Type 0) (strict : IsStrict above) (w : Cluster V) (p : Promised l above w) (f : Floors l above w) (q : Latest l above w) (k : Placed l above w) (r : Reported l above w) (h : Hosted l above w) where
  same : (i : Name) (n : Node V) → (n.runs ≡ true → (w.node i).runs ≡ true)
      → Hosted l above (puts l above i (record n { last = (w.node i).last; promised = (w.node i).promised; phase = (w.node i).phase; activation = (w.node i).activation; table = (w.node i).table; marks = (w.node i).marks }) w)
  same i n running = still l line above strict w p f q k r h i n (λ is. inl (running is)) (λ t is asking. running is)

  pub hosted_kept : (m : Move V) → Allowed l above w m → Hosted l above (after l above w m)
  hosted_kept (Move.Start i) (is_blank, unheard) = still l line above strict w p f q k r h i (record (w.node i) { runs = true })
      (λ is. inr (λ reached. (unheard reached.0).0 (line.still_aged reached.1.latest (w.node reached.0).settled i (p.activations reached.0 reached.1 reached.2).within reached.3)))
      (λ t is asking. absurd (differ t (ap (λ (n : Node V). n.phase) (sym is_blank) ∙ asking)))
    where
      differ : (t : Trial V) → Younger ≡ Asking t → ⊥
      differ t is = absurd (cc)
  hosted_kept (Move.Stop i) x = same i (record (w.node i) { runs = false }) (λ is. absurd (true≢false (sym is)))
  hosted_kept (Move.Note i v) x = note_hosted l line above strict w p f q k r h i v x
  hosted_kept (Move.Find i z) x = same i (record (w.node i) { finished = z ∷ (w.node i).finished }) (λ is. is)
  hosted_kept (Move.Promise i b) (running, asked, is_new, is_free) = hosted_silent l above (puts l above i (promises l above b (w.node i)) w) (promise_hosted l line above strict w p f q k r h i b running is_new) i (Granted b (l.merged (w.node i).floor (w.node i).settled) (w.node i).marks) tt
  hosted_kept (Move.Repeat i b) x = hosted_silent l above w h i (Granted b (l.merged (w.node i).floor (w.node i).settled) (w.node i).marks) tt
  hosted_kept (Move.Open i c) (running, younger, candidate, node, is_new, is_free) =
      open_hosted l line above strict w p f q k r h i c (record { ballot = c; granted = i ∷ []; floor = l.merged (w.node i).floor (w.node i).settled; opened = (w.node i).settled }) (λ s. own_placement i ((w.node i).marks s)) running node refl is_new (p.before i (inl younger))
  hosted_kept (Move.Reopen i t c) (running, asking, node, higher) =
      let own = p.own i t (subst (λ ph. IsLive l above ph t) (sym asking) refl) in
      open_hosted l line above strict w p f q k r h i c (record t { ballot = c; granted = i ∷ [] }) (λ s. own_placement i ((w.node i).marks s)) running node refl (λ d last. subst (above c) (same_Some t.ballot d (sym own.0 ∙ last)) higher) (p.before i (inr (t, asking)))
  hosted_kept (Move.Close i t ph) (running, cases) = hosted_silent l above (puts l above i (record (w.node i) { released = true; floor = l.merged (w.node i).floor (w.node i).settled; phase = ph }) w)
      (over l line above strict w p f q k r h i (record (w.node i) { released = true; floor = l.merged (w.node i).floor (w.node i).settled }) ph
      (λ u live. elim cases [
        | inl asking ↦ elim asking.1 [ inl is ↦ subst (λ x. IsLive l above x u) is live | inr is ↦ subst (λ x. IsLive l above x u) is live ]
        | inr active ↦ subst (λ x. IsLive l above x u) active.1 live
      ]) (λ is. is)) i (Released t.ballot (w.node i).settled) tt
  hosted_kept (Move.Retire i) x = over l line above strict w p f q k r h i (w.node i) Ended (λ t live. live) (λ is. is)
  hosted_kept (Move.Accept i t z g m e) x = accept_hosted l line above strict w p f q k r h i t z g m e x
  hosted_kept (Move.Activate i t) x = activate_hosted l line above strict w p f q k r h i t x
  hosted_kept (Move.Solicit i t) x = hosted_silent l above w h i (Ask t.ballot) tt
  hosted_kept (Move.HandOver i b) x = hosted_silent l above w h i (HandedOver b (w.node i).settled) tt
  hosted_kept (Move.Pass i b g) x = hosted_silent l above w h i (Released b g) tt
  hosted_kept (Move.Release i b g) x = same i (record (w.node i) { released = true; floor = l.merged (w.node i).floor g }) (λ is. is)
  hosted_kept (Move.Say i b) x = hosted_silent l above w h i (Names b) tt
  hosted_kept (Move.Assign i t s j) x = assign_hosted l line above strict w p f q k r h i t x.0 x.1 s j x
  hosted_kept (Move.Free i t s b) x = free_hosted l line above strict w p f q k r h i t x.0 x.1 s b x
  hosted_kept (Move.Order i t s b) x = order_hosted l line above strict w p f q k r h i t x.0 x.1 s b x.2
  hosted_kept (Move.Recall i t s b) x = recall_hosted l line above strict w p f q k r h i t x.0 x.1 s b x.2
  hosted_kept (Move.Host i b s n) x = host_hosted l line above strict w p f q k r h i b s n x
  hosted_kept (Move.Yield i b s n) x = yield_hosted l line above strict w p f q k r h i b s n x
  hosted_kept (Move.Confirm i b s n) x = hosted_silent l above w h i (ShardStopped b s n) tt
