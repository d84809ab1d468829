-- What is true of hosts stays true where one node is changed so that it has its part of it, and where one packet more is sent.
use Rattle.std.proofs.Common.{◌≡◌, ℕ, ◌<◌, ◌≤◌, true, ◌⊎◌, inl, inr, Some, Contains, refl, sym, ap, ◌∙◌, subst, arith, le_trans, lt_of_le_of_lt}
use Rattle.std.proofs.lemmas.Option.{same_Some}
use Rattle.ak_line.specs.Name.{Name}
use Rattle.ak_promise.specs.Ballot.{BallotModel}
use Rattle.ak_line.specs.Line.{Line, IsLine, IsStrict}
use Rattle.ak_line.specs.Shards.{Mark, Home, Placement}
use Rattle.ak_line.specs.Moves.{Node, Trial, Asking, Active, Activation, Said, Ask, Granted, Released, HandedOver, Names, HostShard, HandOff, ShardStopped, Packet, Cluster, set, puts, says, Sent, runs}
use Rattle.ak_line.specs.Promised.{Promised}
use Rattle.ak_line.specs.Floors.{Latest}
use Rattle.ak_line.specs.Placed.{Reached, Placed}
use Rattle.ak_line.specs.Hosted.{Touched, IsStale, Hosted}
use Rattle.ak_address.proofs.Elements.{first_or_rest}
use Rattle.ak_line.proofs.Puts.{at_set, from_set}

module _ {V : Type 0} (l : Line V) (line : IsLine V l) (above : BallotModel → BallotModel → Type 0) (strict : IsStrict above) (w : Cluster V) (p : Promised l above w) (q : Latest l above w) (k : Placed l above w) (h : Hosted l above w) where
  -- who has to do with shards was reached by some activation
  pub touched_reached : (r : Name) → Touched l above w r → Reached l above w r
  touched_reached r (inl (s, more)) = k.marked r s more
  touched_reached r (inr (b, s, n, told)) = (k.directed r b s n told).1

  pub hosts_reached : (r : Name) (s : ℕ) → ((w.node r).marks s).hosts ≡ true → Reached l above w r
  hosts_reached r s hosts = k.marked r s (k.hosted r s hosts)

  pub latest_reached : (i : Name) → w.latest ≡ Some i → Reached l above w i
  latest_reached i latest =
      let a = q.was_active i latest in
      let c = p.activations i a.0 a.1 in
      (i, a.0, a.1, line.still_aged a.0.first a.0.latest i c.rose c.itself)

  -- a running host's own number is not stale
  running_stale : (z : Name) (s : ℕ) → runs l above w z → ((w.node z).marks s).hosts ≡ true → IsStale l above w z s
  running_stale z s running hosts =
      let x = h.housed z s running hosts in
      let own : Home = record { node = z; number = ((w.node z).marks s).number } in
      (x.0, x.1, (k.home x.0 s own x.2).1, λ b at runs_b other. absurd (other (ap (λ (c : Home). c.node) (same_Some b own (sym at ∙ x.2)))))

  -- ---- what may become of a shard's placement in the latest table
  pub record Turns (s : ℕ) (old new : Placement) : Type 0 where
    pub last : old.last ≤ new.last
    -- the home stays, or no running node hosts the shard or may come to host it by the old home
    pub home : (new.home ≡ old.home) ⊎ (((r : Name) → runs l above w r → ((w.node r).marks s).hosts ≡ true → old.home ≡ Some (record { node = r; number = ((w.node r).marks s).number }) → ⊥)
        × ((r : Name) (m : ℕ) → runs l above w r → old.home ≡ Some (record { node = r; number = m }) → m ≤ ((w.node r).marks s).number))
    -- a new home has a new number, or does not run
    pub fresh : (b : Home) → new.home ≡ Some b → (old.home ≡ Some b) ⊎ (old.last < b.number) ⊎ (runs l above w b.node → ⊥)

  pub turns_same : (s : ℕ) (e : Placement) → Turns s e e
  turns_same s e = record { last = (let x = e.last in omega arith); home = inl refl; fresh = λ b at. inl at }

  -- one part for the changed node, whose marks are the same
  pub record HostedPut (i : Name) (n : Node V) : Type 0 where
    pub awake : n.runs ≡ true → ((w.node i).runs ≡ true) ⊎ (Reached l above w i → ⊥)
    pub lasts : (b : BallotModel) → n.last ≡ Some b → ((w.node i).last ≡ Some b) ⊎ (Contains (w.node i).promised b → ⊥)
    pub promises : (b : BallotModel) → Contains (w.node i).promised b → Contains n.promised b
    -- a promise is made by a running node
    pub promised : (b : BallotModel) → Contains n.promised b → Contains (w.node i).promised b ⊎ runs l above w i
    pub acts : (a : Activation V) → n.activation ≡ Some a → (b : Activation V) × ((w.node i).activation ≡ Some b) × (b.ballot ≡ a.ballot)
    pub active : (t : Trial V) → n.phase ≡ Active t → (u : Trial V) × ((w.node i).phase ≡ Active u) × ((r : Name) → Contains u.granted r → Contains t.granted r)
    pub tables : w.latest ≡ Some i → (s : ℕ) → Turns s ((w.node i).table s) (n.table s)
    -- an asking is as before, or nobody else promised its ballot
    pub asks : (t : Trial V) → n.runs ≡ true → n.phase ≡ Asking t
        → ((u : Trial V) × (runs l above w i × ((w.node i).phase ≡ Asking u) × (u.ballot ≡ t.ballot) × (u.opened ≡ t.opened))) ⊎ (((z : Name) → (z ≡ i → ⊥) → Contains (w.node z).promised t.ballot → ⊥) × runs l above w i)

  module _ (i : Name) (n0 : Node V) (part : HostedPut i (record n0 { marks = (w.node i).marks })) where
    abbrev n : Node V
    n = record n0 { marks = (w.node i).marks }

    abbrev v : Cluster V
    v = puts l above i n w

    marks_same : (z : Name) → (set l above i n w.node z).marks ≡ (w.node z).marks
    marks_same z = at_set l line above (λ m. m.marks ≡ (w.node z).marks) i n w.node z (λ is. ap (λ j. (w.node j).marks) (sym is)) (λ other. refl)

    mark_same : (z : Name) (s : ℕ) → (set l above i n w.node z).marks s ≡ (w.node z).marks s
    mark_same z s = ap (λ (m : ℕ → Mark). m s) (marks_same z)

    woke : (r : Name) → runs l above v r → Reached l above w r → runs l above w r
    woke r running reached = elim (from_set l line above (λ m. m.runs ≡ true) i n w.node r running) [
      | inl here ↦ elim (part.awake here.1) [
        | inl was ↦ subst (λ j. (w.node j).runs ≡ true) (sym here.0) was
        | inr never ↦ absurd (never (subst (Reached l above w) here.0 reached))
      ]
      | inr there ↦ there.1
    ]

    -- where the changed node is the latest, what runs afterwards ran before
    woke_latest : w.latest ≡ Some i → (r : Name) → runs l above v r → runs l above w r
    woke_latest latest r running = elim (from_set l line above (λ m. m.runs ≡ true) i n w.node r running) [
      | inl here ↦ woke r running (subst (Reached l above w) (sym here.0) (latest_reached i latest))
      | inr there ↦ there.1
    ]

    table_turns : (j : Name) (s : ℕ) → w.latest ≡ Some j → Turns s ((w.node j).table s) ((set l above i n w.node j).table s)
    table_turns j s latest = at_set l line above (λ m. Turns s ((w.node j).table s) (m.table s)) i n w.node j
        (λ is. subst (λ x. Turns s ((w.node x).table s) (n.table s)) (sym is) (part.tables (latest ∙ ap Some is) s)) (λ other. turns_same s ((w.node j).table s))

    stale_put : (z : Name) (s : ℕ) → IsStale l above w z s → IsStale l above v z s
    stale_put z s (j, latest, below, less) =
        let t = table_turns j s latest in
        subst (λ (m : Mark). (i : Name) × (w.latest ≡ Some i) × (m.number ≤ ((v.node i).table s).last) × ((b : Home) → ((v.node i).table s).home ≡ Some b → runs l above v b.node → (b.node ≡ z → ⊥) → m.number < b.number)) (sym (mark_same z s)) (
          j,
          latest,
          le_trans below t.last,
          λ b at running other. elim (t.fresh b at) [
            | inl old ↦ less b old (woke b.node running (k.home j s b old).0) other
            | inr rest ↦ elim rest [
              | inl new ↦ lt_of_le_of_lt below new
              | inr stopped ↦ absurd (gone j s b latest at running stopped)
            ]
          ],
        )
      where
        -- a new home that does not run before does not run afterwards
        gone : (j : Name) (s : ℕ) (b : Home) → w.latest ≡ Some j → ((set l above i n w.node j).table s).home ≡ Some b → runs l above v b.node → (runs l above w b.node → ⊥) → ⊥
        gone j s b latest at running stopped = elim (from_set l line above (λ m. (m.table s).home ≡ Some b) i n w.node j at) [
          | inl here ↦ stopped (woke_latest (latest ∙ ap Some here.0) b.node running)
          | inr there ↦ stopped (woke b.node running (k.home j s b there.1).0)
        ]

    promised_or_runs : (z : Name) (b : BallotModel) → Contains (set l above i n w.node z).promised b → Contains (w.node z).promised b ⊎ runs l above w z
    promised_or_runs z b has = elim (from_set l line above (λ m. Contains m.promised b) i n w.node z has) [
      | inl here ↦ subst (λ j. Contains (w.node j).promised b ⊎ runs l above w j) (sym here.0) (part.promised b here.1)
      | inr there ↦ inl there.1
    ]

    stale_before : (y z : Name) (t : Trial V) (s : ℕ) → runs l above v y → (v.node y).phase ≡ Asking t → Contains (v.node z).promised t.ballot → (l.removed t.opened z → ⊥) → ((w.node z).marks s).hosts ≡ true → IsStale l above w z s
    stale_before y z t s running asking has stays hosts = elim (promised_or_runs z t.ballot has) [
      | inl old ↦ elim (from_set l line above (λ m. (m.runs ≡ true) × (m.phase ≡ Asking t)) i n w.node y (running, asking)) [
        | inl here ↦ elim (part.asks t here.1.0 here.1.1) [
          | inl same ↦ h.stale i z same.0 s same.1.0 same.1.1 (subst (Contains (w.node z).promised) (sym same.1.2) old) (λ gone. stays (subst (λ x. l.removed x z) same.1.3 gone)) hosts
          | inr only ↦ elim (from_set l line above (λ m. m.runs ≡ m.runs) i n w.node z refl) [
            | inl mine ↦ running_stale z s (subst (runs l above w) (sym mine.0) only.1) hosts
            | inr other ↦ absurd (only.0 z other.0 old)
          ]
        ]
        | inr there ↦ h.stale y z t s there.1.0 there.1.1 old stays hosts
      ]
      | inr runs_z ↦ running_stale z s runs_z hosts
    ]

    touched_before : (r : Name) → Touched l above v r → Touched l above w r
    touched_before r (inl (s, more)) = inl (s, subst (λ (m : Mark). 0 < m.number) (mark_same r s) more)
    touched_before r (inr there) = inr there

    housed_put : (r : Name) (s : ℕ) → runs l above v r → ((w.node r).marks s).hosts ≡ true → (j : Name) × (w.latest ≡ Some j) × (((v.node j).table s).home ≡ Some (record { node = r; number = ((w.node r).marks s).number }))
    housed_put r s running hosts =
        let ran = woke r running (hosts_reached r s hosts) in
        let x = h.housed r s ran hosts in
        (x.0, x.1, elim ((table_turns x.0 s x.1).home) [ inl same ↦ same ∙ x.2 | inr vacant ↦ absurd (vacant.0 r ran hosts x.2) ])

    pub hosted_put : Hosted l above (puts l above i (record n0 { marks = (w.node i).marks }) w)
    hosted_put = record {
      housed = λ r s running. subst (λ (m : Mark). m.hosts ≡ true → (j : Name) × (w.latest ≡ Some j) × (((v.node j).table s).home ≡ Some (record { node = r; number = m.number }))) (sym (mark_same r s)) (housed_put r s running);
      fenced = λ z r b s m sent running last.
          let told = k.directed r b s m (z, inl sent) in
          let ran = woke r running told.1 in
          let was : (w.node r).last ≡ Some b = elim (from_set l line above (λ x. x.last ≡ Some b) i n w.node r last) [
            | inl here ↦ elim (part.lasts b here.1) [
              | inl old ↦ subst (λ j. (w.node j).last ≡ Some b) (sym here.0) old
              | inr new ↦ absurd (new (subst (λ j. Contains (w.node j).promised b) here.0 told.0))
            ]
            | inr there ↦ there.1
          ] in
          let x = h.fenced z r b s m sent ran was in (
            x.0,
            subst (λ (y : Mark). (m ≤ y.number) ⊎ (((v.node b.unique).table s).home ≡ Some (record { node = r; number = m }))) (sym (mark_same r s)) (elim x.1 [
              | inl marked ↦ inl marked
              | inr home ↦ elim ((table_turns b.unique s x.0).home) [ inl same ↦ inr (same ∙ home) | inr vacant ↦ inl (vacant.1 r m ran home) ]
            ]),
          );
      needed = λ j r a latest act running touched.
          let t = touched_before r touched in
          let ran = woke r running (touched_reached r t) in
          let b : (b : Activation V) × ((w.node j).activation ≡ Some b) × (b.ballot ≡ a.ballot) = elim (from_set l line above (λ m. m.activation ≡ Some a) i n w.node j act) [
            | inl here ↦ subst (λ x. (b : Activation V) × ((w.node x).activation ≡ Some b) × (b.ballot ≡ a.ballot)) (sym here.0) (part.acts a here.1)
            | inr there ↦ (a, there.1, refl)
          ] in
          let x = h.needed j r b.0 latest b.1 ran t in (
            at_set l line above (λ m. Contains m.promised a.ballot) i n w.node r
                (λ is. part.promises a.ballot (subst (λ y. Contains (w.node y).promised a.ballot) is (subst (Contains (w.node r).promised) b.2 x.0)))
                (λ other. subst (Contains (w.node r).promised) b.2 x.0),
            λ u phase. elim (from_set l line above (λ m. m.phase ≡ Active u) i n w.node j phase) [
              | inl here ↦ let y = part.active u here.1 in y.2 r (x.1 y.0 (subst (λ z. (w.node z).phase ≡ Active y.0) (sym here.0) y.1))
              | inr there ↦ x.1 u there.1
            ],
          );
      stale = λ y z t s running asking has stays hosts. stale_put z s (stale_before y z t s running asking has stays (subst (λ (m : Mark). m.hosts ≡ true) (mark_same z s) hosts));
    }

  -- ---- new marks alone
  module _ (i : Name) (m : ℕ → Mark) (grow : (s : ℕ) → ((w.node i).marks s).number ≤ (m s).number) (touched : Touched l above w i)
      (housed : (s : ℕ) → runs l above w i → (m s).hosts ≡ true → (j : Name) × (w.latest ≡ Some j) × (((w.node j).table s).home ≡ Some (record { node = i; number = (m s).number })))
      (untouched : (y : Name) (t : Trial V) → runs l above w y → (w.node y).phase ≡ Asking t → Contains (w.node i).promised t.ballot → ⊥) where
    abbrev marked : Node V
    marked = record (w.node i) { marks = m }

    -- all but the marks is the same
    alike : (P : Node V → Type 0) → ((x : Node V) → P x → P (record x { marks = (w.node i).marks })) → (z : Name) → P (set l above i marked w.node z) → ((z ≡ i) × P (w.node i)) ⊎ ((z ≡ i → ⊥) × P (w.node z))
    alike P drop z has = elim (from_set l line above P i marked w.node z has) [
      | inl here ↦ inl (here.0, drop marked here.1)
      | inr there ↦ inr there
    ]

    unchanged : (P : Node V → Type 0) → ((x : Node V) → P x → P (record x { marks = (w.node i).marks })) → (z : Name) → P (set l above i marked w.node z) → P (w.node z)
    unchanged P drop z has = elim (alike P drop z has) [ inl here ↦ subst (λ j. P (w.node j)) (sym here.0) here.1 | inr there ↦ there.1 ]

    table_same : (j : Name) → (set l above i marked w.node j).table ≡ (w.node j).table
    table_same j = at_set l line above (λ x. x.table ≡ (w.node j).table) i marked w.node j (λ is. ap (λ z. (w.node z).table) (sym is)) (λ other. refl)

    ran : (r : Name) → (set l above i marked w.node r).runs ≡ true → (w.node r).runs ≡ true
    ran r = unchanged (λ x. x.runs ≡ true) (λ x is. is) r

    in_table : (j : Name) (s : ℕ) (b : Home) → ((w.node j).table s).home ≡ Some b → ((set l above i marked w.node j).table s).home ≡ Some b
    in_table j s b at = subst (λ (e : ℕ → Placement). (e s).home ≡ Some b) (sym (table_same j)) at

    touched_then : (r : Name) → Touched l above (puts l above i marked w) r → Touched l above w r
    touched_then r (inr there) = inr there
    touched_then r (inl (s, more)) = elim (from_set l line above (λ x. 0 < (x.marks s).number) i marked w.node r more) [
      | inl here ↦ subst (Touched l above w) (sym here.0) touched
      | inr there ↦ inl (s, there.1)
    ]

    pub hosted_marks : Hosted l above (puts l above i (record (w.node i) { marks = m }) w)
    hosted_marks = record {
      housed = λ r s running. at_set l line above (λ x. (x.marks s).hosts ≡ true → (j : Name) × (w.latest ≡ Some j) × (((set l above i marked w.node j).table s).home ≡ Some (record { node = r; number = (x.marks s).number }))) i marked w.node r
          (λ is hosts. let x = housed s (subst (λ j. (w.node j).runs ≡ true) is (ran r running)) hosts in
          (x.0, x.1, in_table x.0 s (record { node = r; number = (m s).number }) (subst (λ j. ((w.node x.0).table s).home ≡ Some (record { node = j; number = (m s).number })) (sym is) x.2)))
          (λ other hosts. let x = h.housed r s (ran r running) hosts in (x.0, x.1, in_table x.0 s (record { node = r; number = ((w.node r).marks s).number }) x.2));
      fenced = λ z r b s c sent running last.
          let x = h.fenced z r b s c sent (ran r running) (unchanged (λ y. y.last ≡ Some b) (λ y is. is) r last) in (
            x.0,
            elim x.1 [
              | inl below ↦ inl (at_set l line above (λ y. c ≤ (y.marks s).number) i marked w.node r (λ is. le_trans (subst (λ j. c ≤ ((w.node j).marks s).number) is below) (grow s)) (λ other. below))
              | inr home ↦ inr (in_table b.unique s (record { node = r; number = c }) home)
            ],
          );
      needed = λ j r a latest act running there.
          let x = h.needed j r a latest (unchanged (λ y. y.activation ≡ Some a) (λ y is. is) j act) (ran r running) (touched_then r there) in (
            at_set l line above (λ y. Contains y.promised a.ballot) i marked w.node r (λ is. subst (λ z. Contains (w.node z).promised a.ballot) is x.0) (λ other. x.0),
            λ t phase. x.1 t (unchanged (λ y. y.phase ≡ Active t) (λ y is. is) j phase),
          );
      stale = λ y z t s running asking has stays.
          let was : (w.node y).phase ≡ Asking t = unchanged (λ x. x.phase ≡ Asking t) (λ x is. is) y asking in
          let had : Contains (w.node z).promised t.ballot = unchanged (λ x. Contains x.promised t.ballot) (λ x is. is) z has in
          at_set l line above (λ x. (x.marks s).hosts ≡ true → (j : Name) × (w.latest ≡ Some j) × ((x.marks s).number ≤ ((set l above i marked w.node j).table s).last)
          × ((b : Home) → ((set l above i marked w.node j).table s).home ≡ Some b → (set l above i marked w.node b.node).runs ≡ true → (b.node ≡ z → ⊥) → (x.marks s).number < b.number)) i marked w.node z
          (λ is. absurd (untouched y t (ran y running) was (subst (λ j. Contains (w.node j).promised t.ballot) is had)))
          (λ other hosts. let x = h.stale y z t s (ran y running) was had stays hosts in (
            x.0,
            x.1,
            subst (λ (e : ℕ → Placement). ((w.node z).marks s).number ≤ (e s).last) (sym (table_same x.0)) x.2,
            λ b at running_b apart. x.3 b (subst (λ (e : ℕ → Placement). (e s).home ≡ Some b) (table_same x.0) at) (ran b.node running_b) apart,
          ));
    }

-- ---- one packet more
module _ {V : Type 0} (l : Line V) (above : BallotModel → BallotModel → Type 0) (w : Cluster V) (h : Hosted l above w) where
  module _ (i : Name) (said : Said V)
      (fenced : (r : Name) (b : BallotModel) (s n : ℕ) → said ≡ HostShard b r s n → (w.latest ≡ Some b.unique) × (((w.node b.unique).table s).home ≡ Some (record { node = r; number = n })))
      (needed : (j r : Name) (a : Activation V) (b : BallotModel) (s n : ℕ) → (said ≡ HostShard b r s n) ⊎ (said ≡ HandOff b r s n) → w.latest ≡ Some j → (w.node j).activation ≡ Some a
      → Contains (w.node r).promised a.ballot × ((t : Trial V) → (w.node j).phase ≡ Active t → Contains t.granted r)) where
    either : (z : Name) (other : Said V) → Sent l above (says l above i said w) z other → (said ≡ other) ⊎ Sent l above w z other
    either z other there = elim (first_or_rest (record { from = i; said = said }) (record { from = z; said = other }) w.packets there) [
      | inl is ↦ inl (sym (ap (λ (x : Packet V). x.said) is))
      | inr old ↦ inr old
    ]

    -- who is told by the packet, or had to do with shards before
    touched_now : (r : Name) → Touched l above (says l above i said w) r → ((b : BallotModel) × (s : ℕ) × (n : ℕ) × ((said ≡ HostShard b r s n) ⊎ (said ≡ HandOff b r s n))) ⊎ Touched l above w r
    touched_now r (inl more) = inr (inl more)
    touched_now r (inr (b, s, m, (z, inl one))) = elim (either z (HostShard b r s m) one) [ inl new ↦ inl (b, s, m, inl new) | inr old ↦ inr (inr (b, s, m, (z, inl old))) ]
    touched_now r (inr (b, s, m, (z, inr two))) = elim (either z (HandOff b r s m) two) [ inl new ↦ inl (b, s, m, inr new) | inr old ↦ inr (inr (b, s, m, (z, inr old))) ]

    pub hosted_said : Hosted l above (says l above i said w)
    hosted_said = record {
      housed = h.housed;
      fenced = λ z r b s n there running last. elim (either z (HostShard b r s n) there) [
        | inl new ↦ let x = fenced r b s n new in (x.0, inr x.1)
        | inr old ↦ h.fenced z r b s n old running last
      ];
      needed = λ j r a latest act running there. elim (touched_now r there) [
        | inl new ↦ needed j r a new.0 new.1 new.2 new.3 latest act
        | inr old ↦ h.needed j r a latest act running old
      ];
      stale = h.stale;
    }

  -- ---- what tells no node of a shard
  abbrev pub IsQuiet : Said V → Type 0
  IsQuiet (Ask b) = Unit {0}
  IsQuiet (Granted b g m) = Unit {0}
  IsQuiet (Released b g) = Unit {0}
  IsQuiet (HandedOver b g) = Unit {0}
  IsQuiet (Names b) = Unit {0}
  IsQuiet (HostShard b to s n) = ⊥
  IsQuiet (HandOff b to s n) = ⊥
  IsQuiet (ShardStopped b s n) = Unit {0}

  pub hosted_silent : (i : Name) (said : Said V) → IsQuiet said → Hosted l above (says l above i said w)
  hosted_silent i said quiet = hosted_said i said (λ r b s n is. absurd (subst IsQuiet is quiet)) (λ j r a b s n is latest act. elim is [ inl one ↦ absurd (subst IsQuiet one quiet) | inr two ↦ absurd (subst IsQuiet two quiet) ])
