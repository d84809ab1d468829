-- What is true of marks and tables stays true where one node is changed so that it has its part of it, and where one packet more is sent.
use Rattle.std.proofs.Common.{◌≡◌, ℕ, ◌<◌, ◌≤◌, Bool, true, false, if◌then◌else◌, ◌&&◌, ltb, ◌⊎◌, inl, inr, Option, Some, None, Contains, refl, sym, ap, ◌∙◌, subst, arith, true≢false, ltb-true, le_trans}
use Rattle.std.proofs.lemmas.Option.{same_Some}
use Rattle.std.proofs.lemmas.Bool.Decides.{eqb_tells}
use Rattle.ak_line.specs.Name.{Name}
use Rattle.ak_promise.specs.Ballot.{BallotModel}
use Rattle.ak_line.specs.Line.{Line, IsLine, IsStrict}
use Rattle.ak_line.specs.Shards.{Mark, Home, put_at, own_placement, yielded}
use Rattle.ak_line.specs.Moves.{Node, Trial, Activation, Said, Ask, Granted, Released, HandedOver, Names, HostShard, HandOff, ShardStopped, Packet, Cluster, set, puts, says, Sent, IsLive}
use Rattle.ak_line.specs.Placed.{Reached, Acted, Placed}
use Rattle.ak_address.proofs.Elements.{first_or_rest}
use Rattle.ak_line.proofs.Puts.{at_set}

pub at_put : {X : Type 0} (P : X → Type 0) (i : ℕ) (x : X) (xs : ℕ → X) (j : ℕ) → (j ≡ i → P x) → ((j ≡ i → ⊥) → P (xs j)) → P (put_at i x xs j)
at_put P i x xs j here there = elim (eqb_tells j i) [
  | inl is ↦ subst (λ b. P (if b then x else xs j)) (sym is.0) (here is.1)
  | inr other ↦ subst (λ b. P (if b then x else xs j)) (sym other.0) (there other.1)
]

-- the home of a placement that is built from the own mark
pub own_home : (i : Name) (m : Mark) (h : Home) → (own_placement i m).home ≡ Some h → (m.hosts ≡ true) × (h ≡ record { node = i; number = m.number })
own_home i m h is = by_case m.hosts refl is
  where
    by_case : (b : Bool) → m.hosts ≡ b → (if b then Some (record { node = i; number = m.number }) else None) ≡ Some h → (m.hosts ≡ true) × (h ≡ record { node = i; number = m.number })
    by_case true hosts same = (hosts, sym (same_Some (record { node = i; number = m.number }) h same))
    by_case false hosts same = absurd (cc)

pub own_home_is : (i : Name) (m : Mark) → m.hosts ≡ true → (own_placement i m).home ≡ Some (record { node = i; number = m.number })
own_home_is i m hosts =
    let own : Home = record { node = i; number = m.number } in
    subst (λ b. if◌then◌else◌ {A = Option Home} b (Some own) None ≡ Some own) (sym hosts) refl

-- a shard that is hosted after a hand-off was so before, with a greater number
pub yielded_hosts : (n : ℕ) (m : Mark) → (yielded n m).hosts ≡ true → (m.hosts ≡ true) × (n < m.number)
yielded_hosts n m is = by_case m.hosts refl is
  where
    by_case : (b : Bool) → m.hosts ≡ b → (b && ltb n m.number) ≡ true → (m.hosts ≡ true) × (n < m.number)
    by_case true hosts less = (hosts, ltb-true n m.number less)
    by_case false hosts less = absurd (true≢false (sym less))

module _ {V : Type 0} (l : Line V) (line : IsLine V l) (above : BallotModel → BallotModel → Type 0) (strict : IsStrict above) where
  -- one part for the changed node
  pub record PlacedPut (w : Cluster V) (i : Name) (n : Node V) : Type 0 where
    pub acts : (a : Activation V) → (w.node i).activation ≡ Some a → (b : Activation V) × (n.activation ≡ Some b) × (b.ballot ≡ a.ballot) × l.below a.latest b.latest
    pub promises : (b : BallotModel) → Contains (w.node i).promised b → Contains n.promised b
    pub grow : (s : ℕ) → ((w.node i).marks s).number ≤ (n.marks s).number
    pub marked : (s : ℕ) → 0 < (n.marks s).number → Reached l above w i
    pub hosted : (s : ℕ) → (n.marks s).hosts ≡ true → 0 < (n.marks s).number
    pub stopped : (b : BallotModel) (s m : ℕ) → Sent l above w i (ShardStopped b s m) → (n.marks s).hosts ≡ true → m < (n.marks s).number
    pub home : (s : ℕ) (h : Home) → (n.table s).home ≡ Some h → Reached l above w h.node × (h.number ≤ (n.table s).last)
    pub granted : (t : Trial V) (s : ℕ) (h : Home) → IsLive l above n.phase t → (n.table s).home ≡ Some h → Contains t.granted h.node

  module _ (w : Cluster V) (k : Placed l above w) (i : Name) (n : Node V) (o : Option Name) (part : PlacedPut w i n) where
    acts_put : (x : Name) (a : Activation V) → (w.node x).activation ≡ Some a → (b : Activation V) × ((set l above i n w.node x).activation ≡ Some b) × (b.ballot ≡ a.ballot) × l.below a.latest b.latest
    acts_put x a act = at_set l line above (λ m. (b : Activation V) × (m.activation ≡ Some b) × (b.ballot ≡ a.ballot) × l.below a.latest b.latest) i n w.node x
        (λ is. part.acts a (subst (λ j. (w.node j).activation ≡ Some a) is act)) (λ other. (a, act, refl, line.reflexive a.latest))

    pub reached_put : (r : Name) → Reached l above w r → Reached l above (record (puts l above i n w) { latest = o }) r
    reached_put r (x, a, act, aged) = let b = acts_put x a act in (x, b.0, b.1, line.still_aged a.latest b.0.latest r b.3 aged)

    acted_put : (b : BallotModel) → Acted l above w b → Acted l above (record (puts l above i n w) { latest = o }) b
    acted_put b (a, act, is) = let c = acts_put b.unique a act in (c.0, c.1, c.2 ∙ is)

    pub marks_put : (z : Name) (s : ℕ) → ((w.node z).marks s).number ≤ ((set l above i n w.node z).marks s).number
    marks_put z s = at_set l line above (λ m. ((w.node z).marks s).number ≤ (m.marks s).number) i n w.node z
        (λ is. subst (λ j. ((w.node j).marks s).number ≤ (n.marks s).number) (sym is) (part.grow s)) (λ other. let x = ((w.node z).marks s).number in omega arith)

    pub placed_put : Placed l above (record (puts l above i n w) { latest = o })
    placed_put = record {
      marked = λ r s. at_set l line above (λ m. 0 < (m.marks s).number → Reached l above (record (puts l above i n w) { latest = o }) r) i n w.node r
          (λ is more. reached_put r (subst (Reached l above w) (sym is) (part.marked s more)))
          (λ other more. reached_put r (k.marked r s more));
      directed = λ r b s m there. let old = k.directed r b s m there in
          (at_set l line above (λ x. Contains x.promised b) i n w.node r (λ is. part.promises b (subst (λ j. Contains (w.node j).promised b) is old.0)) (λ other. old.0), reached_put r old.1, acted_put b old.2);
      home = λ y s h. at_set l line above (λ m. (m.table s).home ≡ Some h → Reached l above (record (puts l above i n w) { latest = o }) h.node × (h.number ≤ (m.table s).last)) i n w.node y
          (λ is at. let x = part.home s h at in (reached_put h.node x.0, x.1))
          (λ other at. let x = k.home y s h at in (reached_put h.node x.0, x.1));
      granted = λ y t s h. at_set l line above (λ m. IsLive l above m.phase t → (m.table s).home ≡ Some h → Contains t.granted h.node) i n w.node y (λ is. part.granted t s h) (λ other. k.granted y t s h);
      hosted = λ r s. at_set l line above (λ m. (m.marks s).hosts ≡ true → 0 < (m.marks s).number) i n w.node r (λ is. part.hosted s) (λ other. k.hosted r s);
      reported = λ z c f m s sent. let old = k.reported z c f m s sent in (le_trans old.0 (marks_put z s), old.1);
      stopped = λ r b s m sent. let old = k.stopped r b s m sent in
          (le_trans old.0 (marks_put r s), at_set l line above (λ x. (x.marks s).hosts ≡ true → m < (x.marks s).number) i n w.node r (λ is. part.stopped b s m (subst (λ j. Sent l above w j (ShardStopped b s m)) is sent)) (λ other. old.1));
    }

  -- ---- one packet more
  module _ (w : Cluster V) (k : Placed l above w) (i : Name) (said : Said V)
      (told : (r : Name) (b : BallotModel) (s n : ℕ) → (said ≡ HostShard b r s n) ⊎ (said ≡ HandOff b r s n) → Contains (w.node r).promised b × Reached l above w r × Acted l above w b)
      (reported : (c : BallotModel) (f : V) (m : ℕ → Mark) (s : ℕ) → said ≡ Granted c f m → ((m s).number ≤ ((w.node i).marks s).number) × ((m s).hosts ≡ true → 0 < (m s).number))
      (stopped : (b : BallotModel) (s n : ℕ) → said ≡ ShardStopped b s n → (n ≤ ((w.node i).marks s).number) × (((w.node i).marks s).hosts ≡ true → n < ((w.node i).marks s).number)) where
    -- the packet that is sent, or one that was there
    either : (z : Name) (other : Said V) → Sent l above (says l above i said w) z other → ((z ≡ i) × (said ≡ other)) ⊎ Sent l above w z other
    either z other there = elim (first_or_rest (record { from = i; said = said }) (record { from = z; said = other }) w.packets there) [
      | inl is ↦ inl (ap (λ (q : Packet V). q.from) is, sym (ap (λ (q : Packet V). q.said) is))
      | inr old ↦ inr old
    ]

    pub placed_said : Placed l above (says l above i said w)
    placed_said = record {
      marked = k.marked;
      directed = λ r b s n (z, there). elim there [
        | inl one ↦ elim (either z (HostShard b r s n) one) [ inl new ↦ told r b s n (inl new.1) | inr old ↦ k.directed r b s n (z, inl old) ]
        | inr two ↦ elim (either z (HandOff b r s n) two) [ inl new ↦ told r b s n (inr new.1) | inr old ↦ k.directed r b s n (z, inr old) ]
      ];
      home = k.home;
      granted = k.granted;
      hosted = k.hosted;
      reported = λ z c f m s there. elim (either z (Granted c f m) there) [
        | inl new ↦ subst (λ j. ((m s).number ≤ ((w.node j).marks s).number) × ((m s).hosts ≡ true → 0 < (m s).number)) (sym new.0) (reported c f m s new.1)
        | inr old ↦ k.reported z c f m s old
      ];
      stopped = λ r b s n there. elim (either r (ShardStopped b s n) there) [
        | inl new ↦ subst (λ j. (n ≤ ((w.node j).marks s).number) × (((w.node j).marks s).hosts ≡ true → n < ((w.node j).marks s).number)) (sym new.0) (stopped b s n new.1)
        | inr old ↦ k.stopped r b s n old
      ];
    }

  -- ---- what says nothing of shards
  abbrev pub IsBare : Said V → Type 0
  IsBare (Ask b) = Unit {0}
  IsBare (Granted b g m) = ⊥
  IsBare (Released b g) = Unit {0}
  IsBare (HandedOver b g) = Unit {0}
  IsBare (Names b) = Unit {0}
  IsBare (HostShard b to s n) = ⊥
  IsBare (HandOff b to s n) = ⊥
  IsBare (ShardStopped b s n) = ⊥

  pub placed_bare : (w : Cluster V) → Placed l above w → (i : Name) (said : Said V) → IsBare said → Placed l above (says l above i said w)
  placed_bare w k i said bare = placed_said w k i said
      (λ r b s n is. elim is [ inl one ↦ absurd (subst IsBare one bare) | inr two ↦ absurd (subst IsBare two bare) ])
      (λ c f m s is. absurd (subst IsBare is bare))
      (λ b s n is. absurd (subst IsBare is bare))
