-- Each allowed move keeps what is true of marks, reports, tables and the packets of shards.
use Rattle.std.proofs.Common.{◌≡◌, ℕ, suc, ◌<◌, ◌≤◌, Bool, true, false, max, inl, inr, List, [], ◌∷◌, Option, Some, Contains, refl, sym, ap, ◌∙◌, subst, arith, le_trans, lt_of_lt_of_le}
use Rattle.std.proofs.Math.Nat.{le-max_left}
use Rattle.std.proofs.lemmas.Option.{same_Some}
use Rattle.ak_line.specs.Name.{Name}
use Rattle.ak_promise.specs.Ballot.{BallotModel}
use Rattle.ak_line.specs.Line.{Line, IsLine, IsStrict}
use Rattle.ak_line.specs.Shards.{Mark, Home, Placement, put_at, own_placement, assigned, freed, yielded}
use Rattle.ak_line.specs.Moves.{Node, Trial, Phase, Asking, Active, Ended, Activation, Said, Ask, Granted, Released, HandedOver, Names, HostShard, HandOff, ShardStopped, Cluster, Move, ballot_of, puts, says, promises, with_grant, with_latest, Sent, IsLive, Allowed, after}
use Rattle.ak_line.specs.Promised.{Promised}
use Rattle.ak_line.specs.Floors.{Floors, Latest}
use Rattle.ak_line.specs.Placed.{Reached, Acted, Placed}
use Rattle.ak_address.proofs.Elements.{contains_first, contains_rest}
use Rattle.ak_line.proofs.Puts.{at_set}
use Rattle.ak_line.proofs.Kept.{granted_live, one_live}
use Rattle.ak_line.proofs.FloorsKept.{not_acted}
use Rattle.ak_line.proofs.LatestKept.{noted}
use Rattle.ak_line.proofs.PlacedPuts.{at_put, own_home, yielded_hosts, placed_put, placed_said, placed_bare}

module _ {V : Type 0} (l : Line V) (line : IsLine V l) (above : BallotModel → BallotModel → Type 0) (strict : IsStrict above) (w : Cluster V) (p : Promised l above w) (f : Floors l above w) (q : Latest l above w) (k : Placed l above w) (i : Name) where
  -- no change of marks and of the table
  same_shards : (n : Node V) (o : Option Name)
      → ((a : Activation V) → (w.node i).activation ≡ Some a → (b : Activation V) × (n.activation ≡ Some b) × (b.ballot ≡ a.ballot) × l.below a.latest b.latest)
      → ((b : BallotModel) → Contains (w.node i).promised b → Contains n.promised b)
      → ((t : Trial V) → IsLive l above n.phase t → IsLive l above (w.node i).phase t)
      → Placed l above (record (puts l above i (record n { marks = (w.node i).marks; table = (w.node i).table }) w) { latest = o })
  same_shards n o acts promises live = placed_put l line above strict w k i (record n { marks = (w.node i).marks; table = (w.node i).table }) o (record {
    acts = acts;
    promises = promises;
    grow = λ s. let x = ((w.node i).marks s).number in omega arith;
    marked = λ s more. k.marked i s more;
    hosted = λ s hosts. k.hosted i s hosts;
    stopped = λ b s m sent hosts. (k.stopped i b s m sent).1 hosts;
    home = λ s h at. k.home i s h at;
    granted = λ t s h alive at. k.granted i t s h (live t alive) at;
  })

  same_acts : (a : Activation V) → (w.node i).activation ≡ Some a → (b : Activation V) × ((w.node i).activation ≡ Some b) × (b.ballot ≡ a.ballot) × l.below a.latest b.latest
  same_acts a act = (a, act, refl, line.reflexive a.latest)

  -- no change of the marks, the ballots, the phase and the activation but a new table
  new_table : (e : ℕ → Placement) (ps : List BallotModel) (last : Option BallotModel) (released : Bool) (ph : Phase V)
      → ((b : BallotModel) → Contains (w.node i).promised b → Contains ps b)
      → ((s : ℕ) (h : Home) → (e s).home ≡ Some h → Reached l above w h.node × (h.number ≤ (e s).last))
      → ((t : Trial V) (s : ℕ) (h : Home) → IsLive l above ph t → (e s).home ≡ Some h → Contains t.granted h.node)
      → Placed l above (puts l above i (record (w.node i) { last = last; released = released; promised = ps; phase = ph; table = e }) w)
  new_table e ps last released ph promises home granted = placed_put l line above strict w k i (record (w.node i) { last = last; released = released; promised = ps; phase = ph; table = e }) w.latest (record {
    acts = same_acts;
    promises = promises;
    grow = λ s. let x = ((w.node i).marks s).number in omega arith;
    marked = λ s more. k.marked i s more;
    hosted = λ s hosts. k.hosted i s hosts;
    stopped = λ b s m sent hosts. (k.stopped i b s m sent).1 hosts;
    home = home;
    granted = granted;
  })

  -- new marks
  new_marks : (m : ℕ → Mark) → ((s : ℕ) → ((w.node i).marks s).number ≤ (m s).number) → ((s : ℕ) → 0 < (m s).number → Reached l above w i) → ((s : ℕ) → (m s).hosts ≡ true → 0 < (m s).number)
      → ((b : BallotModel) (s n : ℕ) → Sent l above w i (ShardStopped b s n) → (m s).hosts ≡ true → n < (m s).number)
      → Placed l above (puts l above i (record (w.node i) { marks = m }) w)
  new_marks m grow marked hosted stopped = placed_put l line above strict w k i (record (w.node i) { marks = m }) w.latest (record {
    acts = same_acts;
    promises = λ b has. has;
    grow = grow;
    marked = marked;
    hosted = hosted;
    stopped = stopped;
    home = λ s h at. k.home i s h at;
    granted = λ t s h alive at. k.granted i t s h alive at;
  })

  -- ---- a table built from the own marks
  open_placed : (c : BallotModel) (t : Trial V) → t.granted ≡ i ∷ [] → Placed l above (puts l above i (record (promises l above c (w.node i)) { phase = Asking t; table = λ s. own_placement i ((w.node i).marks s) }) w)
  open_placed c t itself = new_table (λ s. own_placement i ((w.node i).marks s)) (c ∷ (w.node i).promised) (Some c) false (Asking t) (λ b has. contains_rest c b (w.node i).promised has)
      (λ s h at.
      let own = own_home i ((w.node i).marks s) h at in (
        subst (λ (x : Home). Reached l above w x.node) (sym own.1) (k.marked i s (k.hosted i s own.0)),
        subst (λ (x : Home). x.number ≤ ((w.node i).marks s).number) (sym own.1) (let x = ((w.node i).marks s).number in omega arith),
      ))
      (λ u s h alive at.
      let own = own_home i ((w.node i).marks s) h at in
      subst (λ (x : Home). Contains u.granted x.node) (sym own.1) (subst (λ (x : Trial V). Contains x.granted i) alive (subst (λ g. Contains g i) (sym itself) (contains_first i []))))

  -- ---- a report is learnt
  accept_placed : (t : Trial V) (z : Name) (g : V) (m : ℕ → Mark) (e : ℕ → Placement) → Allowed l above w (Move.Accept i t z g m e) → Placed l above (after l above w (Move.Accept i t z g m e))
  accept_placed t z g m e (running, live_t, sent, unheard, stays, learns) = new_table e (w.node i).promised (w.node i).last (w.node i).released (with_grant l above z g (w.node i).phase) (λ b has. has)
      (λ s h at. elim (learns s).home [
        | inl old ↦ let was = k.home i s h (sym old.0 ∙ at) in (was.0, le_trans was.1 (learns s).keeps)
        | inr new ↦ elim_new s h at (new.0, new.1)
      ])
      (λ u s h alive at.
      let x = granted_live l line above strict w p i z g (w.node i).phase u alive in
      subst (λ k. Contains k h.node) x.3 (elim (learns s).home [
        | inl old ↦ contains_rest z h.node x.0.granted (k.granted i x.0 s h x.1 (sym old.0 ∙ at))
        | inr new ↦ subst (λ k. Contains (z ∷ x.0.granted) k) (ap (λ (y : Home). y.node) (same_Some (record { node = z; number = (m s).number }) h (sym new.0 ∙ at))) (contains_first z x.0.granted)
      ]))
    where
      elim_new : (s : ℕ) (h : Home) → (e s).home ≡ Some h → ((e s).home ≡ Some (record { node = z; number = (m s).number })) × ((m s).hosts ≡ true) → Reached l above w h.node × (h.number ≤ (e s).last)
      elim_new s h at (is, hosts) =
          let same : record { node = z; number = (m s).number } ≡ h = same_Some (record { node = z; number = (m s).number }) h (sym is ∙ at) in
          let told = k.reported z t.ballot g m s sent in
          let positive : 0 < (m s).number = told.1 hosts in
          let below : (m s).number ≤ ((w.node z).marks s).number = told.0 in
          (subst (λ (x : Home). Reached l above w x.node) same (k.marked z s (lt_of_lt_of_le positive below)), subst (λ (x : Home). x.number ≤ (e s).last) same (learns s).covers)

  -- ---- the coordinator's own moves
  module _ (t : Trial V) (active : (w.node i).phase ≡ Active t) where
    active_act : Activation V
    active_act = (p.active i t active).0

    active_live : IsLive l above (w.node i).phase t
    active_live = subst (λ ph. IsLive l above ph t) (sym active) refl

    assign_placed : (s : ℕ) (r : Name) → Allowed l above w (Move.Assign i t s r) → Placed l above (after l above w (Move.Assign i t s r))
    assign_placed s r (running, is, free, aged, granted) = new_table (put_at s (assigned r ((w.node i).table s)) (w.node i).table) (w.node i).promised (w.node i).last (w.node i).released (w.node i).phase (λ b has. has)
        (λ j h. at_put (λ (x : Placement). x.home ≡ Some h → Reached l above w h.node × (h.number ≤ x.last)) s (assigned r ((w.node i).table s)) (w.node i).table j
        (λ same at.
        let own : record { node = r; number = suc ((w.node i).table s).last } ≡ h = same_Some (record { node = r; number = suc ((w.node i).table s).last }) h at in (
          subst (λ (x : Home). Reached l above w x.node) own (i, (p.active i t active).0, (p.active i t active).1, subst (λ v. l.aged v r) (sym ((p.activations i (p.active i t active).0 (p.active i t active).1).current t active).1) aged),
          subst (λ (x : Home). x.number ≤ suc ((w.node i).table s).last) own (let x = ((w.node i).table s).last in omega arith),
        ))
        (λ other at. k.home i j h at))
        (λ u j h alive. at_put (λ (x : Placement). x.home ≡ Some h → Contains u.granted h.node) s (assigned r ((w.node i).table s)) (w.node i).table j
        (λ same at. subst (λ (x : Home). Contains u.granted x.node) (same_Some (record { node = r; number = suc ((w.node i).table s).last }) h at) (subst (λ (x : Trial V). Contains x.granted r) (one_live l line above strict w p i (w.node i).phase t u active_live alive) granted))
        (λ other at. k.granted i u j h alive at))

    free_placed : (s : ℕ) (b : Home) → Placed l above (after l above w (Move.Free i t s b))
    free_placed s b = new_table (put_at s (freed ((w.node i).table s)) (w.node i).table) (w.node i).promised (w.node i).last (w.node i).released (w.node i).phase (λ c has. has)
        (λ j h. at_put (λ (x : Placement). x.home ≡ Some h → Reached l above w h.node × (h.number ≤ x.last)) s (freed ((w.node i).table s)) (w.node i).table j (λ same at. absurd (cc)) (λ other at. k.home i j h at))
        (λ u j h alive. at_put (λ (x : Placement). x.home ≡ Some h → Contains u.granted h.node) s (freed ((w.node i).table s)) (w.node i).table j (λ same at. absurd (cc)) (λ other at. k.granted i u j h alive at))

    -- what the coordinator tells the home of a shard
    told_home : (s : ℕ) (h : Home) → ((w.node i).table s).home ≡ Some h → Contains (w.node h.node).promised t.ballot × Reached l above w h.node × Acted l above w t.ballot
    told_home s h at =
        let own = p.own i t active_live in
        let a = p.active i t active in (
          p.granters i h.node t active_live (k.granted i t s h active_live at),
          (k.home i s h at).0,
          (a.0, subst (λ x. (w.node x).activation ≡ Some a.0) (sym own.2) a.1, sym ((p.activations i a.0 a.1).current t active).0),
        )

    -- the receiver and the ballot of what is said of a shard
    abbrev target : Said V → Name
    target (Ask b) = i
    target (Granted b g m) = i
    target (Released b g) = i
    target (HandedOver b g) = i
    target (Names b) = i
    target (HostShard b to s n) = to
    target (HandOff b to s n) = to
    target (ShardStopped b s n) = i

    order_placed : (s : ℕ) (h : Home) → ((w.node i).table s).home ≡ Some h → Placed l above (says l above i (HostShard t.ballot h.node s h.number) w)
    order_placed s h at = placed_said l line above strict w k i (HostShard t.ballot h.node s h.number)
        (λ r b j n is. elim is [
          | inl one ↦ subst (λ x. Contains (w.node x).promised b × Reached l above w x × Acted l above w b) (ap target one) (subst (λ x. Contains (w.node h.node).promised x × Reached l above w h.node × Acted l above w x) (ap ballot_of one) (told_home s h at))
          | inr two ↦ absurd (cc)
        ])
        (λ c g m j is. absurd (cc)) (λ b j n is. absurd (cc))

    recall_placed : (s : ℕ) (h : Home) → ((w.node i).table s).home ≡ Some h → Placed l above (says l above i (HandOff t.ballot h.node s h.number) w)
    recall_placed s h at = placed_said l line above strict w k i (HandOff t.ballot h.node s h.number)
        (λ r b j n is. elim is [
          | inl one ↦ absurd (cc)
          | inr two ↦ subst (λ x. Contains (w.node x).promised b × Reached l above w x × Acted l above w b) (ap target two) (subst (λ x. Contains (w.node h.node).promised x × Reached l above w h.node × Acted l above w x) (ap ballot_of two) (told_home s h at))
        ])
        (λ c g m j is. absurd (cc)) (λ b j n is. absurd (cc))

  -- ---- a node hosts a shard, hands it off, and says so
  host_placed : (b : BallotModel) (s n : ℕ) → Allowed l above w (Move.Host i b s n) → Placed l above (after l above w (Move.Host i b s n))
  host_placed b s n (running, last, from, unhosted, greater) = new_marks (put_at s (record { number = n; hosts = true }) (w.node i).marks)
      (λ j. at_put (λ (x : Mark). ((w.node i).marks j).number ≤ x.number) s (record { number = n; hosts = true }) (w.node i).marks j
      (λ is. subst (λ c. ((w.node i).marks c).number ≤ n) (sym is) (let x = ((w.node i).marks s).number in omega (arith, greater))) (λ other. let x = ((w.node i).marks j).number in omega arith))
      (λ j. at_put (λ (x : Mark). 0 < x.number → Reached l above w i) s (record { number = n; hosts = true }) (w.node i).marks j (λ is more. (k.directed i b s n (from.0, inl from.1)).1) (λ other more. k.marked i j more))
      (λ j. at_put (λ (x : Mark). x.hosts ≡ true → 0 < x.number) s (record { number = n; hosts = true }) (w.node i).marks j (λ is hosts. let x = ((w.node i).marks s).number in omega (arith, greater)) (λ other hosts. k.hosted i j hosts))
      (λ c j m sent. at_put (λ (x : Mark). x.hosts ≡ true → m < x.number) s (record { number = n; hosts = true }) (w.node i).marks j
      (λ is hosts. lt_between m ((w.node i).marks s).number n (subst (λ d. m ≤ ((w.node i).marks d).number) is (k.stopped i c j m sent).0) greater) (λ other hosts. (k.stopped i c j m sent).1 hosts))
    where
      lt_between : (a b c : ℕ) → a ≤ b → b < c → a < c
      lt_between a b c one two = omega arith

  yield_placed : (b : BallotModel) (s n : ℕ) → Allowed l above w (Move.Yield i b s n) → Placed l above (after l above w (Move.Yield i b s n))
  yield_placed b s n (running, last, from) = new_marks (put_at s (yielded n ((w.node i).marks s)) (w.node i).marks)
      (λ j. at_put (λ (x : Mark). ((w.node i).marks j).number ≤ x.number) s (yielded n ((w.node i).marks s)) (w.node i).marks j
      (λ is. subst (λ c. ((w.node i).marks c).number ≤ max ((w.node i).marks s).number n) (sym is) (le-max_left ((w.node i).marks s).number n)) (λ other. let x = ((w.node i).marks j).number in omega arith))
      (λ j. at_put (λ (x : Mark). 0 < x.number → Reached l above w i) s (yielded n ((w.node i).marks s)) (w.node i).marks j (λ is more. (k.directed i b s n (from.0, inr from.1)).1) (λ other more. k.marked i j more))
      (λ j. at_put (λ (x : Mark). x.hosts ≡ true → 0 < x.number) s (yielded n ((w.node i).marks s)) (w.node i).marks j
      (λ is hosts. lt_of_lt_of_le (k.hosted i s (yielded_hosts n ((w.node i).marks s) hosts).0) (le-max_left ((w.node i).marks s).number n)) (λ other hosts. k.hosted i j hosts))
      (λ c j m sent. at_put (λ (x : Mark). x.hosts ≡ true → m < x.number) s (yielded n ((w.node i).marks s)) (w.node i).marks j
      (λ is hosts. lt_of_lt_of_le ((k.stopped i c s m (subst (λ d. Sent l above w i (ShardStopped c d m)) is sent)).1 (yielded_hosts n ((w.node i).marks s) hosts).0) (le-max_left ((w.node i).marks s).number n)) (λ other hosts. (k.stopped i c j m sent).1 hosts))

  confirm_placed : (b : BallotModel) (s n : ℕ) → Allowed l above w (Move.Confirm i b s n) → Placed l above (after l above w (Move.Confirm i b s n))
  confirm_placed b s n (running, last, over, stays) = placed_said l line above strict w k i (ShardStopped b s n)
      (λ r c j m is. elim is [ inl one ↦ absurd (cc) | inr two ↦ absurd (cc) ]) (λ c g m j is. absurd (cc))
      (λ c j m is. subst (λ x. (m ≤ ((w.node i).marks x).number) × (((w.node i).marks x).hosts ≡ true → m < ((w.node i).marks x).number)) (shard_of c j m is)
      (subst (λ x. (x ≤ ((w.node i).marks s).number) × (((w.node i).marks s).hosts ≡ true → x < ((w.node i).marks s).number)) (number_of c j m is) (over, stays)))
    where
      shard_of : (c : BallotModel) (j m : ℕ) → ◌≡◌ {A = Said V} (ShardStopped b s n) (ShardStopped c j m) → s ≡ j
      shard_of c j m is = cc

      number_of : (c : BallotModel) (j m : ℕ) → ◌≡◌ {A = Said V} (ShardStopped b s n) (ShardStopped c j m) → n ≡ m
      number_of c j m is = cc

  -- a report is of the marks
  granted_placed : (v : Cluster V) → Placed l above v → (m : ℕ → Mark) → (v.node i).marks ≡ m → (b : BallotModel) (g : V) → Placed l above (says l above i (Granted b g m) v)
  granted_placed v x m is b g = placed_said l line above strict v x i (Granted b g m)
      (λ r c j n same. elim same [ inl one ↦ absurd (cc) | inr two ↦ absurd (cc) ])
      (λ c h y s same. subst (λ z. ((z s).number ≤ ((v.node i).marks s).number) × ((z s).hosts ≡ true → 0 < (z s).number)) (is ∙ marks_of c h y same) ((let a = ((v.node i).marks s).number in omega arith), x.hosted i s))
      (λ c j n same. absurd (cc))
    where
      marks_of : (c : BallotModel) (h : V) (y : ℕ → Mark) → Granted b g m ≡ Granted c h y → m ≡ y
      marks_of c h y same = cc

-- ---- each move
module _ {V : Type 0} (l : Line V) (line : IsLine V l) (above : BallotModel → BallotModel → Type 0) (strict : IsStrict above) (w : Cluster V) (p : Promised l above w) (f : Floors l above w) (q : Latest l above w) (k : Placed l above w) where
  -- no change of marks, of the table, of the phase and of the activation
  same : (i : Name) (n : Node V) → ((b : BallotModel) → Contains (w.node i).promised b → Contains n.promised b) → Placed l above (puts l above i (record n { marks = (w.node i).marks; table = (w.node i).table; phase = (w.node i).phase; activation = (w.node i).activation }) w)
  same i n promises = same_shards l line above strict w p f q k i (record n { phase = (w.node i).phase; activation = (w.node i).activation }) w.latest (same_acts l line above strict w p f q k i) promises (λ t live. live)

  -- no change of marks and of the table, and no phase with a ballot afterwards
  ended : (i : Name) (n : Node V) (ph : Phase V) → ((t : Trial V) → IsLive l above ph t → ⊥) → ((b : BallotModel) → Contains (w.node i).promised b → Contains n.promised b)
      → Placed l above (puts l above i (record n { marks = (w.node i).marks; table = (w.node i).table; phase = ph; activation = (w.node i).activation }) w)
  ended i n ph none promises = same_shards l line above strict w p f q k i (record n { phase = ph; activation = (w.node i).activation }) w.latest (same_acts l line above strict w p f q k i) promises (λ t live. absurd (none t live))

  pub placed_kept : (m : Move V) → Allowed l above w m → Placed l above (after l above w m)
  placed_kept (Move.Start i) h = same i (record (w.node i) { runs = true }) (λ b has. has)
  placed_kept (Move.Stop i) h = same i (record (w.node i) { runs = false }) (λ b has. has)
  placed_kept (Move.Note i v) (running, on, below, stays) = same_shards l line above strict w p f q k i (record (w.node i) { settled = v; activation = with_latest l above v (w.node i).phase (w.node i).activation }) w.latest
      (λ a act. let b = noted l line above strict w p f q i v below (w.node i).phase refl a act in (b.0, ap (with_latest l above v (w.node i).phase) act ∙ b.1, b.2, b.4)) (λ b has. has) (λ t live. live)
  placed_kept (Move.Find i z) h = same i (record (w.node i) { finished = z ∷ (w.node i).finished }) (λ b has. has)
  placed_kept (Move.Promise i b) h = granted_placed l line above strict w p f q k i (puts l above i (promises l above b (w.node i)) w) (same i (promises l above b (w.node i)) (λ c has. contains_rest b c (w.node i).promised has)) (w.node i).marks
      (at_set l line above (λ (m : Node V). m.marks ≡ (w.node i).marks) i (promises l above b (w.node i)) w.node i (λ is. refl) (λ other. absurd (other refl))) b (l.merged (w.node i).floor (w.node i).settled)
  placed_kept (Move.Repeat i b) h = granted_placed l line above strict w p f q k i w k (w.node i).marks refl b (l.merged (w.node i).floor (w.node i).settled)
  placed_kept (Move.Open i c) h = open_placed l line above strict w p f q k i c (record { ballot = c; granted = i ∷ []; floor = l.merged (w.node i).floor (w.node i).settled; opened = (w.node i).settled }) refl
  placed_kept (Move.Reopen i t c) h = open_placed l line above strict w p f q k i c (record t { ballot = c; granted = i ∷ [] }) refl
  placed_kept (Move.Close i t ph) (running, cases) = placed_bare l line above strict (puts l above i (record (w.node i) { released = true; floor = l.merged (w.node i).floor (w.node i).settled; phase = ph }) w)
      (ended i (record (w.node i) { released = true; floor = l.merged (w.node i).floor (w.node i).settled }) ph
      (λ u live. elim cases [
        | inl asking ↦ elim asking.1 [ inl is ↦ subst (λ x. IsLive l above x u) is live | inr is ↦ subst (λ x. IsLive l above x u) is live ]
        | inr active ↦ subst (λ x. IsLive l above x u) active.1 live
      ]) (λ b has. has)) i (Released t.ballot (w.node i).settled) tt
  placed_kept (Move.Retire i) h = ended i (w.node i) Ended (λ t live. live) (λ b has. has)
  placed_kept (Move.Accept i t z g m e) h = accept_placed l line above strict w p f q k i t z g m e h
  placed_kept (Move.Activate i t) (running, asking, candidate, over, needed) =
      same_shards l line above strict w p f q k i (record (w.node i) { phase = Active t; activation = Some (record { ballot = t.ballot; first = (w.node i).settled; latest = (w.node i).settled }) }) (Some i)
      (λ a act. absurd (not_acted l line above strict w p f i i a act (p.before i (inr (t, asking))))) (λ b has. has) (λ u live. subst (λ ph. IsLive l above ph u) (sym asking) live)
  placed_kept (Move.Solicit i t) h = placed_bare l line above strict w k i (Ask t.ballot) tt
  placed_kept (Move.HandOver i b) h = placed_bare l line above strict w k i (HandedOver b (w.node i).settled) tt
  placed_kept (Move.Pass i b g) h = placed_bare l line above strict w k i (Released b g) tt
  placed_kept (Move.Release i b g) h = same i (record (w.node i) { released = true; floor = l.merged (w.node i).floor g }) (λ c has. has)
  placed_kept (Move.Say i b) h = placed_bare l line above strict w k i (Names b) tt
  placed_kept (Move.Assign i t s r) h = assign_placed l line above strict w p f q k i t h.1 s r h
  placed_kept (Move.Free i t s b) h = free_placed l line above strict w p f q k i t h.1 s b
  placed_kept (Move.Order i t s b) h = order_placed l line above strict w p f q k i t h.1 s b h.2
  placed_kept (Move.Recall i t s b) h = recall_placed l line above strict w p f q k i t h.1 s b h.2
  placed_kept (Move.Host i b s n) h = host_placed l line above strict w p f q k i b s n h
  placed_kept (Move.Yield i b s n) h = yield_placed l line above strict w p f q k i b s n h
  placed_kept (Move.Confirm i b s n) h = confirm_placed l line above strict w p f q k i b s n h
