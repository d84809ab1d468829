-- What is true of promises, floors, shards and hosts stays true as the line grows.
use Rattle.std.proofs.Common.{◌≡◌, inl, inr, refl, sym, subst}
use Rattle.ak_line.specs.Name.{Name}
use Rattle.ak_promise.specs.Ballot.{BallotModel}
use Rattle.ak_line.specs.Line.{Line}
use Rattle.ak_line.specs.Grows.{replaced, Grows}
use Rattle.ak_line.specs.Moves.{Node, Trial, Asking, Activation, Cluster, IsLive}
use Rattle.ak_line.specs.Promised.{LivesIn, HasCensus, Promised}
use Rattle.ak_line.specs.Placed.{Reached, Placed}
use Rattle.ak_line.specs.Reported.{Reported}
use Rattle.ak_line.specs.Hosted.{Hosted}
use Rattle.ak_line.specs.Safe.{Safe}

module _ {V : Type 0} (l : Line V) (above : BallotModel → BallotModel → Type 0) (on : V → Type 0) (aged removed : V → Name → Type 0) (g : Grows V l on aged removed) (w : Cluster V) where
  abbrev later : Line V
  later = replaced l on aged removed

  lived : (n : Node V) (c : BallotModel) → LivesIn (replaced l on aged removed) above n c → LivesIn l above n c
  lived n c lives = record { is_running = lives.is_running; trial = lives.trial; live = lives.live; is_ballot = lives.is_ballot }

  census_grown : (x : Name) (a : Activation V) → HasCensus l above w x a → HasCensus (replaced l on aged removed) above w x a
  census_grown x a c = record {
    promised = c.promised;
    own = c.own;
    rose = c.rose;
    first_on = g.still_on a.first c.first_on;
    latest_on = g.still_on a.latest c.latest_on;
    itself = g.aged_then a.first x c.first_on c.itself;
    stays = λ gone. c.stays (g.removed_before a.latest x c.latest_on gone);
    census = λ z is. elim (c.census z (g.aged_before a.first z c.first_on is)) [
      | inl promised ↦ inl promised
      | inr gone ↦ inr (g.removed_then a.first z c.first_on gone.0, gone.1)
    ];
    greatest = c.greatest;
    within = c.within;
    current = c.current;
  }

  promised_grown : Promised l above w → Promised (replaced l on aged removed) above w
  promised_grown p = record {
    finished = λ i q has. let f = p.finished i q has in (f.0, g.still_on (w.node i).settled f.1, g.removed_then (w.node i).settled q f.1 f.2);
    own = p.own;
    descends = p.descends;
    newest = p.newest;
    known = p.known;
    named = p.named;
    binds = λ y x c lives has. p.binds y x c (lived (w.node y) c lives) has;
    granters = p.granters;
    grants = p.grants;
    dead = λ y z h f said lives. p.dead y z h f said (lived (w.node y) h lives);
    let_go = λ y x h last released lives. p.let_go y x h last released (lived (w.node y) h lives);
    activations = λ x a is. census_grown x a (p.activations x a is);
    active = p.active;
    before = p.before;
  }

  reached_grown : Promised l above w → (r : Name) → Reached l above w r → Reached (replaced l on aged removed) above w r
  reached_grown p r (x, a, act, is) = (x, a, act, g.aged_then a.latest r (p.activations x a act).latest_on is)

  placed_grown : Promised l above w → Placed l above w → Placed (replaced l on aged removed) above w
  placed_grown p k = record {
    marked = λ r s more. reached_grown p r (k.marked r s more);
    directed = λ r b s n told. let x = k.directed r b s n told in (x.0, reached_grown p r x.1, x.2);
    home = λ y s h at. let x = k.home y s h at in (reached_grown p h.node x.0, x.1);
    granted = k.granted;
    hosted = k.hosted;
    reported = k.reported;
    stopped = k.stopped;
  }

  reported_grown : Reported l above w → Reported (replaced l on aged removed) above w
  reported_grown r = record {
    agrees = λ y t running asking. let a = r.agrees y t running asking in record { frozen = a.frozen; covers = a.covers; housed = a.housed; hosts = a.hosts };
    opened = λ y t live. let o = r.opened y t live in (g.still_on t.opened o.0, o.1, g.aged_then t.opened y o.0 o.2);
    unremoved = λ y z t live granted gone. r.unremoved y z t live granted (g.removed_before t.opened z (r.opened y t live).0 gone);
  }

  hosted_grown : Reported l above w → Hosted l above w → Hosted (replaced l on aged removed) above w
  hosted_grown r h = record {
    housed = h.housed;
    fenced = h.fenced;
    needed = h.needed;
    stale = λ y z t s running asking has stays hosts. h.stale y z t s running asking has (λ gone. stays (g.removed_then t.opened z (r.opened y t (asking_live y t asking)).0 gone)) hosts;
  }
    where
      asking_live : (y : Name) (t : Trial V) → (w.node y).phase ≡ Asking t → IsLive l above (w.node y).phase t
      asking_live y t asking = subst (λ ph. IsLive l above ph t) (sym asking) refl

  pub safe_grown : Safe l above w → Safe (replaced l on aged removed) above w
  safe_grown s = record {
    promised = promised_grown s.promised;
    floors = record { follows = s.floors.follows; covered = s.floors.covered; answered = s.floors.answered; heard = s.floors.heard };
    latest = record { current = s.latest.current; was_active = s.latest.was_active; rises = s.latest.rises };
    placed = placed_grown s.promised s.placed;
    reported = reported_grown s.reported;
    hosted = hosted_grown s.reported s.hosted;
  }
