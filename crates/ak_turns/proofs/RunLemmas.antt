-- How far a node has come by its turns.
use Rattle.std.proofs.Common.{◌≡◌, ℕ, suc, ◌+◌, ◌⊎◌, List, [], ◌∷◌, ◌++◌, length, take, Option, Some, None, IfSome, Result, Ok, Err, refl, sym, ap, subst, inl, inr, ◌∙◌, arith, zero-add}
use Rattle.ak_outside.specs.Clock.{Reads}
use Rattle.ak_outside.specs.declared.status.Status.{Status}
use Rattle.ak_outside.specs.declared.status.Status.TheVariants as status
use Rattle.ak_config.specs.declared.config.Config.{Config}
use Rattle.ak_link.specs.declared.received.Got.TheVariants as got
use Rattle.ak_link.specs.Received.{GotSome, Receives}
use Rattle.ak_wire.specs.declared.envelope.Envelope.{Envelope}
use Rattle.ak_wire.specs.Wire.{put}
use Rattle.ak_turns.specs.declared.end.End.{End}
use Rattle.ak_turns.specs.declared.end.End.TheVariants.{Memory, Write, Link, Turns}
use Rattle.ak_turns.specs.declared.happening.Happening.{Happening}
use Rattle.ak_turns.specs.declared.happening.Happening.TheVariants as happening
use Rattle.ak_turns.specs.declared.timer.Timer.{Timer}
use Rattle.ak_turns.specs.Timer.{tick_at, timer_after, timer_at}
use Rattle.ak_turns.specs.Outside.{Output, Wire, SendsNothing}
use Rattle.ak_turns.specs.Steps.{Progress, Step, happenings}
use Rattle.ak_turns.specs.Turns.{Turn, Come, ComesBy, Taken, GoesOn, HearsOne, HearsAll, ReadsAll, heard_by, time_after, first_time, tick_by, begins, most_bytes, most_idle}
use Rattle.ak_turns.specs.NodeRun.{HalfComes, IsWhole, EndsSo}
use Rattle.ak_turns.specs.TurnsContracts.{TakesSome, HearsAs, HasCome, Begins, RunsTo, StopsAt}
use Rattle.ak_turns.proofs.StepLemmas.{Halted, some_ok, some_err, come_still, stop_here}

-- what the link gave so far, and what is left of it
abbrev pub HasHeard : Option (List (Option (List ℕ))) → Option (List (Option (List ℕ))) → List (Option (List ℕ)) → Type 0
HasHeard old now heard = IfSome old (λ all. (left : List (Option (List ℕ))) × (now ≡ Some left) × HearsAll all left heard)

-- what the clock read so far, and what is left of it
abbrev pub HasRead : Option (ℕ → ℕ) → Option (ℕ → ℕ) → ℕ → List Turn → Type 0
HasRead old now first turns =
    IfSome old (λ all. ReadsAll all first turns × (left : ℕ → ℕ) × (now ≡ Some left) × ((n : ℕ) → left n ≡ all (n + (length turns + 1))))

-- A node that was told this has taken these whole turns.
pub record Along (c : Config) (ticks : ℕ) (o0 : Output) (w0 : Wire) (r0 : Option (ℕ → ℕ)) (p : Progress) (time : Timer) (o : Output) (w : Wire) (r : Option (ℕ → ℕ)) : Type 0 where
  pub first : ℕ
  pub turns : List Turn
  pub steps : List Step
  pub come : Come c first turns (happenings steps)
  pub taken : Taken ticks (first_time c first) turns
  pub has : HasCome c o0 w0 steps p o w
  pub timed : time ≡ time_after (first_time c first) turns
  pub hears : HasHeard w0.coming w.coming (heard_by turns)
  pub reads : HasRead r0 r first turns

-- ---- the readings
-- the first reading, where it is known
abbrev pub first_of : Option (ℕ → ℕ) → ℕ
first_of None = 0
first_of (Some all) = all 0

pub reads_unread : (r : Option (ℕ → ℕ)) → IfSome r (λ all. ReadsAll all (first_of r) [])
reads_unread None = tt
reads_unread (Some all) = refl

reads_first : (r0 r : Option (ℕ → ℕ)) (first : ℕ) → Reads r0 r first → HasRead r0 r first []
reads_first None r first p = tt
reads_first (Some all) r first p = (p.first, p.others.0, p.others.1, p.others.2)

one_later : (n m : ℕ) → (n + 1) + (m + 1) ≡ n + (suc m + 1)
one_later n m = omega arith

reads_next : (r0 r r1 : Option (ℕ → ℕ)) (first reading : ℕ) (turns : List Turn) (heard : Option (List ℕ)) → HasRead r0 r first turns → Reads r r1 reading
    → HasRead r0 r1 first (record { heard = heard; reading = reading } ∷ turns)
reads_next None r r1 first reading turns heard p q = tt
reads_next (Some all) r r1 first reading turns heard p q =
    let now = subst (λ (x : Option (ℕ → ℕ)). Reads x r1 reading) p.2 q in (
      (now.first ∙ p.3 0 ∙ ap all (zero-add (length turns + 1)), p.0),
      now.others.0,
      now.others.1,
      λ n. now.others.2 n ∙ p.3 (n + 1) ∙ ap all (one_later n (length turns)),
    )

pub reads_so_far : (r0 r : Option (ℕ → ℕ)) (first : ℕ) (turns : List Turn) → HasRead r0 r first turns → IfSome r0 (λ all. ReadsAll all first turns)
reads_so_far None r first turns p = tt
reads_so_far (Some all) r first turns p = p.0

-- ---- what is heard
hears_none : (s : Option (List (Option (List ℕ)))) → HasHeard s s []
hears_none None = tt
hears_none (Some all) = (all, refl, refl)

hears_next : (s0 s t : Option (List (Option (List ℕ)))) (before : List (Option (List ℕ))) (heard : Option (List ℕ)) → HasHeard s0 s before
    → IfSome s (λ all. (left : List (Option (List ℕ))) × (t ≡ Some left) × HearsOne all left heard) → HasHeard s0 t (heard ∷ before)
hears_next None s t before heard p q = tt
hears_next (Some all) s t before heard p q =
    let now = subst (λ (x : Option (List (Option (List ℕ)))). IfSome x (λ mid. (left : List (Option (List ℕ))) × (t ≡ Some left) × HearsOne mid left heard)) p.1 q in
    (now.0, now.1, (p.0, p.2, now.2))

hears_kept : (s0 s t : Option (List (Option (List ℕ)))) (heard : List (Option (List ℕ))) → t ≡ s → HasHeard s0 s heard → HasHeard s0 t heard
hears_kept s0 s t heard e p = subst (λ (x : Option (List (Option (List ℕ)))). HasHeard s0 x heard) (sym e) p

pub hears_so_far : (s0 s : Option (List (Option (List ℕ)))) (heard : List (Option (List ℕ))) → HasHeard s0 s heard
    → IfSome s0 (λ all. (left : List (Option (List ℕ))) × HearsAll all left heard)
hears_so_far None s heard p = tt
hears_so_far (Some all) s heard p = (p.0, p.2)

-- ---- a turn
-- after a step the link gives what it gave
pub some_coming : (o o1 : Output) (w w1 : Wire) (p q : Progress) (come : Option Happening) (result : Result (Unit {0}) End) → TakesSome come result p q o o1 w w1 → w1.coming ≡ w.coming
some_coming o o1 w w1 p q None (Ok u) t = ap (λ (x : Wire). x.coming) t.2
some_coming o o1 w w1 p q None (Err end) t = absurd t
some_coming o o1 w w1 p q (Some h) (Ok u) t = t.5.coming
some_coming o o1 w w1 p q (Some h) (Err Memory) t = t.3.coming
some_coming o o1 w w1 p q (Some h) (Err Write) t = t.4.coming
some_coming o o1 w w1 p q (Some h) (Err Link) t = absurd t
some_coming o o1 w w1 p q (Some h) (Err Turns) t = absurd t

-- the first reading comes after the first steps
pub along_start : (c : Config) (ticks : ℕ) (o0 o : Output) (w0 w : Wire) (r0 r : Option (ℕ → ℕ)) (p : Progress) (time : Timer) (first : ℕ)
    → Begins (Ok tt) c p o0 o w0 w → Reads r0 r first → time ≡ timer_at c.tick_ms c.seed first → Along c ticks o0 w0 r0 p time o w r
along_start c ticks o0 o w0 w r0 r p time first b q timed =
    record {
      first = first;
      turns = [];
      steps = b.0;
      come = b.2;
      taken = tt;
      has = b.1;
      timed = timed;
      hears = hears_kept w0.coming w0.coming w.coming [] b.3 (hears_none w0.coming);
      reads = reads_first r0 r first q;
    }

-- A turn that has not come to its reading: what was heard was taken.
pub record Half (c : Config) (ticks : ℕ) (o0 : Output) (w0 : Wire) (r0 : Option (ℕ → ℕ)) (p : Progress) (time : Timer) (o : Output) (w : Wire) (r : Option (ℕ → ℕ)) : Type 0 where
  pub first : ℕ
  pub turns : List Turn
  pub steps : List Step
  pub earlier : List Happening
  pub come : Come c first turns earlier
  pub heard : Option (List ℕ)
  pub by : Option Happening
  pub comes : ComesBy heard by
  pub all : happenings steps ≡ put by earlier
  pub taken : Taken ticks (first_time c first) turns
  pub goes_on : GoesOn ticks (time_after (first_time c first) turns)
  pub has : HasCome c o0 w0 steps p o w
  pub timed : time ≡ time_after (first_time c first) turns
  pub hears : HasHeard w0.coming w.coming (heard ∷ heard_by turns)
  pub reads : HasRead r0 r first turns

pub half_turn : (c : Config) (ticks : ℕ) (o0 o o1 : Output) (w0 w wh w1 : Wire) (r0 r : Option (ℕ → ℕ)) (p q : Progress) (time : Timer) (come : Option Happening)
    → Along c ticks o0 w0 r0 p time o w r → GoesOn ticks time → HearsAs (Ok come) w wh → TakesSome come (Ok tt) p q o o1 wh w1
    → Half c ticks o0 w0 r0 q time o1 w1 r
half_turn c ticks o0 o o1 w0 w wh w1 r0 r p q time come a goes h t =
    let taken = some_ok c o0 o o1 w0 wh w1 a.steps p q come (come_still c o0 o w0 w wh a.steps p a.has h.3) t in
    record {
      first = a.first;
      turns = a.turns;
      steps = taken.0;
      earlier = happenings a.steps;
      come = a.come;
      heard = h.0;
      by = come;
      comes = h.1;
      all = taken.2;
      taken = a.taken;
      goes_on = subst (λ (x : Timer). GoesOn ticks x) a.timed goes;
      has = taken.1;
      timed = a.timed;
      hears = hears_kept w0.coming wh.coming w1.coming (h.0 ∷ heard_by a.turns) (some_coming o o1 wh w1 p q come (Ok tt) t)
          (hears_next w0.coming w.coming wh.coming (heard_by a.turns) h.0 a.hears h.2);
      reads = a.reads;
    }

pub whole_turn : (c : Config) (ticks : ℕ) (o0 o o1 : Output) (w0 w w1 : Wire) (r0 r r1 : Option (ℕ → ℕ)) (p q : Progress) (time next : Timer) (reading : ℕ) (word : Option ℕ) (come : Option Happening)
    → Half c ticks o0 w0 r0 p time o w r → Reads r r1 reading → next ≡ timer_after reading time → word ≡ tick_at reading time → come ≡ tick_by word
    → TakesSome come (Ok tt) p q o o1 w w1
    → Along c ticks o0 w0 r0 q next o1 w1 r1
whole_turn c ticks o0 o o1 w0 w w1 r0 r r1 p q time next reading word come a reads timed ticked by t =
    let taken = some_ok c o0 o o1 w0 w w1 a.steps p q come a.has t in
    record {
      first = a.first;
      turns = record { heard = a.heard; reading = reading } ∷ a.turns;
      steps = taken.0;
      come = (
        a.earlier,
        a.by,
        a.come,
        a.comes,
        taken.2 ∙ ap (λ (xs : List Happening). put come xs) a.all
            ∙ ap (λ (o : Option Happening). put o (put a.by a.earlier)) (by ∙ ap tick_by ticked ∙ ap (λ (x : Timer). tick_by (tick_at reading x)) a.timed),
      );
      taken = (a.goes_on, a.taken);
      has = taken.1;
      timed = timed ∙ ap (λ (x : Timer). timer_after reading x) a.timed;
      hears = hears_kept w0.coming w.coming w1.coming (a.heard ∷ heard_by a.turns) (some_coming o o1 w w1 p q come (Ok tt) t) a.hears;
      reads = reads_next r0 r r1 a.first reading a.turns a.heard a.reads reads;
    }

-- ---- how it stops
halted_stops : (c : Config) (ticks : ℕ) (end : End) (o0 o : Output) (w0 w : Wire) (r0 r : Option (ℕ → ℕ)) (come : List Happening) (first : ℕ) (turns : List Turn) (half : List (Option (List ℕ)))
    (earlier : List Happening) (heard : Option Happening)
    → Halted c end o0 w0 come o w → Come c first turns earlier → come ≡ put heard earlier → IfSome r0 (λ all. ReadsAll all first turns)
    → IfSome w0.coming (λ all. (left : List (Option (List ℕ))) × HearsAll all left (half ++ heard_by turns))
    → HalfComes half heard
    → Taken ticks (first_time c first) turns → (half ≡ []) ⊎ GoesOn ticks (time_after (first_time c first) turns)
    → StopsAt c ticks end o0 o w0 w r0
halted_stops c ticks end o0 o w0 w r0 r come first turns half earlier heard h comes is reads hears by taken goes =
    record {
      run = record { first = first; turns = turns; half = half; steps = h.steps; cut = h.cut };
      stopped = h.stopped;
      first_steps = record {
        earlier = earlier;
        come = comes;
        heard = heard;
        half_comes = by;
        more = h.more;
        all = sym is ∙ h.all;
        one_cut = h.one;
        taken = taken;
        goes_on = goes;
      };
      hears = hears;
      reads = reads;
    }

-- before the first turn
pub stops_begin : (c : Config) (ticks : ℕ) (end : End) (o0 o : Output) (w0 w : Wire) (r0 : Option (ℕ → ℕ)) → Halted c end o0 w0 (begins c) o w → StopsAt c ticks end o0 o w0 w r0
stops_begin c ticks end o0 o w0 w r0 h =
    halted_stops c ticks end o0 o w0 w r0 r0 (begins c) (first_of r0) [] [] (begins c) None h refl refl (reads_unread r0)
    (hears_so_far w0.coming w0.coming [] (hears_none w0.coming)) refl tt (inl refl)

pub stops_unbegun : (c : Config) (ticks : ℕ) (end : End) (o0 o : Output) (w0 w : Wire) (r0 : Option (ℕ → ℕ)) (q : Progress) → Begins (Err end) c q o0 o w0 w → StopsAt c ticks end o0 o w0 w r0
stops_unbegun c ticks end o0 o w0 w r0 q b =
    stops_begin c ticks end o0 o w0 w r0 (record { steps = b.0; cut = b.1; stopped = b.2; more = b.3; all = b.4; one = b.5 })

-- memory ran out in a receive
pub stops_hearing : (c : Config) (ticks : ℕ) (o0 o : Output) (w0 w wh : Wire) (r0 r : Option (ℕ → ℕ)) (p : Progress) (time : Timer)
    → Along c ticks o0 w0 r0 p time o w r → SendsNothing w wh → StopsAt c ticks Memory o0 o w0 wh r0
stops_hearing c ticks o0 o w0 w wh r0 r p time a n =
    halted_stops c ticks Memory o0 o w0 wh r0 r (happenings a.steps) a.first a.turns [] (happenings a.steps) None
    (record { steps = a.steps; cut = []; stopped = stop_here c o0 o w0 wh a.steps p (come_still c o0 o w0 w wh a.steps p a.has n); more = []; all = refl; one = omega arith })
    a.come refl (reads_so_far r0 r a.first a.turns a.reads) (hears_so_far w0.coming w.coming (heard_by a.turns) a.hears) refl a.taken (inl refl)

-- what was heard could not be taken
pub stops_heard : (c : Config) (ticks : ℕ) (end : End) (o0 o o1 : Output) (w0 w wh w1 : Wire) (r0 r : Option (ℕ → ℕ)) (p q : Progress) (time : Timer) (come : Option Happening)
    → Along c ticks o0 w0 r0 p time o w r → GoesOn ticks time → HearsAs (Ok come) w wh → TakesSome come (Err end) p q o o1 wh w1
    → StopsAt c ticks end o0 o1 w0 w1 r0
stops_heard c ticks end o0 o o1 w0 w wh w1 r0 r p q time come a goes h t =
    halted_stops c ticks end o0 o1 w0 w1 r0 r (put come (happenings a.steps)) a.first a.turns (h.0 ∷ []) (happenings a.steps) come
    (some_err c o0 o o1 w0 wh w1 a.steps p q come end (come_still c o0 o w0 w wh a.steps p a.has h.3) t)
    a.come refl (reads_so_far r0 r a.first a.turns a.reads)
    (hears_so_far w0.coming wh.coming (h.0 ∷ heard_by a.turns) (hears_next w0.coming w.coming wh.coming (heard_by a.turns) h.0 a.hears h.2))
    (refl, h.1) a.taken (inr (subst (λ (x : Timer). GoesOn ticks x) a.timed goes))

-- the tick could not be taken
pub stops_ticking : (c : Config) (ticks : ℕ) (end : End) (o0 o o1 : Output) (w0 w w1 : Wire) (r0 r r1 : Option (ℕ → ℕ)) (p q : Progress) (time : Timer) (reading : ℕ) (word : Option ℕ) (come : Option Happening)
    → Half c ticks o0 w0 r0 p time o w r → Reads r r1 reading → word ≡ tick_at reading time → come ≡ tick_by word
    → TakesSome come (Err end) p q o o1 w w1
    → StopsAt c ticks end o0 o1 w0 w1 r0
stops_ticking c ticks end o0 o o1 w0 w w1 r0 r r1 p q time reading word come a reads ticked by t =
    let is = by ∙ ap tick_by ticked ∙ ap (λ (x : Timer). tick_by (tick_at reading x)) a.timed in
    halted_stops c ticks end o0 o1 w0 w1 r0 r1 (put come (happenings a.steps)) a.first (record { heard = a.heard; reading = reading } ∷ a.turns) []
    (put (tick_by (tick_at reading (time_after (first_time c a.first) a.turns))) (put a.by a.earlier)) None
    (some_err c o0 o o1 w0 w w1 a.steps p q come end a.has t)
    (a.earlier, a.by, a.come, a.comes, refl)
    (ap (λ (xs : List Happening). put come xs) a.all ∙ ap (λ (o : Option Happening). put o (put a.by a.earlier)) is)
    (reads_so_far r0 r1 a.first (record { heard = a.heard; reading = reading } ∷ a.turns) (reads_next r0 r r1 a.first reading a.turns a.heard a.reads reads))
    (hears_so_far w0.coming w.coming (a.heard ∷ heard_by a.turns) a.hears)
    refl (a.goes_on, a.taken) (inl refl)

-- ---- how it ends
pub ends_whole : (c : Config) (ticks : ℕ) (answer : Status) (o0 o : Output) (w0 w w1 : Wire) (r0 r : Option (ℕ → ℕ)) (p : Progress) (time : Timer)
    → (a : Along c ticks o0 w0 r0 p time o w r) → SendsNothing w w1
    → EndsSo c ticks (record { first = a.first; turns = a.turns; half = []; steps = a.steps; cut = [] }) answer
    → RunsTo c ticks answer p o0 o w0 w1 r0
ends_whole c ticks answer o0 o w0 w w1 r0 r p time a n ends =
    record {
      run = record { first = a.first; turns = a.turns; half = []; steps = a.steps; cut = [] };
      come = come_still c o0 o w0 w w1 a.steps p a.has n;
      ends = ends;
      hears = hears_so_far w0.coming w.coming (heard_by a.turns) a.hears;
      reads = reads_so_far r0 r a.first a.turns a.reads;
    }

pub is_whole : (c : Config) (ticks : ℕ) (o0 o : Output) (w0 w : Wire) (r0 r : Option (ℕ → ℕ)) (p : Progress) (time : Timer)
    → (a : Along c ticks o0 w0 r0 p time o w r) → IsWhole c ticks (record { first = a.first; turns = a.turns; half = []; steps = a.steps; cut = [] })
is_whole c ticks o0 o w0 w r0 r p time a = record { come = a.come; taken = a.taken; half_none = refl; cut_none = refl }

pub sends_same : (w : Wire) → SendsNothing w w
sends_same w = record { sends = refl; losses = refl; bound = refl }

pub ends_done : (c : Config) (ticks : ℕ) (o0 o : Output) (w0 w : Wire) (r0 r : Option (ℕ → ℕ)) (p : Progress) (time : Timer)
    → Along c ticks o0 w0 r0 p time o w r → time.ticks ≡ ticks → RunsTo c ticks status.Done p o0 o w0 w r0
ends_done c ticks o0 o w0 w r0 r p time a is =
    ends_whole c ticks status.Done o0 o w0 w w r0 r p time a (sends_same w) (is_whole c ticks o0 o w0 w r0 r p time a, ap (λ (x : Timer). x.ticks) (sym a.timed) ∙ is)

pub ends_turns : (c : Config) (ticks : ℕ) (o0 o : Output) (w0 w : Wire) (r0 r : Option (ℕ → ℕ)) (p : Progress) (time : Timer)
    → Along c ticks o0 w0 r0 p time o w r → time.idle ≡ most_idle → RunsTo c ticks status.Turns p o0 o w0 w r0
ends_turns c ticks o0 o w0 w r0 r p time a is =
    ends_whole c ticks status.Turns o0 o w0 w w r0 r p time a (sends_same w) (is_whole c ticks o0 o w0 w r0 r p time a, ap (λ (x : Timer). x.idle) (sym a.timed) ∙ is)

pub ends_link : (c : Config) (ticks : ℕ) (o0 o : Output) (w0 w w1 : Wire) (r0 r : Option (ℕ → ℕ)) (p : Progress) (time : Timer)
    → Along c ticks o0 w0 r0 p time o w r → GoesOn ticks time → SendsNothing w w1 → RunsTo c ticks status.Link p o0 o w0 w1 r0
ends_link c ticks o0 o w0 w w1 r0 r p time a goes n =
    ends_whole c ticks status.Link o0 o w0 w w1 r0 r p time a n (is_whole c ticks o0 o w0 w r0 r p time a, subst (λ (x : Timer). GoesOn ticks x) a.timed goes)

-- ---- what a receive gives
pub heard_packet : (coming left : Option (List (Option (List ℕ)))) (room : ℕ) (e : Envelope) → GotSome (got.Envelope e) → Receives coming left room (got.Envelope e) → room ≡ most_bytes
    → (heard : Option (List ℕ)) × ComesBy heard (Some (happening.Packet e))
    × IfSome coming (λ all. (rest : List (Option (List ℕ))) × (left ≡ Some rest) × HearsOne all rest heard)
heard_packet None left room e some r is = (Some some.0, (happening.Packet e, some.1, refl), tt)
heard_packet (Some all) left room e some r is = (
  Some (take room r.2.0),
  (happening.Packet e, r.2.2, refl),
  (r.0, r.1, (r.2.0, r.2.1, ap (λ (n : ℕ). take n r.2.0) is)),
)

pub heard_bad : (coming left : Option (List (Option (List ℕ)))) (room fault : ℕ) → GotSome (got.Bad fault) → Receives coming left room (got.Bad fault) → room ≡ most_bytes
    → (heard : Option (List ℕ)) × ComesBy heard (Some (happening.Bad fault))
    × IfSome coming (λ all. (rest : List (Option (List ℕ))) × (left ≡ Some rest) × HearsOne all rest heard)
heard_bad None left room fault some r is = (Some some.0, (happening.Bad fault, some.1, refl), tt)
heard_bad (Some all) left room fault some r is = (
  Some (take room r.2.0),
  (happening.Bad fault, r.2.2, refl),
  (r.0, r.1, (r.2.0, r.2.1, ap (λ (n : ℕ). take n r.2.0) is)),
)
