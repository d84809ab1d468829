-- How far a node has come by its steps.
use Rattle.std.proofs.Common.{◌≡◌, ℕ, ◌≤◌, ◌⊎◌, List, [], ◌∷◌, ◌++◌, length, Option, Some, None, IfSome, Ok, Err, refl, sym, ap, subst, inl, inr, ◌∙◌, arith}
use Rattle.std.specs.Io.KnownBytes.{Appends}
use Rattle.std.proofs.KnownBytes.{Appends-trans, Appends-nil}
use Rattle.ak_outside.specs.declared.link.Sent.{Sent}
use Rattle.ak_outside.specs.Link.{Sends}
use Rattle.ak_outside.specs.Outside.{Rose, AppendsPrefix}
use Rattle.ak_outside.proofs.Prefixes.{AppendsPrefix-after}
use Rattle.ak_config.specs.declared.config.Config.{Config}
use Rattle.ak_wire.specs.Wire.{put}
use Rattle.ak_turns.specs.declared.end.End.{End}
use Rattle.ak_turns.specs.declared.end.End.TheVariants.{Memory, Write, Link, Turns}
use Rattle.ak_turns.specs.declared.happening.Happening.{Happening}
use Rattle.ak_turns.specs.Outside.{Output, Wire, MakesSends, CountsLosses, SendsNothing}
use Rattle.ak_turns.specs.Steps.{Progress, Step, AllSent, NoneLost, next, step_text, packets_of, happenings, progress_after, text_of, all_sends, sends_of}
use Rattle.ak_turns.specs.NodeRun.{start_of}
use Rattle.ak_turns.specs.TurnsContracts.{TakesStep, TakesSome, HasCome, HasStopped}
use Rattle.ak_turns.proofs.SendLemmas.{rose_more, rose_after}

-- before the first step
come_no_sends : (c : Config) (s : Option Sends) → IfSome s (λ after. (before : Sends) × (s ≡ Some before) × (after ≡ all_sends (start_of c) before []))
come_no_sends c None = tt
come_no_sends c (Some k) = (k, refl, refl)

pub come_start : (c : Config) (p : Progress) (o : Output) (w : Wire) → p ≡ start_of c → HasCome c o w [] p o w
come_start c p o w is =
    record {
      progress = is;
      answered = tt;
      written = Appends-nil o.written;
      faults = refl;
      sends = come_no_sends c w.sends;
      rises = omega arith;
      loses = inl (tt, refl);
      bound = refl;
    }

-- one step more sends its packets
more_sends : (c : Config) (s0 s t : Option Sends) (steps : List Step) (h : Happening) (answers : List Sent)
    → IfSome s (λ after. (before : Sends) × (s0 ≡ Some before) × (after ≡ all_sends (start_of c) before steps))
    → MakesSends s t (packets_of h (progress_after (start_of c) steps).node) answers
    → IfSome t (λ after. (before : Sends) × (s0 ≡ Some before)
    × (after ≡ sends_of (all_sends (start_of c) before steps) (packets_of h (progress_after (start_of c) steps).node) answers))
more_sends c s0 s None steps h answers p q = tt
more_sends c s0 s (Some after) steps h answers p q =
    let P : Option Sends → Type 0 = λ x. IfSome x (λ mid. (before : Sends) × (s0 ≡ Some before) × (mid ≡ all_sends (start_of c) before steps)) in
    let before = subst P q.1 p in
    (before.0, before.1, q.2 ∙ ap (λ (k : Sends). sends_of k (packets_of h (progress_after (start_of c) steps).node) answers) before.2)

more_loses : (a b d : ℕ) (steps : List Step) (answers : List Sent) → a ≤ b → (NoneLost steps × (b ≡ a)) ⊎ Rose a b → CountsLosses b d answers
    → (AllSent answers × NoneLost steps × (d ≡ a)) ⊎ Rose a d
more_loses a b d steps answers rises (inl same) q =
    elim q.1 [
      | inl still ↦ inl (still.0, same.0, still.1 ∙ same.1)
      | inr rose ↦ inr (rose_after a b d rises rose)
    ]
more_loses a b d steps answers rises (inr rose) q = inr (rose_more a b d rose rises q.0)

-- a step was taken and written
pub come_more : (c : Config) (o0 o o1 : Output) (w0 w w1 : Wire) (steps : List Step) (p q : Progress) (h : Happening)
    → HasCome c o0 w0 steps p o w → (t : TakesStep (Ok tt) h p q o o1 w w1) → HasCome c o0 w0 (record { happening = h; answers = t.0 } ∷ steps) q o1 w1
come_more c o0 o o1 w0 w w1 steps p q h come t =
    let u = subst (λ (x : Progress). TakesStep (Ok tt) h x q o o1 w w1) come.progress t in
    let is : p ≡ progress_after (start_of c) steps = come.progress in
    record {
      progress = t.2 ∙ ap (λ (x : Progress). next h x) is;
      answered = (t.1 ∙ ap (λ (x : Progress). length (packets_of h x.node)) is, come.answered);
      written = Appends-trans o0.written o.written o1.written _ _ come.written (subst (λ (x : Progress). Appends o.written o1.written (step_text x h t.0)) is t.3);
      faults = t.4 ∙ come.faults;
      sends = more_sends c w0.sends w.sends w1.sends steps h t.0 come.sends
          (subst (λ (x : Progress). MakesSends w.sends w1.sends (packets_of h x.node) t.0) is t.5.sends);
      rises = omega (arith, come.rises, t.5.losses.0);
      loses = elim (more_loses w0.losses w.losses w1.losses steps t.0 come.rises come.loses t.5.losses) [
        | inl none ↦ inl ((none.0, none.1), none.2)
        | inr rose ↦ inr rose
      ];
      bound = t.5.bound ∙ come.bound;
    }

-- nothing is sent
pub come_still : (c : Config) (o0 o : Output) (w0 w w1 : Wire) (steps : List Step) (p : Progress) → HasCome c o0 w0 steps p o w → SendsNothing w w1 → HasCome c o0 w0 steps p o w1
come_still c o0 o w0 w w1 steps p come n =
    record {
      progress = come.progress;
      answered = come.answered;
      written = come.written;
      faults = come.faults;
      sends = subst (λ (s : Option Sends). IfSome s (λ after. (before : Sends) × (w0.sends ≡ Some before) × (after ≡ all_sends (start_of c) before steps))) (sym n.sends) come.sends;
      rises = omega (arith, come.rises, n.losses);
      loses = subst (λ (l : ℕ). (NoneLost steps × (l ≡ w0.losses)) ⊎ Rose w0.losses l) (sym n.losses) come.loses;
      bound = n.bound ∙ come.bound;
    }

-- memory ran out in a step
pub stop_cut : (c : Config) (o0 o o1 : Output) (w0 w w1 : Wire) (steps : List Step) (p q : Progress) (h : Happening)
    → HasCome c o0 w0 steps p o w → (t : TakesStep (Err Memory) h p q o o1 w w1)
    → HasStopped c Memory o0 w0 steps (record { happening = h; answers = t.0 } ∷ []) o1 w1
stop_cut c o0 o o1 w0 w w1 steps p q h come t =
    let is : p ≡ progress_after (start_of c) steps = come.progress in
    record {
      answered = come.answered;
      writes = (
        subst (λ (x : Output). Appends o0.written x.written (text_of (start_of c) steps)) (sym t.2) come.written,
        ap (λ (x : Output). x.faults) t.2 ∙ come.faults,
      );
      sends = more_sends c w0.sends w.sends w1.sends steps h t.0 come.sends
          (subst (λ (x : Progress). MakesSends w.sends w1.sends (packets_of h x.node) t.0) is t.3.sends);
      loses = elim (more_loses w0.losses w.losses w1.losses steps t.0 come.rises come.loses t.3.losses) [
        | inl none ↦ inl (none.1, (none.0, tt), none.2)
        | inr rose ↦ inr rose
      ];
      bound = t.3.bound ∙ come.bound;
    }

-- the sink failed in a step
pub stop_write : (c : Config) (o0 o o1 : Output) (w0 w w1 : Wire) (steps : List Step) (p q : Progress) (h : Happening)
    → HasCome c o0 w0 steps p o w → (t : TakesStep (Err Write) h p q o o1 w w1)
    → HasStopped c Write o0 w0 (record { happening = h; answers = t.0 } ∷ steps) [] o1 w1
stop_write c o0 o o1 w0 w w1 steps p q h come t =
    let is : p ≡ progress_after (start_of c) steps = come.progress in
    record {
      answered = (t.1 ∙ ap (λ (x : Progress). length (packets_of h x.node)) is, come.answered);
      writes = (
        AppendsPrefix-after o0.written o.written o1.written _ _ come.written (subst (λ (x : Progress). AppendsPrefix o.written o1.written (step_text x h t.0)) is t.2),
        subst (λ (n : ℕ). Rose n o1.faults) come.faults t.3,
      );
      sends = more_sends c w0.sends w.sends w1.sends steps h t.0 come.sends
          (subst (λ (x : Progress). MakesSends w.sends w1.sends (packets_of h x.node) t.0) is t.4.sends);
      loses = elim (more_loses w0.losses w.losses w1.losses steps t.0 come.rises come.loses t.4.losses) [
        | inl none ↦ inl ((none.0, none.1), tt, none.2)
        | inr rose ↦ inr rose
      ];
      bound = t.4.bound ∙ come.bound;
    }

-- memory ran out between steps
pub stop_here : (c : Config) (o0 o : Output) (w0 w : Wire) (steps : List Step) (p : Progress) → HasCome c o0 w0 steps p o w → HasStopped c Memory o0 w0 steps [] o w
stop_here c o0 o w0 w steps p come =
    record {
      answered = come.answered;
      writes = (come.written, come.faults);
      sends = come.sends;
      loses = elim come.loses [ inl none ↦ inl (none.0, tt, none.1) | inr rose ↦ inr rose ];
      bound = come.bound;
    }

-- what came was taken, where something came
pub some_ok : (c : Config) (o0 o o1 : Output) (w0 w w1 : Wire) (steps : List Step) (p q : Progress) (come : Option Happening)
    → HasCome c o0 w0 steps p o w → TakesSome come (Ok tt) p q o o1 w w1
    → (more : List Step) × HasCome c o0 w0 more q o1 w1 × (happenings more ≡ put come (happenings steps))
some_ok c o0 o o1 w0 w w1 steps p q None has t = (
  steps,
  subst (λ (x : Wire). HasCome c o0 w0 steps q o1 x) (sym t.2)
      (subst (λ (x : Output). HasCome c o0 w0 steps q x w) (sym t.1) (subst (λ (x : Progress). HasCome c o0 w0 steps x o w) (sym t.0) has)),
  refl,
)
some_ok c o0 o o1 w0 w w1 steps p q (Some h) has t = (record { happening = h; answers = t.0 } ∷ steps, come_more c o0 o o1 w0 w w1 steps p q h has t, refl)

-- the steps that were taken and written, and one that was cut, where what came could not be taken
pub record Halted (c : Config) (end : End) (o0 : Output) (w0 : Wire) (come : List Happening) (o : Output) (w : Wire) : Type 0 where
  pub steps : List Step
  pub cut : List Step
  pub stopped : HasStopped c end o0 w0 steps cut o w
  pub more : List Happening
  pub all : come ≡ more ++ (happenings cut ++ happenings steps)
  pub one : length cut ≤ 1

pub some_err : (c : Config) (o0 o o1 : Output) (w0 w w1 : Wire) (steps : List Step) (p q : Progress) (come : Option Happening) (end : End)
    → HasCome c o0 w0 steps p o w → TakesSome come (Err end) p q o o1 w w1 → Halted c end o0 w0 (put come (happenings steps)) o1 w1
some_err c o0 o o1 w0 w w1 steps p q None end has t = absurd t
some_err c o0 o o1 w0 w w1 steps p q (Some h) Memory has t =
    record { steps = steps; cut = record { happening = h; answers = t.0 } ∷ []; stopped = stop_cut c o0 o o1 w0 w w1 steps p q h has t; more = []; all = refl; one = omega arith }
some_err c o0 o o1 w0 w w1 steps p q (Some h) Write has t =
    record { steps = record { happening = h; answers = t.0 } ∷ steps; cut = []; stopped = stop_write c o0 o o1 w0 w w1 steps p q h has t; more = []; all = refl; one = omega arith }
some_err c o0 o o1 w0 w w1 steps p q (Some h) Link has t = absurd t
some_err c o0 o o1 w0 w w1 steps p q (Some h) Turns has t = absurd t

-- more may have come
pub halted_more : (c : Config) (end : End) (o0 : Output) (w0 : Wire) (come : List Happening) (later : Option Happening) (o : Output) (w : Wire)
    → Halted c end o0 w0 come o w → Halted c end o0 w0 (put later come) o w
halted_more c end o0 w0 come None o w h = h
halted_more c end o0 w0 come (Some l) o w h =
    record { steps = h.steps; cut = h.cut; stopped = h.stopped; more = l ∷ h.more; all = ap (λ (xs : List Happening). l ∷ xs) h.all; one = h.one }
