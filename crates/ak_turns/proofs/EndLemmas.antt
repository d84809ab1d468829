-- How a run of a node ends, from its turns and the line that is written last.
use Rattle.std.proofs.Common.{◌≡◌, ℕ, ◌⊎◌, List, [], ◌++◌, Option, None, Some, IfSome, Result, Ok, Err, refl, sym, ap, subst, inl, inr, ◌∙◌, arith, length, ◌≤◌}
use Rattle.std.specs.Io.KnownBytes.{Appends}
use Rattle.std.proofs.KnownBytes.{Appends-trans}
use Rattle.ak_address.specs.Unique.{AddressModel}
use Rattle.ak_config.specs.declared.config.Config.{Config}
use Rattle.ak_outside.specs.declared.link.Bound.TheVariants as bound
use Rattle.ak_outside.specs.declared.status.Status.{Status}
use Rattle.ak_outside.specs.declared.status.Status.TheVariants as status
use Rattle.ak_outside.specs.Link.{Sends, Binds}
use Rattle.ak_outside.specs.Outside.{Rose, AppendsPrefix}
use Rattle.ak_outside.proofs.Prefixes.{AppendsPrefix-after, AppendsPrefix-more}
use Rattle.ak_turns.specs.declared.end.End.{End}
use Rattle.ak_turns.specs.declared.end.End.TheVariants.{Memory, Write, Link, Turns}
use Rattle.ak_turns.specs.Control.{WritesLine}
use Rattle.ak_outside.specs.Endings.{memory_line}
use Rattle.ak_turns.specs.Endings.{link_line, turns_line}
use Rattle.ak_turns.specs.Outside.{Output, Wire}
use Rattle.ak_turns.specs.Steps.{Progress, Step, NoneLost, happenings, text_of, all_sends}
use Rattle.ak_turns.specs.NodeRun.{Run, Runs, IsFirstSteps, IsWhole, EndsSo, HalfComes, SendsRun, LosesRun, HearsRun, start_of, progress_at, summary, last_lines}
use Rattle.ak_turns.specs.NodePromise.{EndsAs, RunsBound, RunsConfig, ConfigCause}
use Rattle.ak_turns.specs.TurnsContracts.{LinkCause, RunsTo, StopsAt, RunsTurns}

-- all steps are some first ones
whole_first : (c : Config) (ticks : ℕ) (r : Run) → IsWhole c ticks r → IsFirstSteps c ticks r
whole_first c ticks r w =
    record {
      earlier = happenings r.steps;
      come = w.come;
      heard = None;
      half_comes = subst (λ (half : List (Option (List ℕ))). HalfComes half None) (sym w.half_none) refl;
      more = [];
      all = ap (λ (cut : List Step). happenings cut ++ happenings r.steps) (sym w.cut_none);
      one_cut = subst (λ (cut : List Step). length cut ≤ 1) (sym w.cut_none) (omega arith);
      taken = w.taken;
      goes_on = inl w.half_none;
    }

-- a text and then a line
abbrev LineAfter : List ℕ → List ℕ → Status → Status → Output → Output → Type 0
LineAfter text line ends answer o0 o1 =
    ((answer ≡ ends) × (o1.faults ≡ o0.faults) × Appends o0.written o1.written (text ++ line))
    ⊎ ((answer ≡ status.Write) × Rose o0.faults o1.faults × AppendsPrefix o0.written o1.written (text ++ line))

line_after : (text line : List ℕ) (ends answer : Status) (o0 o o1 : Output) → Appends o0.written o.written text → o.faults ≡ o0.faults → WritesLine ends line answer o o1 → LineAfter text line ends answer o0 o1
line_after text line ends answer o0 o o1 written same (inl w) = inl (w.0, w.1 ∙ same, Appends-trans o0.written o.written o1.written text line written w.2)
line_after text line ends answer o0 o o1 written same (inr w) =
    inr (w.0, subst (λ (n : ℕ). Rose n o1.faults) same w.1, AppendsPrefix-after o0.written o.written o1.written text line written w.2)

-- ---- a run whose turns are whole
whole_sends : (c : Config) (r : Run) (old new : Option Sends) → r.cut ≡ []
    → IfSome new (λ after. (before : Sends) × (old ≡ Some before) × (after ≡ all_sends (start_of c) before r.steps)) → SendsRun c r old new
whole_sends c r old new none s =
    subst (λ (cut : List Step). IfSome new (λ after. (before : Sends) × (old ≡ Some before) × (after ≡ all_sends (progress_at c r) (all_sends (start_of c) before r.steps) cut))) (sym none) s

whole_loses : (r : Run) (old new : ℕ) → r.cut ≡ [] → (NoneLost r.steps × (new ≡ old)) ⊎ Rose old new → LosesRun r old new
whole_loses r old new none (inl s) = inl (s.0, subst (λ (cut : List Step). NoneLost cut) (sym none) tt, s.1)
whole_loses r old new none (inr s) = inr s

whole_runs : (c : Config) (ticks : ℕ) (answer ends : Status) (q : Progress) (o0 o o1 : Output) (w0 w : Wire) (r0 : Option (ℕ → ℕ)) (a : Status)
    → (r : RunsTo c ticks a q o0 o w0 w r0) → r.run.cut ≡ [] → EndsSo c ticks r.run ends
    → LineAfter (text_of (start_of c) r.run.steps) (last_lines (progress_at c r.run) ends) ends answer o0 o1
    → Runs c ticks answer o0 o1 w0 w r0
whole_runs c ticks answer ends q o0 o o1 w0 w r0 a r none so line =
    record {
      run = r.run;
      answered = r.come.answered;
      writes = (ends, so, line);
      sends = whole_sends c r.run w0.sends w.sends none r.come.sends;
      loses = whole_loses r.run w0.losses w.losses none r.come.loses;
      hears = r.hears;
      reads = r.reads;
    }

done_runs : (c : Config) (ticks : ℕ) (answer : Status) (q : Progress) (o0 o o1 : Output) (w0 w : Wire) (r0 : Option (ℕ → ℕ))
    → RunsTo c ticks status.Done q o0 o w0 w r0 → EndsAs (Ok tt) q answer o o1 → Runs c ticks answer o0 o1 w0 w r0
done_runs c ticks answer q o0 o o1 w0 w r0 r (inl l) =
    whole_runs c ticks answer status.Done q o0 o o1 w0 w r0 status.Done r r.ends.0.cut_none r.ends
    (line_after (text_of (start_of c) r.run.steps) (summary (progress_at c r.run)) status.Done answer o0 o o1 r.come.written r.come.faults
    (subst (λ (p : Progress). WritesLine status.Done (summary p) answer o o1) r.come.progress l))
done_runs c ticks answer q o0 o o1 w0 w r0 r (inr l) =
    whole_runs c ticks answer status.Memory q o0 o o1 w0 w r0 status.Done r r.ends.0.cut_none (whole_first c ticks r.run r.ends.0)
    (line_after (text_of (start_of c) r.run.steps) memory_line status.Memory answer o0 o o1 r.come.written r.come.faults l)

-- ---- a run that stopped on the way
stopped_runs : (c : Config) (ticks : ℕ) (end : End) (answer : Status) (o0 o o1 : Output) (w0 w : Wire) (r0 : Option (ℕ → ℕ)) (r : StopsAt c ticks end o0 o w0 w r0)
    → LineAfter (text_of (start_of c) r.run.steps) memory_line status.Memory answer o0 o1 → Runs c ticks answer o0 o1 w0 w r0
stopped_runs c ticks end answer o0 o o1 w0 w r0 r line =
    record {
      run = r.run;
      answered = r.stopped.answered;
      writes = (status.Memory, r.first_steps, line);
      sends = r.stopped.sends;
      loses = r.stopped.loses;
      hears = r.hears;
      reads = r.reads;
    }

runs_ended : (c : Config) (ticks : ℕ) (end : Result (Unit {0}) End) (answer : Status) (q : Progress) (o0 o o1 : Output) (w0 w : Wire) (r0 : Option (ℕ → ℕ))
    → RunsTurns end c ticks q o0 o w0 w r0 → EndsAs end q answer o o1 → Runs c ticks answer o0 o1 w0 w r0
runs_ended c ticks (Ok u) answer q o0 o o1 w0 w r0 r l = done_runs c ticks answer q o0 o o1 w0 w r0 r l
runs_ended c ticks (Err Turns) answer q o0 o o1 w0 w r0 r l =
    whole_runs c ticks answer status.Turns q o0 o o1 w0 w r0 status.Turns r r.ends.0.cut_none r.ends
    (line_after (text_of (start_of c) r.run.steps) turns_line status.Turns answer o0 o o1 r.come.written r.come.faults l)
runs_ended c ticks (Err Link) answer q o0 o o1 w0 w r0 r l =
    whole_runs c ticks answer status.Link q o0 o o1 w0 w r0 status.Link r r.ends.0.cut_none r.ends
    (line_after (text_of (start_of c) r.run.steps) link_line status.Link answer o0 o o1 r.come.written r.come.faults l)
runs_ended c ticks (Err Memory) answer q o0 o o1 w0 w r0 r l =
    stopped_runs c ticks Memory answer o0 o o1 w0 w r0 r
    (line_after (text_of (start_of c) r.run.steps) memory_line status.Memory answer o0 o o1 r.stopped.writes.0 r.stopped.writes.1 l)
runs_ended c ticks (Err Write) answer q o0 o o1 w0 w r0 r l =
    stopped_runs c ticks Write answer o0 o o1 w0 w r0 r
    (inr (
      l.0,
      subst (λ (x : Output). Rose o0.faults x.faults) (sym l.1) r.stopped.writes.1,
      subst (λ (x : Output). AppendsPrefix o0.written x.written (text_of (start_of c) r.run.steps ++ memory_line)) (sym l.1)
          (AppendsPrefix-more o0.written o.written (text_of (start_of c) r.run.steps) memory_line r.stopped.writes.0),
    ))

runs_bound : (c : Config) (ticks : ℕ) (end : Result (Unit {0}) End) (q : Progress) (o0 o : Output) (w0 w : Wire) (r0 : Option (ℕ → ℕ)) → RunsTurns end c ticks q o0 o w0 w r0 → w.bound ≡ w0.bound
runs_bound c ticks (Ok u) q o0 o w0 w r0 r = r.come.bound
runs_bound c ticks (Err Turns) q o0 o w0 w r0 r = r.come.bound
runs_bound c ticks (Err Link) q o0 o w0 w r0 r = r.come.bound
runs_bound c ticks (Err Memory) q o0 o w0 w r0 r = r.stopped.bound
runs_bound c ticks (Err Write) q o0 o w0 w r0 r = r.stopped.bound

pub bound_ended : (c : Config) (ticks : ℕ) (end : Result (Unit {0}) End) (answer : Status) (q : Progress) (o0 o o1 : Output) (w0 w : Wire) (r0 : Option (ℕ → ℕ))
    → RunsTurns end c ticks q o0 o w0 w r0 → EndsAs end q answer o o1 → RunsBound c ticks answer o0 o1 w0 w r0
bound_ended c ticks end answer q o0 o o1 w0 w r0 r l = (runs_bound c ticks end q o0 o w0 w r0 r, runs_ended c ticks end answer q o0 o o1 w0 w r0 r l)

-- ---- causes
pub config_line : (ends answer : Status) (line : List ℕ) (o0 o o1 : Output) (l0 l1 : ℕ) → o.faults ≡ o0.faults → WritesLine ends line answer o o1
    → ((e : o1.faults ≡ o0.faults) → ConfigCause ends o0.faults o1.faults l0 l1) → ConfigCause answer o0.faults o1.faults l0 l1
config_line ends answer line o0 o o1 l0 l1 same (inl w) so = subst (λ (s : Status). ConfigCause s o0.faults o1.faults l0 l1) (sym w.0) (so (w.1 ∙ same))
config_line ends answer line o0 o o1 l0 l1 same (inr w) so =
    subst (λ (s : Status). ConfigCause s o0.faults o1.faults l0 l1) (sym w.0) (subst (λ (n : ℕ). Rose n o1.faults) same w.1)

pub config_cause : (c : Config) (ticks : ℕ) (end : Result (Unit {0}) End) (answer : Status) (q : Progress) (o0 o o1 : Output) (w0 w : Wire) (r0 : Option (ℕ → ℕ)) (l0 l1 : ℕ)
    → RunsTurns end c ticks q o0 o w0 w r0 → LinkCause end l0 l1 → EndsAs end q answer o o1 → ConfigCause answer o0.faults o1.faults l0 l1
config_cause c ticks (Ok u) answer q o0 o o1 w0 w r0 l0 l1 r cause (inl l) = config_line status.Done answer (summary q) o0 o o1 l0 l1 r.come.faults l (λ e. (e, cause))
config_cause c ticks (Ok u) answer q o0 o o1 w0 w r0 l0 l1 r cause (inr l) = config_line status.Memory answer memory_line o0 o o1 l0 l1 r.come.faults l (λ e. (e, cause))
config_cause c ticks (Err Turns) answer q o0 o o1 w0 w r0 l0 l1 r cause l = config_line status.Turns answer turns_line o0 o o1 l0 l1 r.come.faults l (λ e. (e, cause))
config_cause c ticks (Err Link) answer q o0 o o1 w0 w r0 l0 l1 r cause l = config_line status.Link answer link_line o0 o o1 l0 l1 r.come.faults l (λ e. (e, cause))
config_cause c ticks (Err Memory) answer q o0 o o1 w0 w r0 l0 l1 r cause l = config_line status.Memory answer memory_line o0 o o1 l0 l1 r.stopped.writes.1 l (λ e. (e, cause))
config_cause c ticks (Err Write) answer q o0 o o1 w0 w r0 l0 l1 r cause l =
    subst (λ (s : Status). ConfigCause s o0.faults o1.faults l0 l1) (sym l.0) (subst (λ (x : Output). Rose o0.faults x.faults) (sym l.1) r.stopped.writes.1)

-- ---- the bind
-- what a bind leaves of a link
runs_from : (c : Config) (ticks : ℕ) (answer : Status) (o0 o1 : Output) (w0 w w1 : Wire) (r0 : Option (ℕ → ℕ)) → w.sends ≡ w0.sends → w.losses ≡ w0.losses → w.coming ≡ w0.coming
    → Runs c ticks answer o0 o1 w w1 r0 → Runs c ticks answer o0 o1 w0 w1 r0
runs_from c ticks answer o0 o1 w0 w w1 r0 sends losses coming r =
    record {
      run = r.run;
      answered = r.answered;
      writes = r.writes;
      sends = subst (λ (x : Option Sends). SendsRun c r.run x w1.sends) sends r.sends;
      loses = subst (λ (x : ℕ). LosesRun r.run x w1.losses) losses r.loses;
      hears = subst (λ (x : Option (List (Option (List ℕ)))). HearsRun r.run x) coming r.hears;
      reads = r.reads;
    }

pub config_bound : (c : Config) (ticks : ℕ) (answer : Status) (o0 o1 : Output) (w0 w w1 : Wire) (r0 : Option (ℕ → ℕ)) → Binds w0.bound w.bound (Some c.me.address) bound.Ready
    → w.sends ≡ w0.sends → w.losses ≡ w0.losses → w.coming ≡ w0.coming → RunsBound c ticks answer o0 o1 w w1 r0 → RunsConfig c ticks answer o0 o1 w0 w1 r0
config_bound c ticks answer o0 o1 w0 w w1 r0 binds sends losses coming r =
    inr (
      subst (λ (x : Option (Option AddressModel)). Binds w0.bound x (Some c.me.address) bound.Ready) (sym r.0) binds,
      runs_from c ticks answer o0 o1 w0 w w1 r0 sends losses coming r.1,
    )
