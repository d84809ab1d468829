-- Words of the contracts of a node's calls.
use Rattle.std.specs.Prelude.{◌≡◌, ℕ, ◌+◌, ◌*◌, ◌^◌, ◌≤◌, ◌⊎◌, List, [], ◌∷◌, ◌++◌, length, Option, None, Some, IfSome, Result, Ok, Err}
use Rattle.std.specs.Io.KnownBytes.{Appends}
use Rattle.std.specs.declared.alloc.AllocError.{AllocError}
use Rattle.ak_gossip.specs.Gossip.{GossipState}
use Rattle.ak_outside.specs.declared.link.Sent.{Sent}
use Rattle.ak_outside.specs.Link.{Sends}
use Rattle.ak_outside.specs.Outside.{Rose, AppendsPrefix}
use Rattle.ak_wire.specs.declared.action.Action.{Action}
use Rattle.ak_wire.specs.declared.envelope.Envelope.{Envelope}
use Rattle.ak_wire.specs.Wire.{envelope_of, put, sent}
use Rattle.ak_report.specs.ActionText.{item, action_text, next_packet}
use Rattle.ak_turns.specs.declared.end.End.{End}
use Rattle.ak_turns.specs.declared.end.End.TheVariants.{Memory, Write, Link, Turns}
use Rattle.ak_turns.specs.declared.happening.Happening.{Happening}
use Rattle.ak_turns.specs.declared.process.Process.{Process}
use Rattle.ak_config.specs.declared.config.Config.{Config}
use Rattle.ak_turns.specs.Steps.{Progress, Step, AreAnswered, NoneLost, next, step_text, items_text, lost_text, packets_of, happenings, progress_after, text_of, all_sends}
use Rattle.ak_turns.specs.Turns.{ComesBy, HearsOne, begins}
use Rattle.ak_turns.specs.NodeRun.{Run, IsFirstSteps, EndsSo, HearsRun, ReadsRun, start_of}
use Rattle.ak_outside.specs.declared.status.Status as status
use Rattle.ak_turns.specs.Outside.{Output, Wire, SendsPackets, SendsNothing}

-- a packet was sent, and that it is lost is printed where the send failed; where memory ran out it may have been sent
abbrev pub SendsOne : Result (Unit {0}) AllocError → ℕ → Envelope → List ℕ → List ℕ → Wire → Wire → Type 0
SendsOne (Ok u) number e old new w0 w1 =
    (answer : Sent) × (new ≡ old ++ lost_text (Some e) number (answer ∷ [])) × SendsPackets w0 w1 (e ∷ []) (answer ∷ [])
SendsOne (Err _) number e old new w0 w1 = (answers : List Sent) × (length answers ≤ 1) × SendsPackets w0 w1 (e ∷ []) answers

-- an action was printed, and its packet sent at once; where memory ran out the packet may have been sent
abbrev pub TellsOne : Result ℕ AllocError → GossipState → ℕ → Action → List ℕ → List ℕ → Wire → Wire → Type 0
TellsOne (Ok after) g number a old new w0 w1 =
    (answers : List Sent) × (length answers ≡ length (put (envelope_of a) []))
    × (after ≡ next_packet a number)
    × (new ≡ old ++ (item (action_text g number a) ++ lost_text (envelope_of a) number answers))
    × SendsPackets w0 w1 (put (envelope_of a) []) answers
TellsOne (Err _) g number a old new w0 w1 =
    (answers : List Sent) × (length answers ≤ length (put (envelope_of a) [])) × SendsPackets w0 w1 (put (envelope_of a) []) answers

-- the same of all actions
abbrev pub TellsAll : Result ℕ AllocError → GossipState → ℕ → List Action → List ℕ → List ℕ → Wire → Wire → Type 0
TellsAll (Ok after) g number actions old new w0 w1 =
    (answers : List Sent) × (length answers ≡ length (sent actions))
    × (after ≡ number + length (sent actions))
    × (new ≡ old ++ items_text g number actions answers)
    × SendsPackets w0 w1 (sent actions) answers
TellsAll (Err _) g number actions old new w0 w1 =
    (answers : List Sent) × (length answers ≤ length (sent actions)) × SendsPackets w0 w1 (sent actions) answers

-- a step was taken, and its text printed; where memory ran out some of its packets may have been sent
abbrev pub TellsStep : Result (Unit {0}) AllocError → Happening → Progress → Progress → List ℕ → List ℕ → Wire → Wire → Type 0
TellsStep (Ok u) h p q old new w0 w1 =
    (answers : List Sent) × (length answers ≡ length (packets_of h p.node))
    × (q ≡ next h p)
    × (new ≡ old ++ step_text p h answers)
    × SendsPackets w0 w1 (packets_of h p.node) answers
TellsStep (Err _) h p q old new w0 w1 =
    (answers : List Sent) × (length answers ≤ length (packets_of h p.node)) × SendsPackets w0 w1 (packets_of h p.node) answers

-- a step was taken and written; or memory ran out on the way, and nothing of it was written; or the sink failed on the way
abbrev pub TakesStep : Result (Unit {0}) End → Happening → Progress → Progress → Output → Output → Wire → Wire → Type 0
TakesStep (Ok u) h p q o0 o1 w0 w1 =
    (answers : List Sent) × (length answers ≡ length (packets_of h p.node))
    × (q ≡ next h p)
    × Appends o0.written o1.written (step_text p h answers) × (o1.faults ≡ o0.faults)
    × SendsPackets w0 w1 (packets_of h p.node) answers
TakesStep (Err Memory) h p q o0 o1 w0 w1 =
    (answers : List Sent) × (length answers ≤ length (packets_of h p.node))
    × (o1 ≡ o0)
    × SendsPackets w0 w1 (packets_of h p.node) answers
TakesStep (Err Write) h p q o0 o1 w0 w1 =
    (answers : List Sent) × (length answers ≡ length (packets_of h p.node))
    × AppendsPrefix o0.written o1.written (step_text p h answers) × Rose o0.faults o1.faults
    × SendsPackets w0 w1 (packets_of h p.node) answers
TakesStep (Err Link) h p q o0 o1 w0 w1 = ⊥
TakesStep (Err Turns) h p q o0 o1 w0 w1 = ⊥

-- how far a node has come
abbrev pub progress_of : Process → Progress
progress_of r = record { node = r.node.state; steps = r.steps; asked = r.asked }

-- the counts are no greater than so many steps may make them: so none passes the end of its type
pub record IsCounted (p : Progress) : Type 0 where
  pub node_steps : p.node.steps ≤ p.steps
  pub sends : p.asked ≤ p.steps * 2 ^ 64

-- a step was taken where something came, and nothing done where nothing did
abbrev pub TakesSome : Option Happening → Result (Unit {0}) End → Progress → Progress → Output → Output → Wire → Wire → Type 0
TakesSome None (Ok u) p q o0 o1 w0 w1 = (q ≡ p) × (o1 ≡ o0) × (w1 ≡ w0)
TakesSome None (Err end) p q o0 o1 w0 w1 = ⊥
TakesSome (Some h) result p q o0 o1 w0 w1 = TakesStep result h p q o0 o1 w0 w1

-- the link's count of faults rose where it failed, and nowhere else
abbrev pub LinkCause : {X : Type 0} → Result X End → ℕ → ℕ → Type 0
LinkCause (Ok x) old new = new ≡ old
LinkCause (Err Memory) old new = new ≡ old
LinkCause (Err Write) old new = new ≡ old
LinkCause (Err Link) old new = Rose old new
LinkCause (Err Turns) old new = new ≡ old

-- this was heard, and came as this; or the link failed, or memory ran out
abbrev pub HearsAs : Result (Option Happening) End → Wire → Wire → Type 0
HearsAs (Ok come) old new =
    (heard : Option (List ℕ)) × ComesBy heard come
    × IfSome old.coming (λ all. (left : List (Option (List ℕ))) × (new.coming ≡ Some left) × HearsOne all left heard)
    × SendsNothing old new
HearsAs (Err Memory) old new = SendsNothing old new
HearsAs (Err Link) old new = SendsNothing old new
HearsAs (Err Write) old new = ⊥
HearsAs (Err Turns) old new = ⊥

-- A node that was told this has come so far: it took these steps, the last one first, and they are written and their packets sent.
pub record HasCome (c : Config) (o0 : Output) (w0 : Wire) (steps : List Step) (p : Progress) (o : Output) (w : Wire) : Type 0 where
  pub progress : p ≡ progress_after (start_of c) steps
  pub answered : AreAnswered (start_of c) steps
  pub written : Appends o0.written o.written (text_of (start_of c) steps)
  pub faults : o.faults ≡ o0.faults
  pub sends : IfSome w.sends (λ after. (before : Sends) × (w0.sends ≡ Some before) × (after ≡ all_sends (start_of c) before steps))
  pub rises : w0.losses ≤ w.losses
  pub loses : (NoneLost steps × (w.losses ≡ w0.losses)) ⊎ Rose w0.losses w.losses
  pub bound : w.bound ≡ w0.bound

-- memory ran out, and the whole text was written; or the sink failed after a prefix of it
abbrev pub StopWrites : End → List ℕ → Output → Output → Type 0
StopWrites Memory text o0 o = Appends o0.written o.written text × (o.faults ≡ o0.faults)
StopWrites Write text o0 o = AppendsPrefix o0.written o.written text × Rose o0.faults o.faults
StopWrites Link text o0 o = ⊥
StopWrites Turns text o0 o = ⊥

-- It came so far and then stopped: of a step that was cut some first packets may have been sent.
pub record HasStopped (c : Config) (end : End) (o0 : Output) (w0 : Wire) (steps cut : List Step) (o : Output) (w : Wire) : Type 0 where
  pub answered : AreAnswered (start_of c) steps
  pub writes : StopWrites end (text_of (start_of c) steps) o0 o
  pub sends : IfSome w.sends (λ after. (before : Sends) × (w0.sends ≡ Some before)
      × (after ≡ all_sends (progress_after (start_of c) steps) (all_sends (start_of c) before steps) cut))
  pub loses : (NoneLost steps × NoneLost cut × (w.losses ≡ w0.losses)) ⊎ Rose w0.losses w.losses
  pub bound : w.bound ≡ w0.bound

-- it took the steps before its first turn
abbrev pub Begins : Result (Unit {0}) End → Config → Progress → Output → Output → Wire → Wire → Type 0
Begins (Ok u) c q o0 o1 w0 w1 = (steps : List Step) × HasCome c o0 w0 steps q o1 w1 × (happenings steps ≡ begins c) × (w1.coming ≡ w0.coming)
Begins (Err end) c q o0 o1 w0 w1 =
    (steps : List Step) × (cut : List Step) × HasStopped c end o0 w0 steps cut o1 w1
    × (more : List Happening) × (begins c ≡ more ++ (happenings cut ++ happenings steps)) × (length cut ≤ 1)

-- a run of the node that came to this end
pub record RunsTo (c : Config) (ticks : ℕ) (answer : status.Status) (q : Progress) (o0 o1 : Output) (w0 w1 : Wire) (readings : Option (ℕ → ℕ)) : Type 0 where
  pub run : Run
  pub come : HasCome c o0 w0 run.steps q o1 w1
  pub ends : EndsSo c ticks run answer
  pub hears : HearsRun run w0.coming
  pub reads : ReadsRun run readings

-- a run that stopped on the way
pub record StopsAt (c : Config) (ticks : ℕ) (end : End) (o0 o1 : Output) (w0 w1 : Wire) (readings : Option (ℕ → ℕ)) : Type 0 where
  pub run : Run
  pub stopped : HasStopped c end o0 w0 run.steps run.cut o1 w1
  pub first_steps : IsFirstSteps c ticks run
  pub hears : HearsRun run w0.coming
  pub reads : ReadsRun run readings

abbrev pub RunsTurns : Result (Unit {0}) End → Config → ℕ → Progress → Output → Output → Wire → Wire → Option (ℕ → ℕ) → Type 0
RunsTurns (Ok u) c ticks q o0 o1 w0 w1 readings = RunsTo c ticks status.TheVariants.Done q o0 o1 w0 w1 readings
RunsTurns (Err Turns) c ticks q o0 o1 w0 w1 readings = RunsTo c ticks status.TheVariants.Turns q o0 o1 w0 w1 readings
RunsTurns (Err Link) c ticks q o0 o1 w0 w1 readings = RunsTo c ticks status.TheVariants.Link q o0 o1 w0 w1 readings
RunsTurns (Err Memory) c ticks q o0 o1 w0 w1 readings = StopsAt c ticks Memory o0 o1 w0 w1 readings
RunsTurns (Err Write) c ticks q o0 o1 w0 w1 readings = StopsAt c ticks Write o0 o1 w0 w1 readings
