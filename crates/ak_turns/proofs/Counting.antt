-- The counts of a node's steps and sends stay within their types.
use Rattle.std.proofs.Common.{◌≡◌, ℕ, ◌+◌, ◌≤◌, Bool, true, false, List, [], Option, Some, None, Result, Err, refl, sym, ap, subst, arith}
use Rattle.std.specs.declared.alloc.AllocError.{AllocError}
use Rattle.ak_node.specs.declared.node.State.{State}
use Rattle.ak_node.specs.declared.node.NodeEvent.{NodeEvent}
use Rattle.ak_node.specs.Node.{Outcome, step}
use Rattle.ak_node.proofs.NodeLemmas.{stopped_is}
use Rattle.ak_node.proofs.StepChanges.{step_changes}
use Rattle.ak_turns.specs.declared.happening.Happening.{Happening}
use Rattle.ak_turns.specs.Outside.{Wire}
use Rattle.ak_turns.specs.Steps.{Progress, event_of, given, outcome, packets_of}
use Rattle.ak_turns.specs.TurnsContracts.{TellsStep}
use Rattle.ak_turns.proofs.SendLemmas.{sends_nothing}

step_counts : (e : NodeEvent) (n : State) → (step e n).0.steps ≤ n.steps + 1
step_counts e n = by_case n.runs refl
  where
    by_case : (b : Bool) → n.runs ≡ b → (step e n).0.steps ≤ n.steps + 1
    by_case true runs = let same : (step e n).0.steps ≡ n.steps + 1 = (step_changes e n runs).same_steps in omega (arith, same)
    by_case false stopped = let same : (step e n).0.steps ≡ n.steps = ap (λ (o : Outcome). o.0.steps) (stopped_is e n stopped) in omega (arith, same)

given_counts : (o : Option NodeEvent) (n : State) → (given o n).0.steps ≤ n.steps + 1
given_counts None n = omega arith
given_counts (Some e) n = step_counts e n

pub outcome_counts : (h : Happening) (n : State) → (outcome h n).0.steps ≤ n.steps + 1
outcome_counts h n = given_counts (event_of h) n

-- before anything is sent
pub step_unsent : (result : Result (Unit {0}) AllocError) (y : AllocError) (h : Happening) (p q : Progress) (old new : List ℕ) (w : Wire) → result ≡ Err y → TellsStep result h p q old new w w
step_unsent result y h p q old new w is =
    subst (λ (r : Result (Unit {0}) AllocError). TellsStep r h p q old new w w) (sym is) ([], omega arith, sends_nothing w (packets_of h p.node))
