-- Each status of a node by what failed.
use Rattle.std.proofs.Common.{◌≡◌, ℕ, List, Err, sym, subst, inl, inr, refl}
use Rattle.ak_outside.specs.declared.status.Status.{Status}
use Rattle.ak_outside.specs.declared.status.Status.TheVariants as status
use Rattle.ak_turns.specs.declared.node.Unloaded.{Unloaded}
use Rattle.ak_turns.specs.declared.node.Unloaded.TheVariants as unloaded
use Rattle.ak_turns.specs.Control.{WritesLine}
use Rattle.ak_turns.specs.Outside.{Output}
use Rattle.ak_turns.specs.NodePromise.{ConfigCause, NodeCause, LoadCause, Refuses}

-- a folder that did not fail
pub node_cause : (s : Status) (f0 f1 w0 w1 l0 l1 : ℕ) → f1 ≡ f0 → ConfigCause s w0 w1 l0 l1 → NodeCause s f0 f1 w0 w1 l0 l1
node_cause status.Done f0 f1 w0 w1 l0 l1 e c = (e, c.0, c.1)
node_cause status.Turns f0 f1 w0 w1 l0 l1 e c = (e, c.0, c.1)
node_cause status.Memory f0 f1 w0 w1 l0 l1 e c = (e, c.0, c.1)
node_cause status.Link f0 f1 w0 w1 l0 l1 e c = (e, c.0, c.1)
node_cause status.Write f0 f1 w0 w1 l0 l1 e c = c
node_cause status.Double f0 f1 w0 w1 l0 l1 e c = absurd c
node_cause status.Usage f0 f1 w0 w1 l0 l1 e c = absurd c
node_cause status.Configuration f0 f1 w0 w1 l0 l1 e c = absurd c
node_cause status.Schedule f0 f1 w0 w1 l0 l1 e c = absurd c
node_cause status.Read f0 f1 w0 w1 l0 l1 e c = absurd c

line_cause : (ends answer : Status) (line : List ℕ) (f0 f1 l : ℕ) (o0 o1 : Output) → WritesLine ends line answer o0 o1 → ((e : o1.faults ≡ o0.faults) → NodeCause ends f0 f1 o0.faults o1.faults l l)
    → NodeCause answer f0 f1 o0.faults o1.faults l l
line_cause ends answer line f0 f1 l o0 o1 (inl w) so = subst (λ (s : Status). NodeCause s f0 f1 o0.faults o1.faults l l) (sym w.0) (so w.1)
line_cause ends answer line f0 f1 l o0 o1 (inr w) so = subst (λ (s : Status). NodeCause s f0 f1 o0.faults o1.faults l l) (sym w.0) w.1

-- there was no configuration
pub refuse_cause : (why : Unloaded) (answer : Status) (f0 f1 l : ℕ) (o0 o1 : Output) → LoadCause (Err why) f0 f1 → Refuses why answer o0 o1 → NodeCause answer f0 f1 o0.faults o1.faults l l
refuse_cause (unloaded.Refused fault) answer f0 f1 l o0 o1 e (inl w) = line_cause status.Configuration answer _ f0 f1 l o0 o1 w (λ s. (e, s, refl))
refuse_cause (unloaded.Refused fault) answer f0 f1 l o0 o1 e (inr w) = line_cause status.Memory answer _ f0 f1 l o0 o1 w (λ s. (e, s, refl))
refuse_cause unloaded.NoFile answer f0 f1 l o0 o1 e w = line_cause status.Configuration answer _ f0 f1 l o0 o1 w (λ s. (e, s, refl))
refuse_cause unloaded.TooLarge answer f0 f1 l o0 o1 e w = line_cause status.Configuration answer _ f0 f1 l o0 o1 w (λ s. (e, s, refl))
refuse_cause unloaded.Failed answer f0 f1 l o0 o1 e w = line_cause status.Read answer _ f0 f1 l o0 o1 w (λ s. (e, s, refl))
refuse_cause unloaded.NoMemory answer f0 f1 l o0 o1 e w = line_cause status.Memory answer _ f0 f1 l o0 o1 w (λ s. (e, s, refl))
