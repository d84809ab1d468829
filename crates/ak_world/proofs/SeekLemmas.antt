-- The one node that is sought, where it stands; and the world of a run, in which one at most is.
use Rattle.std.proofs.Common.{◌≡◌, ℕ, zero, suc, ◌+◌, ◌<◌, ◌^◌, Bool, true, false, not, cond, List, [], ◌∷◌, length, slice_get, Some, None, position, ltb, lt-ltb, refl, sym, ap, ◌∙◌, arith}
use Rattle.std.proofs.lemmas.Option.{none-some, same_Some, slice_get-map}
use Rattle.std.specs.List.{position_or_len}
use Rattle.std.specs.Option.{option_map}
use Rattle.std.specs.Cmp.{first_so, second_so}
use Rattle.ak_address.specs.Unique.{UniqueModel}
use Rattle.ak_address.proofs.OrderLemmas.{tied_is}
use Rattle.ak_address.proofs.TableLaws.{same_key}
use Rattle.ak_settings.specs.Settings.{SettingsModel}
use Rattle.ak_schedule.specs.declared.event.Event.{Event}
use Rattle.ak_wire.specs.declared.envelope.Envelope.{Envelope}
use Rattle.ak_node.specs.declared.node.State.{State}
use Rattle.ak_node.specs.Node.{me_of, is_for}
use Rattle.ak_node.specs.NodeContracts.{NodeModel}
use Rattle.ak_world.specs.World.{WorldState, is_process, is_reached, run}
use Rattle.ak_world.specs.InRun.{StartedOnce, RunAlone}
use Rattle.ak_world.specs.Seek.{OneAtMost}
use Rattle.ak_world.specs.WorldContracts.{IsReady, states}
use Rattle.ak_world.proofs.FoldRuns.{run_sound}
use Rattle.ak_world.proofs.InRunLemmas.{run_alone}
use Rattle.ak_world.proofs.StoredLemmas.{below}
use Rattle.ak_world.proofs.WorldLemmas.{few_run, few_steps}

-- ---- where one at most passes a test, whichever passes is the first that does
first_is : {X : Type 0} (p : X → Bool) (xs : List X) (i : ℕ) (x : X) → slice_get xs i ≡ Some x → p x ≡ true → ((j : ℕ) (y : X) → slice_get xs j ≡ Some y → p y ≡ true → j ≡ i) → position_or_len p xs ≡ i
first_is p [] i x at passes only = absurd (none-some x at)
first_is p (y ∷ ys) zero x at passes only = ap (λ b. cond (not b) (1 + position_or_len p ys) 0) (ap p (same_Some y x at) ∙ passes)
first_is p (y ∷ ys) (suc i) x at passes only = by_case (p y) refl (first_is p ys i x at passes (λ j z there goes. let same = only (suc j) z there goes in omega (arith, same)))
  where
    by_case : (b : Bool) → p y ≡ b → position_or_len p ys ≡ i → cond (not b) (1 + position_or_len p ys) 0 ≡ suc i
    by_case true is rest = let same = only 0 y refl is in absurd (omega (arith, same))
    by_case false is rest = omega (arith, rest)

pub found_only : (test : NodeModel → Bool) (nodes : List NodeModel) (i : ℕ) (n : NodeModel) → OneAtMost test nodes → slice_get nodes i ≡ Some n → test n ≡ true → Some i ≡ position test nodes
found_only test nodes i n one at passes =
    let first = first_is test nodes i n at passes (λ j m there goes. one j i m n there at goes passes) in
    sym (ap (λ (k : ℕ). cond (ltb k (length nodes)) (Some k) None) first ∙ ap (λ b. cond b (Some i) None) (lt-ltb i (length nodes) (below nodes i n at)))

-- ---- one node is a process, and a packet reaches one
state_at : (nodes : List NodeModel) (i : ℕ) (n : NodeModel) → slice_get nodes i ≡ Some n → slice_get (states nodes) i ≡ Some n.state
state_at nodes i n at = slice_get-map (λ (m : NodeModel). m.state) nodes i ∙ ap (option_map (λ (m : NodeModel). m.state)) at

module _ (w : WorldState) (nodes : List NodeModel) (are : w.nodes ≡ states nodes) where
  there : (i : ℕ) (n : NodeModel) → slice_get nodes i ≡ Some n → slice_get w.nodes i ≡ Some n.state
  there i n at = ap (λ (xs : List State). slice_get xs i) are ∙ state_at nodes i n at

  pub one_process : StartedOnce w.nodes → (who : UniqueModel) → OneAtMost (λ (n : NodeModel). is_process who n.state) nodes
  one_process once who i j n m at also is too = once i j n.state m.state (there i n at) (there j m also) (same_key (me_of n.state) who is ∙ sym (same_key (me_of m.state) who too))

  pub one_receiver : RunAlone w → (e : Envelope) → OneAtMost (λ (n : NodeModel). is_reached e n.state) nodes
  one_receiver alone e i j n m at also is too =
      alone i j n.state m.state (there i n at) (there j m also) (first_so n.state.runs (is_for (me_of n.state) e) is) (first_so m.state.runs (is_for (me_of m.state) e) too)
      (sym (reached_at n.state is) ∙ reached_at m.state too)
    where
      reached_at : (n : State) → is_reached e n ≡ true → e.to ≡ (me_of n).address
      reached_at n is = tied_is e.to (me_of n).address (first_so _ _ (second_so n.runs (is_for (me_of n) e) is))

-- ---- the world of fewer than 2 ^ 62 events is ready for one more
pub ready_run : (settings : SettingsModel) (events : List Event) → length events < 2 ^ 62 → IsReady (run settings events)
ready_run settings events few = record {
  few_nodes = few_run settings events;
  once = (run_sound settings events).apart;
  alone = run_alone settings events;
  few_steps = few_steps settings events few;
}
