-- In the order of their starts: of two processes at one address the one that started first has stopped. And each node has the
-- settings of the run.
use Rattle.std.proofs.Common.{◌≡◌, ℕ, ◌<◌, Bool, true, false, ◌&&◌, ◌⊎◌, inl, inr, List, [], ◌∷◌, ◌++◌, length, Some, Result, Ok, Err, slice_get, slice_set, IsTrue, refl, sym, ap, ◌∙◌, arith, true≢false}
use Rattle.std.proofs.lemmas.Cmp.{tied_itself}
use Rattle.std.proofs.lemmas.Option.{slice_get_within}
use Rattle.std.specs.Ordering.{is_eq}
use Rattle.ak_address.specs.Unique.{UniqueModel, address_cmp}
use Rattle.ak_address.proofs.Elements.{any_there, contains_at}
use Rattle.ak_address.proofs.OrderLemmas.{address_total}
use Rattle.ak_settings.specs.Settings.{SettingsModel}
use Rattle.ak_node.specs.declared.node.State.{State}
use Rattle.ak_node.specs.declared.node.NodeEvent.{NodeEvent}
use Rattle.ak_node.specs.Node.{me_of, started, step}
use Rattle.ak_node.proofs.StepChanges.{step_changes}
use Rattle.ak_world.specs.declared.world.Reason.{Reason}
use Rattle.ak_world.specs.World.{WorldState, Done, is_in_use, runs_at, after}
use Rattle.ak_world.proofs.IndexLemmas.{set_at, push_at}
use Rattle.ak_world.proofs.WhatHappened.{begins, steps, nobody, IsAnswer}

pub record ByStart (settings : SettingsModel) (nodes : List State) : Type 0 where
  pub same_settings : (index : ℕ) (n : State) → slice_get nodes index ≡ Some n → n.membership.settings ≡ settings
  pub older_stopped : (i j : ℕ) (n m : State) → i < j → slice_get nodes i ≡ Some n → slice_get nodes j ≡ Some m → (me_of n).address ≡ (me_of m).address → n.runs ≡ false

module _ (settings : SettingsModel) (w : WorldState) (k : ByStart settings w.nodes) where
  -- ---- a step of one node
  module _ (e : NodeEvent) (index : ℕ) (n : State) (at : slice_get w.nodes index ≡ Some n) (runs : IsTrue n.runs) where
    -- which old node stands where
    abbrev WasAt : ℕ → State → Type 0
    WasAt j m = (x : State) × (slice_get w.nodes j ≡ Some x) × (me_of x ≡ me_of m) × (x.runs ≡ false → m.runs ≡ false)

    was_at : (j : ℕ) (m : State) → slice_get (slice_set w.nodes index (step e n).0) j ≡ Some m → WasAt j m
    was_at = set_at WasAt w.nodes index (step e n).0
        (λ j m is elsewhere. (m, is, refl, λ stopped. stopped)) (n, at, sym (step_changes e n runs).same_me, λ stopped. absurd (true≢false (sym runs ∙ stopped)))

    given : ByStart settings (slice_set w.nodes index (step e n).0)
    given = record {
      same_settings = set_at (λ j (m : State). m.membership.settings ≡ settings) w.nodes index (step e n).0
          (λ j m is elsewhere. k.same_settings j m is) ((step_changes e n runs).same_settings ∙ k.same_settings index n at);
      older_stopped = λ i j a b lt is js same.
          let x = was_at i a is in
          let y = was_at j b js in
          x.3 (k.older_stopped i j x.0 y.0 lt x.1 y.1 (ap (λ (u : UniqueModel). u.address) x.2 ∙ same ∙ ap (λ (u : UniqueModel). u.address) (sym y.2)));
    }

  -- ---- a start
  module _ (u : UniqueModel) (free : is_in_use u.address w ≡ false) where
    abbrev IsNewest : ℕ → State → Type 0
    IsNewest j m = (j ≡ length w.nodes) × (m ≡ started u settings)

    old_or_new : (j : ℕ) (m : State) → slice_get (w.nodes ++ started u settings ∷ []) j ≡ Some m → (slice_get w.nodes j ≡ Some m) ⊎ IsNewest j m
    old_or_new = push_at (λ j m. (slice_get w.nodes j ≡ Some m) ⊎ IsNewest j m) w.nodes (started u settings) (λ j m is. inl is) (inr (refl, refl))

    -- no node runs at the address
    stopped_there : (i : ℕ) (n : State) → slice_get w.nodes i ≡ Some n → (me_of n).address ≡ u.address → n.runs ≡ false
    stopped_there i n at same = by_case n.runs refl
      where
        by_case : (b : Bool) → n.runs ≡ b → n.runs ≡ false
        by_case false is = is
        by_case true is =
            absurd (true≢false (sym (any_there (runs_at u.address) w.nodes n (contains_at w.nodes i n at) ((λ j. is j && is_eq (address_cmp (same j) u.address)) ∙ ap is_eq (tied_itself address_total u.address))) ∙ free))

    begun : ByStart settings (w.nodes ++ started u settings ∷ [])
    begun = record {
      same_settings = push_at (λ j (m : State). m.membership.settings ≡ settings) w.nodes (started u settings) k.same_settings refl;
      older_stopped = λ i j a b lt is js same. elim (old_or_new i a is) [
        | inl old_a ↦ elim (old_or_new j b js) [
          | inl old_b ↦ k.older_stopped i j a b lt old_a old_b same
          | inr new_b ↦ stopped_there i a old_a (same ∙ ap (λ (x : State). (me_of x).address) new_b.1)
        ]
        | inr new_a ↦ elim (old_or_new j b js) [
          | inl old_b ↦ let within = slice_get_within w.nodes j b old_b in let last = new_a.0 in absurd (omega arith)
          | inr new_b ↦ let one = new_a.0 in let other = new_b.0 in absurd (omega arith)
        ]
      ];
    }

  pub answered_by_start : (a : Result Done Reason) → IsAnswer settings w a → ByStart settings (after w a).nodes
  answered_by_start (Err why) is = k
  answered_by_start (Ok done) is = elim is as (λ d h. ByStart settings d.world.nodes) [
    | begins u unknown free listed few ↦ begun u free
    | steps e index n founded at runs was_sent ↦ given e index n at runs
    | nobody ↦ k
  ]

pub nothing_by_start : (settings : SettingsModel) → ByStart settings []
nothing_by_start settings = record { same_settings = λ index n at. absurd (cc); older_stopped = λ i j n m lt at also same. absurd (cc) }
