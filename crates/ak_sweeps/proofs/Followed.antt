-- What a generator sees of a world after a step is found from what it saw before and from the node that acted.
use Rattle.std.proofs.Common.{◌≡◌, ◌≢◌, inl, inr, ℕ, zero, suc, ◌+◌, ◌<◌, ◌==◌, Bool, true, false, not, List, [], ◌∷◌, ◌++◌, length, slice_get, slice_set, Some, is_some, IsTrue, if◌then◌else◌, refl, sym, ap, ◌∙◌, arith, true≢false, length-append}
use Rattle.std.specs.FinMap as finmap
use Rattle.std.specs.Cmp.{both_ways}
use Rattle.std.proofs.lemmas.Option.{slice_get_within}
use Rattle.std.proofs.lemmas.Bool.{eqb-true, eq-eqb}
use Rattle.ak_address.specs.Unique.{UniqueModel}
use Rattle.ak_address.specs.Uniques.{UniqueSet, has, with_one, without_one}
use Rattle.ak_address.proofs.TableLaws.{same_or_apart, get-remove_here, get-remove_elsewhere}
use Rattle.ak_address.proofs.UniquesLaws.{same_uniques}
use Rattle.ak_node.specs.declared.node.State.{State}
use Rattle.ak_node.specs.Node.{me_of, started, step}
use Rattle.ak_node.proofs.StepChanges.{step_changes}
use Rattle.ak_generate.specs.declared.sight.Sight.{Sight}
use Rattle.ak_generate.specs.Fixed.{fixed}
use Rattle.ak_world.specs.Margin.{Runs}
use Rattle.ak_world.specs.World.{WorldState, Done}
use Rattle.ak_world.proofs.IndexLemmas.{set_at, set_here, push_here}
use Rattle.ak_world.proofs.WhatHappened.{Happened, begins, steps, nobody}
use Rattle.ak_sweeps.specs.GeneratedRun.{running, sight_of}
use Rattle.ak_sweeps.specs.RunContracts.{seen_with, followed}
use Rattle.ak_sweeps.proofs.Answers.{AreApart}
use Rattle.ak_sweeps.proofs.Censuses.{running_there, there_running, ran_before, runs_after}
use Rattle.ak_sweeps.proofs.SightLemmas.{running-push}

length-slice_set : (xs : List State) (i : ℕ) (x : State) → length (slice_set xs i x) ≡ length xs
length-slice_set [] i x = refl
length-slice_set (y ∷ xs) zero x = refl
length-slice_set (y ∷ xs) (suc i) x = ap suc (length-slice_set xs i x)

equal_to_itself : (n : ℕ) → (n == n) ≡ true
equal_to_itself n = eq-eqb n n refl

-- a set without one process
has-without : (s : UniqueSet) (k q : UniqueModel) → has (without_one s k) q ≡ true → (q ≢ k) × (has s q ≡ true)
has-without s k q h = elim (same_or_apart q k) [
  | inl same ↦ absurd (true≢false (sym h ∙ ap is_some (ap (finmap.get (without_one s k)) same ∙ get-remove_here s k)))
  | inr apart ↦ (apart, sym (ap is_some (get-remove_elsewhere s k q apart)) ∙ h)
]

without-has : (s : UniqueSet) (k q : UniqueModel) → q ≢ k → has s q ≡ true → has (without_one s k) q ≡ true
without-has s k q apart h = ap is_some (get-remove_elsewhere s k q apart) ∙ h

less_is_other : (i n : ℕ) → i < n → (i == n) ≡ false
less_is_other i n lt = by_case (i == n) refl
  where
    by_case : (b : Bool) → (i == n) ≡ b → b ≡ false
    by_case true is = let same : i ≡ n = eqb-true i n is in absurd (omega arith)
    by_case false is = refl

-- ---- a step of one node
module _ (nodes : List State) (index : ℕ) (n x : State) (at : slice_get nodes index ≡ Some n) (runs : IsTrue n.runs) (same : me_of x ≡ me_of n) where
  -- one that goes on
  goes_on : x.runs ≡ true → running nodes ≡ running (slice_set nodes index x)
  goes_on on = same_uniques (running nodes) (running (slice_set nodes index x)) (λ q. both_ways (has (running nodes) q) (has (running (slice_set nodes index x)) q)
      (λ h. elim (runs_after nodes index n x at runs same q (running_there nodes q h)) [
        | inl r ↦ there_running (slice_set nodes index x) q r
        | inr him ↦ there_running (slice_set nodes index x) q (record { index = index; node = x; at = set_here nodes index n x at; is_who = same ∙ sym him; runs = on })
      ])
      (λ h. there_running nodes q (ran_before nodes index n x at runs same q (running_there (slice_set nodes index x) q h))))

  -- one that stops
  module _ (apart : (i j : ℕ) (k m : State) → slice_get nodes i ≡ Some k → slice_get nodes j ≡ Some m → me_of k ≡ me_of m → i ≡ j) (stopped : x.runs ≡ false) where
    not_he : (q : UniqueModel) → Runs (slice_set nodes index x) q → q ≢ me_of x
    not_he q r him =
        set_at (λ j m. m.runs ≡ true → me_of m ≡ me_of n → ⊥) nodes index x
        (λ j m there other run who. other (apart j index m n there at who)) (λ run who. true≢false (sym run ∙ stopped)) r.index r.node r.at r.runs (r.is_who ∙ him ∙ same)

    stops : without_one (running nodes) (me_of x) ≡ running (slice_set nodes index x)
    stops = same_uniques (without_one (running nodes) (me_of x)) (running (slice_set nodes index x)) (λ q. both_ways (has (without_one (running nodes) (me_of x)) q) (has (running (slice_set nodes index x)) q)
        (λ h. let b = has-without (running nodes) (me_of x) q h in elim (runs_after nodes index n x at runs same q (running_there nodes q b.1)) [
          | inl r ↦ there_running (slice_set nodes index x) q r
          | inr him ↦ absurd (b.0 (him ∙ sym same))
        ])
        (λ h. let r = running_there (slice_set nodes index x) q h in without-has (running nodes) (me_of x) q (not_he q r) (there_running nodes q (ran_before nodes index n x at runs same q r))))

-- ---- what is seen after an accepted event
abbrev seen : UniqueSet → ℕ → ℕ → Sight
seen running starts packets = record { running = running; starts = starts; packets = packets }

with_starter : (w : WorldState) (u : UniqueModel) (b : Bool) → b ≡ true →
    (if not (started u fixed).runs then record (sight_of w) { running = without_one (running w.nodes) u }
    else (if b then record (sight_of w) { running = with_one (running w.nodes) u; starts = length w.nodes + 1 } else sight_of w))
    ≡ record { running = running (w.nodes ++ started u fixed ∷ []); starts = length (w.nodes ++ started u fixed ∷ []); packets = length w.packets }
with_starter w u true is =
    ap (λ (r : UniqueSet). record { running = r; starts = length w.nodes + 1; packets = length w.packets }) (sym (running-push w.nodes (started u fixed) true refl))
    ∙ ap (λ (k : ℕ). record { running = running (w.nodes ++ started u fixed ∷ []); starts = k; packets = length w.packets }) (sym (length-append w.nodes (started u fixed ∷ [])))
with_starter w u false is = absurd (true≢false (sym is))

module _ (w : WorldState) (apart : AreApart w) where
  seen_after_step : (index : ℕ) (n x : State) (packets : ℕ) (goes : Bool) (at : slice_get w.nodes index ≡ Some n) → IsTrue n.runs → me_of x ≡ me_of n → x.runs ≡ goes → (b : Bool) → b ≡ false
      → (if not goes then seen (without_one (running w.nodes) (me_of x)) (length w.nodes) packets
      else (if b then seen (with_one (running w.nodes) (me_of x)) (length w.nodes + 1) packets else seen (running w.nodes) (length w.nodes) packets))
      ≡ seen (running (slice_set w.nodes index x)) (length (slice_set w.nodes index x)) packets
  seen_after_step index n x packets true at runs same on true no_new = absurd (true≢false no_new)
  seen_after_step index n x packets true at runs same on false no_new =
      ap (λ r. seen r (length w.nodes) packets) (goes_on w.nodes index n x at runs same on)
      ∙ ap (λ k. seen (running (slice_set w.nodes index x)) k packets) (sym (length-slice_set w.nodes index x))
  seen_after_step index n x packets false at runs same off b no_new =
      ap (λ r. seen r (length w.nodes) packets) (stops w.nodes index n x at runs same apart off)
      ∙ ap (λ k. seen (running (slice_set w.nodes index x)) k packets) (sym (length-slice_set w.nodes index x))

  pub followed_is : (done : Done) → Happened fixed w done → followed done.node done.world (sight_of w) ≡ sight_of done.world
  followed_is done (begins u unknown free listed few) =
      ap (λ o. seen_with (length w.nodes) o (sight_of w)) (push_here w.nodes (started u fixed)) ∙ with_starter w u (length w.nodes == length w.nodes) (equal_to_itself (length w.nodes))
  followed_is done (steps e index n founded at runs sent) =
      let x = (step e n).0 in
      let packets = length done.world.packets in
      ap (λ o. seen_with index o (record { running = running w.nodes; starts = length w.nodes; packets = packets })) (set_here w.nodes index n x at)
      ∙ seen_after_step index n x packets x.runs at runs (step_changes e n runs).same_me refl (index == length w.nodes) (less_is_other index (length w.nodes) (slice_get_within w.nodes index n at))
  followed_is done nobody = refl
