-- In each world of a run: why members rose, and that no version that a process held names whoever started at its address later.
use Rattle.std.proofs.Common.{◌≡◌, ℕ, ◌⊎◌, inl, inr, List, [], ◌∷◌, ◌++◌, length, Option, Some, None, Result, Ok, Err, slice_get, Contains, refl, sym, ap, ◌∙◌, subst, arith}
use Rattle.std.proofs.lemmas.Option.{slice_get_within}
use Rattle.std.specs.List.{list_any}
use Rattle.std.specs.Prelude.{false}
use Rattle.std.specs.FinMap as map
use Rattle.ak_address.specs.Unique.{AddressModel, UniqueModel}
use Rattle.ak_address.proofs.Elements.{first_or_rest, contains_nothing, contains_rest}
use Rattle.ak_clock.specs.Version.{Counts, count}
use Rattle.ak_clock.proofs.VersionLaws.{count-empty}
use Rattle.ak_member.specs.declared.effect.Effect.TheVariants.{Joined, Rise}
use Rattle.ak_history.specs.declared.entry.Entry.{Entry}
use Rattle.ak_history.specs.History.{IsBounded}
use Rattle.ak_history.specs.Shown.{IsNamed}
use Rattle.ak_settings.specs.Settings.{SettingsModel, settling_size}
use Rattle.ak_schedule.specs.declared.event.Event.{Event}
use Rattle.ak_node.specs.declared.node.State.{State}
use Rattle.ak_node.specs.Node.{me_of, started}
use Rattle.ak_world.specs.declared.world.Reason.{Reason}
use Rattle.ak_world.specs.World.{WorldState, Done, starts, is_process, happens}
use Rattle.ak_world.specs.Remembered.{Remembered, IsClosed, holding, basing, remembers, remembers_answer, remembered_from, nothing_remembered, remembered}
use Rattle.ak_world.proofs.Agreed.{IsAgreed, Grows, agreed_then}
use Rattle.ak_world.proofs.Basis.{Basis, basis_next, nothing_based}
use Rattle.ak_world.proofs.FoldRuns.{unlike, happens_next}
use Rattle.ak_world.proofs.IndexLemmas.{push_at, push_here, prefix_at}
use Rattle.ak_world.proofs.RaisedBySteps.{base_bounded, grows, raised_by_step}
use Rattle.ak_world.proofs.RaisedFor.{NoForesight, Raised, FoundersStay, may_then}
use Rattle.ak_world.proofs.RememberedLemmas.{answer-world, remembered-append}
use Rattle.ak_world.proofs.WhatHappened.{begins, steps, nobody, IsAnswer, happened}

module _ (settings : SettingsModel) (r : Remembered) (k : Raised settings r) where
  -- ---- a start
  module _ (u : UniqueModel) (unknown : list_any (is_process u) r.world.nodes ≡ false) where
    abbrev begun_r : Remembered
    begun_r = remembers (starts settings u r.world) r

    begun_held : begun_r.held ≡ (u, map.empty) ∷ r.held
    begun_held = ap (λ o. holding o r.held) (push_here r.world.nodes (started u settings))

    begun_based : begun_r.based ≡ r.based
    begun_based = none (slice_get r.world.nodes (length r.world.nodes))
      where
        none : (o : Option State) → basing o [] r.based ≡ r.based
        none None = refl
        none (Some n) = refl

    module _ (next : Basis settings begun_r) where
      begun_grows : Grows r begun_r
      begun_grows = record {
        more = [];
        grown = refl;
        numbered = next.closing.sound.is_numbered;
        held = λ x there. subst (λ l. Contains l x) (sym begun_held) (contains_rest _ x r.held there);
        closed = λ v bounded closed. subst (λ b. IsClosed b v) (sym begun_based) closed;
      }

      begun_bounded : (who : UniqueModel) (v : Counts) → Contains begun_r.held (who, v) → IsBounded begun_r.world.history v
      begun_bounded who v there = elim (first_or_rest _ (who, v) r.held (subst (λ l. Contains l (who, v)) begun_held there)) [
        | inl new ↦ λ q. let none = ap (λ (x : UniqueModel × Counts). count x.1 q) new ∙ count-empty q in omega arith
        | inr old ↦ k.bounded who v old
      ]

      is_new : (i : ℕ) (n : State) → slice_get r.world.nodes i ≡ Some n → me_of n ≡ u → ⊥
      is_new = unlike u r.world.nodes unknown

      -- nobody is named that was not started
      not_named : (v : Counts) → IsNamed r.world.history v u → ⊥
      not_named v (inl joined) = let there = k.basis.processes.written joined.entry (Joined u) u joined.in_history joined.does refl in is_new there.index there.node there.at there.is_who
      not_named v (inr rose) = let there = k.basis.processes.written rose.2.entry (Rise u rose.0 rose.1) u rose.2.in_history rose.2.does refl in is_new there.index there.node there.at there.is_who

      old_or_new : (j : ℕ) (m : State) → slice_get (r.world.nodes ++ started u settings ∷ []) j ≡ Some m → (slice_get r.world.nodes j ≡ Some m) ⊎ ((j ≡ length r.world.nodes) × (m ≡ started u settings))
      old_or_new = push_at (λ j (m : State). (slice_get r.world.nodes j ≡ Some m) ⊎ ((j ≡ length r.world.nodes) × (m ≡ started u settings))) r.world.nodes (started u settings) (λ j m is. inl is) (inr (refl, refl))

      begun_foresight : NoForesight begun_r
      begun_foresight i j a b v lt is js same there named = elim (old_or_new j b js) [
        | inr new ↦ not_named v (subst (IsNamed r.world.history v) (ap me_of new.1) named)
        | inl old_j ↦ elim (old_or_new i a is) [
          | inr new ↦ let within = slice_get_within r.world.nodes j b old_j in let at_end = new.0 in absurd (omega arith)
          | inl old_i ↦ elim (first_or_rest _ (me_of a, v) r.held (subst (λ l. Contains l (me_of a, v)) begun_held there)) [
            | inl first ↦ is_new i a old_i (ap (λ (x : UniqueModel × Counts). x.0) first)
            | inr old ↦ k.no_foresight i j a b v lt old_i old_j same old named
          ]
        ]
      ]

      begun_founders : FoundersStay r begun_r
      begun_founders j m is f = (m, prefix_at r.world.nodes (started u settings ∷ []) j m is, refl, f)

      raised_by_start : Raised settings begun_r
      raised_by_start = record {
        basis = next;
        bounded = begun_bounded;
        no_foresight = begun_foresight;
        may = λ entry base x there has_it.
            let old : Contains r.based (entry, base) = subst (λ l. Contains l (entry, base)) begun_based there in
            may_then r begun_r begun_grows begun_founders (settling_size settings.strategy) settings.role entry base x (base_bounded settings r k entry base old) (k.may entry base x old has_it);
      }

  -- ---- each event
  itself : Grows r r
  itself = record { more = []; grown = refl; numbered = k.basis.closing.sound.is_numbered; held = λ x there. there; closed = λ v bounded closed. closed }

  raised_answer : (a : Result Done Reason) → IsAnswer settings r.world a → Basis settings (remembers_answer r a) → (more : List Entry) → (remembers_answer r a).world.history ≡ more ++ r.world.history → Raised settings (remembers_answer r a)
  raised_answer (Err why) is next more grown = k
  raised_answer (Ok done) is next more grown = elim is as (λ d h. Basis settings (remembers d r) → d.world.history ≡ more ++ r.world.history → Raised settings (remembers d r)) [
    | begins u unknown free listed few ↦ λ b g. raised_by_start u unknown b
    | steps e index n founded at runs was_sent ↦ λ b g. raised_by_step settings r k e index n founded at runs b more g
    | nobody ↦ λ b g. k
  ] next grown

  grows_answer : (a : Result Done Reason) → IsAnswer settings r.world a → Basis settings (remembers_answer r a) → (more : List Entry) → (remembers_answer r a).world.history ≡ more ++ r.world.history → Grows r (remembers_answer r a)
  grows_answer (Err why) is next more grown = itself
  grows_answer (Ok done) is next more grown = elim is as (λ d h. Basis settings (remembers d r) → d.world.history ≡ more ++ r.world.history → Grows r (remembers d r)) [
    | begins u unknown free listed few ↦ λ b g. begun_grows u unknown b
    | steps e index n founded at runs was_sent ↦ λ b g. grows settings r k e index n founded at runs b more g
    | nobody ↦ λ b g. itself
  ] next grown

  module _ (e : Event) where
    abbrev next_r : Remembered
    next_r = remembers_answer r (happens settings e r.world)

    abbrev added : List Entry
    added = (happens_next settings e r.world k.basis.processes.sound).added

    grown_by : next_r.world.history ≡ added ++ r.world.history
    grown_by = ap (λ (w : WorldState). w.history) (answer-world r (happens settings e r.world)) ∙ (happens_next settings e r.world k.basis.processes.sound).grown

    pub raised_next : Raised settings next_r
    raised_next = raised_answer (happens settings e r.world) (happened settings r.world e) (basis_next settings r k.basis e) added grown_by

    pub grows_next : Grows r next_r
    grows_next = grows_answer (happens settings e r.world) (happened settings r.world e) (basis_next settings r k.basis e) added grown_by

-- ---- a run
pub run_raised : (settings : SettingsModel) (r : Remembered) (events : List Event) → Raised settings r → Raised settings (remembered_from settings r events)
run_raised settings r [] k = k
run_raised settings r (e ∷ events) k = run_raised settings (remembers_answer r (happens settings e r.world)) events (raised_next settings r k e)

nothing_raised : (settings : SettingsModel) → Raised settings nothing_remembered
nothing_raised settings = record {
  basis = nothing_based settings;
  bounded = λ who v there. absurd (contains_nothing (who, v) there);
  no_foresight = λ i j n m v lt at also same there named. absurd (contains_nothing (me_of n, v) there);
  may = λ entry base x there has_it. absurd (contains_nothing (entry, base) there);
}

pub raised : (settings : SettingsModel) (events : List Event) → Raised settings (remembered settings events)
raised settings events = run_raised settings nothing_remembered events (nothing_raised settings)

-- what was agreed stays so through further events
agreed_on : (settings : SettingsModel) (r : Remembered) (events : List Event) (v : Counts) → Raised settings r → (size : ℕ) (role : List AddressModel) → IsAgreed r size role v → IsAgreed (remembered_from settings r events) size role v
agreed_on settings r [] v k size role a = a
agreed_on settings r (e ∷ events) v k size role a =
    let next = remembers_answer r (happens settings e r.world) in
    agreed_on settings next events v (raised_next settings r k e) size role (agreed_then r next (grows_next settings r k e) size role v a)

pub agreed_later : (settings : SettingsModel) (first more : List Event) (size : ℕ) (role : List AddressModel) (v : Counts) → IsAgreed (remembered settings first) size role v → IsAgreed (remembered settings (first ++ more)) size role v
agreed_later settings first more size role v a =
    subst (λ (q : Remembered). IsAgreed q size role v) (sym (remembered-append settings nothing_remembered first more)) (agreed_on settings (remembered settings first) more v (raised settings first) size role a)
