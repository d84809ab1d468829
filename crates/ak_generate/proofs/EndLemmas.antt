-- When nothing comes next.
use Rattle.std.proofs.Common.{◌≡◌, ◌≢◌, ◌↔◌, ℕ, ◌≤◌, ◌%◌, min, Bool, true, false, cond, nat_lt, ◌==◌, slice_get, None, Some, is_some, option_map, option_and_then, refl, sym, ap, ◌∙◌, arith, true≢false}
use Rattle.std.proofs.lemmas.Bool.{ltb-true, ltb-false, eqb-true, eqb-false, eq-eqb}
use Rattle.std.proofs.lemmas.Option.{slice_get-get_or}
use Rattle.ak_address.specs.Unique.{UniqueModel}
use Rattle.ak_address.specs.Uniques.{how_many}
use Rattle.ak_schedule.specs.declared.event.Event.{Event}
use Rattle.ak_schedule.specs.declared.event.Event.TheVariants.{Start}
use Rattle.ak_generate.specs.declared.choice.Choice.{Choice}
use Rattle.ak_generate.specs.declared.choice.Choice.TheVariants as choice
use Rattle.ak_generate.specs.declared.sight.Sight.{Sight}
use Rattle.ak_generate.specs.Words.{Words, after_one}
use Rattle.ak_generate.specs.Generated.{opening, chosen, choice_of, newcomer, happens, anew, later, next_event, IsAtEnd}
use Rattle.ak_generate.proofs.GenerateLemmas.{somebody_chosen, later_is_next}

-- ---- numbers
below_is : (a b : ℕ) → b ≤ a → nat_lt a b ≡ false
below_is a b le = elim (nat_lt a b) as (λ t. nat_lt a b ≡ t → t ≡ false) [
  | true ↦ λ lt. let less = ltb-true a b lt in absurd (omega arith)
  | false ↦ λ _. refl
] refl

-- how far the first ten events have come is all that counts
pub next_by_opened : (given : ℕ) (s : Sight) (w : Words) → next_event (min 10 given) s w ≡ next_event given s w
next_by_opened given s w = elim (nat_lt given 10) as (λ t. nat_lt given 10 ≡ t → next_event (min 10 given) s w ≡ next_event given s w) [
  | true ↦ λ early. let less = ltb-true given 10 early in let same : min 10 given ≡ given = omega arith in ap (λ n. next_event n s w) same
  | false ↦ λ late. let more = ltb-false given 10 late in let same : min 10 given ≡ 10 = omega arith in ap (λ n. next_event n s w) same ∙ later_is_next given s w more
] refl

-- ---- nothing comes next
something : {X : Type 0} (x : X) → Some x ≡ None → ⊥
something x is = true≢false (ap is_some is)

module _ (s : Sight) where
  somebody_else : (f : UniqueModel → Event) (word : ℕ) → how_many s.running ≢ 0 → option_map f (chosen word s.running) ≡ None → ⊥
  somebody_else f word some is = let who = somebody_chosen word s.running some in something (f who.0) (sym (ap (option_map f) who.1) ∙ is)

  something_happens : (c : Choice) (w : Words) (who : UniqueModel) → how_many s.running ≢ 0 → happens c s w who ≡ None → ⊥
  something_happens choice.Tick w who some is = something _ is
  something_happens choice.Deliver w who some is = something _ is
  something_happens choice.Offer w who some is = something _ is
  something_happens choice.Leave w who some is = somebody_else _ (w 0) some is
  something_happens choice.Down w who some is = somebody_else _ (w 0) some is
  something_happens choice.Stop w who some is = something _ is
  something_happens choice.Start w who some is = something _ is
  something_happens choice.Join w who some is = somebody_else _ (w 0) some is

  anew_none : (word : ℕ) → anew s word ≡ None → 64 ≤ s.starts
  anew_none word is = by_room (nat_lt s.starts 64) refl is
    where
      by_room : (b : Bool) → nat_lt s.starts 64 ≡ b → cond b (Some (Start (newcomer s word))) None ≡ None → 64 ≤ s.starts
      by_room true room is = absurd (something _ is)
      by_room false full is = ltb-false _ _ full

  later_none : (w : Words) → later s w ≡ None → (how_many s.running ≡ 0) × (64 ≤ s.starts)
  later_none w is = by_number (how_many s.running == 0) refl is
    where
      by_number : (b : Bool) → (how_many s.running == 0) ≡ b → cond b (anew s (w 0)) (option_and_then (happens (choice_of (w 0 % 100)) s (after_one (after_one w))) (chosen (w 1) s.running)) ≡ None → (how_many s.running ≡ 0) × (64 ≤ s.starts)
      by_number true nobody is = (eqb-true _ _ nobody, anew_none (w 0) is)
      by_number false some is =
          let never = eqb-false (how_many s.running) 0 some in
          let who = somebody_chosen (w 1) s.running never in
          absurd (something_happens (choice_of (w 0 % 100)) (after_one (after_one w)) who.0 never
          (sym (ap (option_and_then (happens (choice_of (w 0 % 100)) s (after_one (after_one w)))) who.1) ∙ is))

  none_later : (w : Words) → how_many s.running ≡ 0 → 64 ≤ s.starts → later s w ≡ None
  none_later w nobody full =
      ap (λ b. cond b (anew s (w 0)) (option_and_then (happens (choice_of (w 0 % 100)) s (after_one (after_one w))) (chosen (w 1) s.running))) (eq-eqb _ _ nobody)
      ∙ ap (λ b. cond b (Some (Start (newcomer s (w 0)))) None) (below_is s.starts 64 full)

  pub nothing_at_end : (given : ℕ) (w : Words) → (next_event given s w ≡ None) ↔ IsAtEnd given s
  nothing_at_end given w = (forward, back)
    where
      by_number : (b : Bool) → nat_lt given 10 ≡ b → cond b (slice_get opening given) (later s w) ≡ None → IsAtEnd given s
      by_number true early is = let less = ltb-true given 10 early in absurd (something _ (sym (slice_get-get_or opening given (Start (newcomer s 0)) less) ∙ is))
      by_number false late is = let l = later_none w is in record { opened = ltb-false given 10 late; nobody = l.0; full = l.1 }

      forward : next_event given s w ≡ None → IsAtEnd given s
      forward is = by_number (nat_lt given 10) refl is

      back : IsAtEnd given s → next_event given s w ≡ None
      back end = sym (later_is_next given s w end.opened) ∙ none_later w end.nobody end.full
