use Rattle.std.proofs.Common.{◌≡◌, ◌≢◌, ℕ, suc, ◌+◌, ◌-◌, ◌==◌, ◌%◌, min, Bool, true, false, true≢false, if◌then◌else◌, OnOk, Some, option_and_then, refl, sym, ap, ◌∙◌, subst, arith}
use Rattle.std.proofs.lemmas.Bool.{eqb-true}
use Rattle.rand_pcg.specs.Lcg.{Lcg}
use Rattle.ak_address.specs.Uniques.{how_many}
use Rattle.ak_schedule.specs.declared.event.Event as event
use Rattle.ak_generate.specs.declared.choice.Choice.{Choice}
use Rattle.ak_generate.specs.declared.choice.Choice.TheVariants.{Tick, Deliver, Offer, Leave, Down, Stop, Start, Join}
use Rattle.ak_generate.specs.declared.sight.Sight.{Sight}
use Rattle.ak_generate.specs.Words.{Words, drawn, moved, words_of, after_one}
use Rattle.ak_generate.specs.Generated.{choice_of, is_delivery, idles, anew, chosen, happens, later, words_named, anew_words}
use Rattle.ak_generate.proofs.GenerateLemmas.{somebody_chosen}
use Rattle.ak_generate.proofs.draw.later_event.Goals as goal

not_zero : (n : ℕ) → (n ≡ 0 → ⊥) → (n == 0) ≡ false
not_zero n some = by_test (n == 0) refl
  where
    by_test : (b : Bool) → (n == 0) ≡ b → b ≡ false
    by_test false is = refl
    by_test true is = absurd (some (eqb-true n 0 is))

two_more : (n : ℕ) → suc (suc n) ≡ 2 + n
two_more n = omega arith

pub returns-in-Some-clause-moved : goal.returns-in-Some-clause-moved
returns-in-Some-clause-moved c =
    let old : Lcg = c.args.words.now in
    let one : c.draw.new.words ≡ (drawn old).1 = ap (λ (p : ℕ × Lcg). p.1) c.draw.ensures in
    let word : c.draw.result ≡ (drawn old).0 = ap (λ (p : ℕ × Lcg). p.0) c.draw.ensures in
    let two : c.draw-place.new.words ≡ (drawn (drawn old).1).1 = ap (λ (p : ℕ × Lcg). p.1) c.draw-place.ensures ∙ ap (λ g. (drawn g).1) one in
    let chosen : c.choice_of-choice.result ≡ choice_of ((drawn old).0 % 100) = c.choice_of-choice.ensures ∙ ap (λ w. choice_of (w % 100)) word in
    let some : (how_many c.args.sight.now.running == 0) ≡ false = ap (λ n. n == 0) (sym c.len.ensures) ∙ not_zero c.len.result c.if-len-eq0.false in
    let named : Choice → ℕ = words_named in
    subst (λ (g : Lcg). OnOk c.chosen_event.result (c.chosen_event.new.words ≡ g))
    ((λ i. moved (named (chosen i)) (two i)) ∙ ap (λ n. moved n old) (two_more (named (choice_of ((drawn old).0 % 100)))) ∙ sym (ap (λ (b : Bool). moved (if b then anew_words c.args.sight.now else 2 + named (choice_of ((drawn old).0 % 100))) old) some))
    c.chosen_event.ensures.moved

is_delivered : (choice : Choice) → is_delivery choice ≡ true → choice ≡ Deliver
is_delivered Deliver is = refl
is_delivered Tick is = absurd (true≢false (sym is))
is_delivered Offer is = absurd (true≢false (sym is))
is_delivered Leave is = absurd (true≢false (sym is))
is_delivered Down is = absurd (true≢false (sym is))
is_delivered Stop is = absurd (true≢false (sym is))
is_delivered Start is = absurd (true≢false (sym is))
is_delivered Join is = absurd (true≢false (sym is))

-- where a packet was sent its number alone tells the delivery, whoever runs
delivered : (s : Sight) (w : Words) (number : ℕ) → how_many s.running ≢ 0 → choice_of (w 0 % 100) ≡ Deliver → s.packets ≢ 0 → number ≡ s.packets - w 2 % min 40 s.packets → Some (event.TheVariants.Deliver number) ≡ later s w
delivered s w number some is sent number_is =
    let who = somebody_chosen (w 1) s.running some in
    sym (
    ap (λ (b : Bool). if b then anew s (w 0) else option_and_then (happens (choice_of (w 0 % 100)) s (after_one (after_one w))) (chosen (w 1) s.running)) (not_zero (how_many s.running) some)
    ∙ ap (option_and_then (happens (choice_of (w 0 % 100)) s (after_one (after_one w)))) who.1
    ∙ ap (λ (choice : Choice). happens choice s (after_one (after_one w)) who.0) is
    ∙ ap (λ (b : Bool). Some (if b then idles who.0 else event.TheVariants.Deliver (s.packets - w 2 % min 40 s.packets))) (not_zero s.packets sent)
    ∙ ap (λ (n : ℕ). Some (event.TheVariants.Deliver n)) (sym number_is))

pub returns-then-sight-ne0-clause-event : goal.returns-then-sight-ne0-clause-event
returns-then-sight-ne0-clause-event c =
    let old : Lcg = c.args.words.now in
    let s : Sight = c.args.sight.now in
    let one : c.draw.new.words ≡ (drawn old).1 = ap (λ (p : ℕ × Lcg). p.1) c.draw.ensures in
    let word : c.draw.result ≡ (drawn old).0 = ap (λ (p : ℕ × Lcg). p.0) c.draw.ensures in
    let two : c.draw-place.new.words ≡ (drawn (drawn old).1).1 = ap (λ (p : ℕ × Lcg). p.1) c.draw-place.ensures ∙ ap (λ g. (drawn g).1) one in
    let third : c.draw-then-sight-ne0.result ≡ words_of old 2 = ap (λ (p : ℕ × Lcg). p.0) c.draw-then-sight-ne0.ensures ∙ ap (λ g. (drawn g).0) two in
    let choice = sym (c.choice_of-choice.ensures ∙ ap (λ w. choice_of (w % 100)) word) in
    let is : choice_of (words_of old 0 % 100) ≡ Deliver = choice ∙ is_delivered c.choice_of-choice.result (sym c.is_delivery.ensures ∙ c.if-is_delivery.true) in
    ap Some c.delivery.ensures
    ∙ delivered s (words_of old) (s.packets - c.draw-then-sight-ne0.result % min 40 s.packets) (λ none. c.if-len-eq0.false (c.len.ensures ∙ none)) is c.if-sight-ne0.true
    (ap (λ (n : ℕ). s.packets - n % min 40 s.packets) third)
