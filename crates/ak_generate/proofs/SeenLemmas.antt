-- What a generator sees of a world after the events that it gave.
use Rattle.std.proofs.Common.{◌≡◌, ◌↔◌, ℕ, ◌+◌, ◌<◌, ◌^◌, Option, None, Some, IfSome, Result, Ok, Err, IfOk, refl, sym, ap, ◌∙◌, arith}
use Rattle.ak_schedule.specs.Schedule.{IsEvent}
use Rattle.ak_schedule.specs.declared.event.Event.{Event}
use Rattle.ak_generate.specs.declared.sight.Sight.{Sight}
use Rattle.ak_generate.specs.Census.{Census, sight_of, nothing_yet, MayHappen, Follows, IsSeen}
use Rattle.ak_generate.specs.Census.IsGenerated.{begun, goes_on}
use Rattle.ak_generate.specs.Generated.{next_event, IsAtEnd}
use Rattle.ak_generate.specs.Generator.{GeneratorModel, seeded, after_next}
use Rattle.ak_generate.specs.Words.{words_of}
use Rattle.ak_generate.proofs.CensusKept.{every_event_may_happen, every_event_is_one}
use Rattle.ak_generate.proofs.CensusLemmas.{word_below}
use Rattle.ak_generate.proofs.EndLemmas.{next_by_opened, nothing_at_end}

pub sees_nothing : (seed : ℕ) → IsSeen nothing_yet (seeded seed) (sight_of nothing_yet)
sees_nothing seed = record { given = 0; generated = begun; opened = refl; sight = refl }

-- the event is the next one by the number that were given
next_given : (c : Census) (g : GeneratorModel) (s : Sight) (seen : IsSeen c g s) → next_event g.opened s (words_of g.words) ≡ next_event seen.given (sight_of c) (words_of g.words)
next_given c g s seen =
    ap (λ n. next_event n s (words_of g.words)) seen.opened ∙ next_by_opened seen.given s (words_of g.words)
    ∙ ap (λ v. next_event seen.given v (words_of g.words)) seen.sight

pub sees_what_follows : (c d : Census) (g : GeneratorModel) (event : Event) → IsSeen c g (sight_of c) → next_event g.opened (sight_of c) (words_of g.words) ≡ Some event → Follows c event d → IsSeen d (after_next g (sight_of c)) (sight_of d)
sees_what_follows c d g event seen is follows = record {
  given = seen.given + 1;
  generated = goes_on seen.given c d (words_of g.words) event seen.generated (sym (next_given c g (sight_of c) seen) ∙ is) follows;
  opened = let o = seen.opened in omega arith;
  sight = refl;
}

pub what_is_given_may_happen : (c : Census) (g : GeneratorModel) (s : Sight) (o : Option Event) → o ≡ next_event g.opened s (words_of g.words) → IsSeen c g s → IfSome o (MayHappen c)
what_is_given_may_happen c g s None is seen = tt
what_is_given_may_happen c g s (Some event) is seen = every_event_may_happen seen.given c (words_of g.words) event seen.generated (sym (is ∙ next_given c g s seen))

pub what_is_given_is_one : (c : Census) (g : GeneratorModel) (s : Sight) (o : Option Event) → o ≡ next_event g.opened s (words_of g.words) → IsSeen c g s → c.packets < 2 ^ 63 → IfSome o IsEvent
what_is_given_is_one c g s None is seen few = tt
what_is_given_is_one c g s (Some event) is seen few = every_event_is_one seen.given c (words_of g.words) event seen.generated (sym (is ∙ next_given c g s seen)) few (word_below g.words)

pub nothing_is_given_at_end : (g : GeneratorModel) (s : Sight) (o : Option Event) → o ≡ next_event g.opened s (words_of g.words) → (o ≡ None) ↔ IsAtEnd g.opened s
nothing_is_given_at_end g s o is =
    let end = nothing_at_end s g.opened (words_of g.words) in
    ((λ none. end.0 (sym is ∙ none)), (λ at_end. is ∙ end.1 at_end))

-- what is true of each answer like this is true of this one
pub of_answer : {E : Type 0} (P Q : Option Event → Type 0) (r : Result (Option Event) E) → IfOk r P → ((o : Option Event) → P o → Q o) → IfOk r Q
of_answer P Q (Ok o) is follows = follows o is
of_answer P Q (Err e) is follows = tt
