use Rattle.std.proofs.Common.{◌≡◌, ◌↔◌, None, IfSome}
use Rattle.ak_schedule.specs.Schedule.{IsEvent}
use Rattle.ak_generate.specs.Census.{MayHappen}
use Rattle.ak_generate.specs.Generated.{next_event, IsAtEnd}
use Rattle.ak_generate.specs.Words.{words_of}
use Rattle.ak_generate.proofs.SeenLemmas.{what_is_given_may_happen, what_is_given_is_one, nothing_is_given_at_end, of_answer}
use Rattle.ak_generate.proofs.generator.Generator.next.Goals as goal

pub returns-clause-none : goal.returns-clause-none
returns-clause-none c =
    of_answer (λ o. o ≡ next_event c.args.self.now.opened c.args.sight.now (words_of c.args.self.now.words)) (λ o. (o ≡ None) ↔ IsAtEnd c.args.self.now.opened c.args.sight.now)
    c.drawn.result c.drawn.ensures.event
    (λ o is. nothing_is_given_at_end c.args.self.now c.args.sight.now o is)

pub returns-clause-allowed : goal.returns-clause-allowed
returns-clause-allowed c world seen =
    of_answer (λ o. o ≡ next_event c.args.self.now.opened c.args.sight.now (words_of c.args.self.now.words)) (λ o. IfSome o (MayHappen world))
    c.drawn.result c.drawn.ensures.event
    (λ o is. what_is_given_may_happen world c.args.self.now c.args.sight.now o is seen)

pub returns-clause-in_range : goal.returns-clause-in_range
returns-clause-in_range c world seen few =
    of_answer (λ o. o ≡ next_event c.args.self.now.opened c.args.sight.now (words_of c.args.self.now.words)) (λ o. IfSome o IsEvent)
    c.drawn.result c.drawn.ensures.event
    (λ o is. what_is_given_is_one world c.args.self.now c.args.sight.now o is seen few)
