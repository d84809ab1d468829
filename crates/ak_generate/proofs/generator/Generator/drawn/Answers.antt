use Rattle.std.proofs.Common.{ap, ◌∙◌, ◌≡◌, ◌≤◌, arith}
use Rattle.rand_pcg.specs.Lcg.{Lcg}
use Rattle.ak_generate.specs.Generated.{later}
use Rattle.ak_generate.specs.Generator.{GeneratorModel}
use Rattle.ak_generate.specs.Words.{words_of}
use Rattle.ak_generate.proofs.GenerateLemmas.{later_is_next}
use Rattle.ak_generate.proofs.generator.Generator.drawn.Goals as goal

pub returns-clause-event : goal.returns-clause-event
returns-clause-event c =
    let same : c.in_ok-words.words ≡ c.args.self.now.words = c.in_ok-words.ensures {u = tt} ∙ ap (λ (g : GeneratorModel). g.words) c.self.view_is in
    let opened = ap (λ (g : GeneratorModel). g.opened) c.self.view_is in
    let past : 10 ≤ c.args.self.now.opened = omega arith in
    (c.in_ok-event-2.ensures {u = tt}).event
    ∙ ap (λ (g : Lcg). later c.args.sight.now (words_of g)) same
    ∙ later_is_next c.args.self.now.opened c.args.sight.now (words_of c.args.self.now.words) past
