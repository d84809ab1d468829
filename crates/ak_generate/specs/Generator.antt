-- A generator of events: the words that are left, and how far it has come.
use Rattle.std.specs.Prelude.{ℕ, ◌+◌, min, refl}
use Rattle.std.specs.Coded.{Coded, code_by, coded×, coded_ℕ}
use Rattle.rand_pcg.specs.Lcg.{Lcg}
use Rattle.rand_pcg.specs.Pcg.{pcg32_of_seed}
use Rattle.rand_core.specs.Pcg32Seed.{pcg32_seed}
use Rattle.ak_generate.specs.declared.sight.Sight.{Sight}
use Rattle.ak_generate.specs.Words.{moved, words_of}
use Rattle.ak_generate.specs.Generated.{next_words}

pub record GeneratorModel : Type 0 where
  pub words : Lcg
  -- how many of the first ten events were given
  pub opened : ℕ

-- the generator of a seed has the words of the kit's `Pcg32` of that seed
abbrev pub seeded : ℕ → GeneratorModel
seeded seed = record { words = pcg32_of_seed (pcg32_seed 16 seed); opened = 0 }

-- the generator after its next event, or after it gave none
abbrev pub after_next : GeneratorModel → Sight → GeneratorModel
after_next g s = record { words = moved (next_words g.opened s (words_of g.words)) g.words; opened = min 10 (g.opened + 1) }

abbrev pub coded_lcg : Coded Lcg
coded_lcg = code_by (ℕ × ℕ) (coded× coded_ℕ coded_ℕ) (λ g. (g.state, g.increment)) (λ p. record { state = p.0; increment = p.1 }) (λ _. refl)

abbrev pub coded_generator : Coded GeneratorModel
coded_generator = code_by (Lcg × ℕ) (coded× coded_lcg coded_ℕ) (λ g. (g.words, g.opened)) (λ p. record { words = p.0; opened = p.1 }) (λ _. refl)
