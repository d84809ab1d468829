-- The words of a generator, in the order in which it gives them.
use Rattle.std.specs.Prelude.{ℕ, zero, suc}
use Rattle.rand_pcg.specs.Lcg.{Lcg}
use Rattle.rand_pcg.specs.Pcg.{pcg32}

-- words without end: the word of each number, from 0 on
abbrev pub Words : Type 0
Words = ℕ → ℕ

-- those after the first one
abbrev pub after_one : Words → Words
after_one w = λ n. w (suc n)

-- the next word of a generator, and the generator after it
unfoldable pub drawn : Lcg → ℕ × Lcg
drawn g = pcg32 g

-- the generator after so many words
abbrev pub moved : ℕ → Lcg → Lcg
moved zero g = g
moved (suc n) g = moved n (drawn g).1

-- the words that a generator gives from now on
abbrev pub words_of : Lcg → Words
words_of g n = (drawn (moved n g)).0
