-- Names that differ.
use Rattle.std.proofs.Common.{◌≡◌, ℕ, false, List, sym, ◌∙◌}
use Rattle.std.specs.Str.{bytes_eq}
use Rattle.std.proofs.lemmas.Bool.{false≢true}
use Rattle.std.proofs.lemmas.Slice.Eq.{bytes_eq-Decides}

pub differ : (a b : List ℕ) → bytes_eq a b ≡ false → a ≡ b → ⊥
differ a b apart same = false≢true (sym apart ∙ (bytes_eq-Decides a b).1 same)
