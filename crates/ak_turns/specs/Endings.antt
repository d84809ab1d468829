-- The lines with which only a node on the network, and what asks it, end (this project's choice).
use Rattle.std.specs.Prelude.{ℕ, List, [], ◌∷◌, ◌++◌, codes}

abbrev pub link_line : List ℕ
link_line = codes "error 8 link" ++ 10 ∷ []

abbrev pub turns_line : List ℕ
turns_line = codes "error 9 turns" ++ 10 ∷ []
