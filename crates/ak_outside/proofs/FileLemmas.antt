-- What was read of a file, where its bytes are known.
use Rattle.std.proofs.Common.{◌≡◌, ◌<◌, ℕ, List, ◌++◌, length, Option, Some, None, IfSome, sym, ap, ◌∙◌, arith, length-append, append-nil}
use Rattle.std.specs.Io.KnownBytes.{Consumes, IsAtEnd}

-- at the end all of it was read
pub reads_whole : (old mid : Option (List ℕ)) (bytes : List ℕ) → Consumes old mid bytes → IsAtEnd mid → IfSome old (λ all. bytes ≡ all)
reads_whole None mid bytes p e = tt
reads_whole (Some all) None bytes p e = absurd p
reads_whole (Some all) (Some left) bytes p e = sym (p ∙ ap (λ (l : List ℕ). bytes ++ l) e ∙ append-nil bytes)

-- more was read than may be
pub reads_more : (old mid : Option (List ℕ)) (bytes : List ℕ) (most : ℕ) → Consumes old mid bytes → most < length bytes → IfSome old (λ all. most < length all)
reads_more None mid bytes most p more = tt
reads_more (Some all) None bytes most p more = absurd p
reads_more (Some all) (Some left) bytes most p more = omega (arith, ap length p, length-append bytes left)
