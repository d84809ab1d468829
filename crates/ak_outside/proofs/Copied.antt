-- What a read has copied from the buffer of its reader to the start of the caller's.
use Rattle.std.proofs.Common.{rules, ℕ, ◌≡◌, ◌<◌, List, [], ◌++◌, take, drop, length, Option, Some, IfSome, arith, length-take-le, ap, sym, subst, ◌∙◌}
use Rattle.std.proofs.Math.Seq.{take-append_seam}
use Rattle.std.specs.Io.KnownBytes.{Consumes, IsAtEnd}
use Rattle.ak_outside.specs.Reads.{ReadsSome}

pub copied_first : (old new : Option (List ℕ)) (n : ℕ) (scratch buffer copied : List ℕ)
    → ReadsSome old new (Some n) (length buffer) scratch → copied ≡ take n scratch → Consumes old new (take n (copied ++ drop n buffer))
copied_first old new n scratch buffer copied reads is =
    let size : length copied ≡ n = ap length is ∙ length-take-le n scratch (omega (arith, reads.0)) in
    subst (Consumes old new) (sym (ap (λ m. take m (copied ++ drop n buffer)) (sym size) ∙ take-append_seam copied (drop n buffer) ∙ is)) reads.1

pub ends_exactly : (old new : Option (List ℕ)) (n : ℕ) (scratch buffer : List ℕ)
    → ReadsSome old new (Some n) (length buffer) scratch → 0 < length scratch → 0 < length buffer
    → (n ≡ 0 → IsAtEnd old) × IfSome old (λ left. left ≡ [] → n ≡ 0)
ends_exactly old new n scratch buffer reads rooms some = search rules
