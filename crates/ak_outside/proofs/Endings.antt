-- How a run ends after what it has written before.
use Rattle.std.proofs.Common.{◌≡◌, ℕ, List, ◌++◌, Option, subst, inl, inr, ◌∙◌}
use Rattle.std.specs.Io.KnownBytes.{Appends}
use Rattle.std.proofs.KnownBytes.{Appends-trans}
use Rattle.ak_outside.specs.Outside.{Rose}
use Rattle.ak_outside.specs.declared.status.Status.{Status}
use Rattle.ak_outside.specs.Endings.{Written}
use Rattle.ak_outside.proofs.Prefixes.{AppendsPrefix-after}

-- one whole text, and then the last one
pub written_after : (a b d : Option (List ℕ)) (text last : List ℕ) (ends answer : Status) (f0 f1 f2 : ℕ) → f1 ≡ f0 → Appends a b text
    → Written ends last answer f1 f2 b d → Written ends (text ++ last) answer f0 f2 a d
written_after a b d text last ends answer f0 f1 f2 same p (inl w) = inl (w.0, w.1 ∙ same, Appends-trans a b d text last p w.2)
written_after a b d text last ends answer f0 f1 f2 same p (inr w) =
    inr (w.0, subst (λ (n : ℕ). Rose n f2) same w.1, AppendsPrefix-after a b d text last p w.2)
