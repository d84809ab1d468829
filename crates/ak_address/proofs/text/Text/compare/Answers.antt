use Rattle.std.proofs.Common.{◌≤◌, ◌∙◌, length, refl, sym, subst}
use Rattle.std.specs.Ordering.{nat_cmp}
use Rattle.std.specs.Cmp.Lexicographic.{slice_cmp}
use Rattle.ak_address.specs.Text.{bytes_of}
use Rattle.ak_address.proofs.StartLaws.{starts_differ, starts_tell_all}
use Rattle.ak_address.proofs.text.Text.compare.Goals as goal

pub returns-then-self-other : goal.returns-then-self-other
returns-then-self-other c =
    c.cmp.ensures ∙ starts_differ c.self.invariant.kept c.other.invariant.kept c.if-self-other.true ∙ (λ i. slice_cmp nat_cmp (c.self.view_is i) (c.other.view_is i))

pub returns-then-is_short : goal.returns-then-is_short
returns-then-is_short c =
    let short : length (bytes_of c.self.inside.letters) ≤ 7 = subst (λ bytes. length bytes ≤ 7) (sym c.self.view_is) ((c.if-is_short.ensures {u = tt}).0 refl) in
    sym (starts_tell_all c.self.invariant.kept c.other.invariant.kept short c.if-self-other.false) ∙ (λ i. slice_cmp nat_cmp (c.self.view_is i) (c.other.view_is i))
