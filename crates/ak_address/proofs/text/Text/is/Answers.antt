use Rattle.std.proofs.Common.{◌≡◌, ◌≤◌, ◌∙◌, length, IsTrue, refl, sym, subst}
use Rattle.ak_address.specs.Text.{bytes_of}
use Rattle.ak_address.proofs.StartLaws.{starts_are_same, pointwise_same}
use Rattle.ak_address.proofs.text.Text.is.Goals as goal

are_same : (c : goal.Then-is_short) → c.args.self.now ≡ c.args.other.now
are_same c =
    let short : length (bytes_of c.self.inside.letters) ≤ 7 = subst (λ bytes. length bytes ≤ 7) (sym c.self.view_is) ((c.if-is_short.ensures {u = tt}).0 refl) in
    sym c.self.view_is ∙ starts_are_same c.self.invariant.kept c.other.invariant.kept short c.if-self-other.false ∙ c.other.view_is

pub returns-then-is_short-clause-value : goal.returns-then-is_short-clause-value
returns-then-is_short-clause-value c = c.if-is_short.true ∙ pointwise_same c.args.self.now c.args.other.now (are_same c)

pub returns-then-is_short-clause-meaning : goal.returns-then-is_short-clause-meaning
returns-then-is_short-clause-meaning c = (λ _. are_same c, λ _. subst IsTrue (sym c.if-is_short.true) refl)
