use Rattle.std.proofs.Common.{◌&&◌, ◌==◌, sym, ap, ◌∙◌}
use Rattle.std.proofs.lemmas.Bool.{eq-eqb, ne_eqb}
use Rattle.ak_converge.proofs.TallyLaws.{tally_converged}
use Rattle.ak_converge.proofs.tally.Tally.converged.Goals as goal

pub returns-then-self-eq0 : goal.returns-then-self-eq0
returns-then-self-eq0 c = λ role v seen is.
    sym (ap (λ b. b && c.self.inside.blocking == 0) (eq-eqb c.self.inside.missing 0 c.if-self-eq0.true)) ∙ tally_converged _ role v seen (c.self.view_is ∙ is)

pub returns-else-self-eq0 : goal.returns-else-self-eq0
returns-else-self-eq0 c = λ role v seen is.
    let no = ne_eqb c.self.inside.missing 0 c.if-self-eq0.false in
    no ∙ sym (ap (λ b. b && c.self.inside.blocking == 0) no) ∙ tally_converged _ role v seen (c.self.view_is ∙ is)
