use Rattle.std.proofs.Common.{length, ap, sym, subst, ◌∙◌, arith}
use Rattle.ak_outside.specs.Lines.{LineState, IsTrimmed}
use Rattle.ak_outside.proofs.LineLemmas.{held_part, held_rest, given_line}
use Rattle.ak_outside.proofs.lines.LineReader.give.Goals as goal

pub returns-clause-given : goal.returns-clause-given
returns-clause-given c =
    let before = c.self.inside in
    let after = c.self-2.inside in
    let shown = c.self-2.view_is ∙ c.show.ensures.line in
    let line = ap (λ (s : LineState). s.line) shown in
    let held = ap (λ (s : LineState). s.held) shown in
    let was = ap (λ (s : LineState). s.held) c.self.view_is in
    let part = held_part before.buffer c.args.self.now.held before.start before.end c.args.count was c.self.invariant.0 (omega (arith, c.requires.within, c.requires.line)) in
    let given = given_line _ c.args.self.now.held c.args.count c.trimmed-line.result part c.trimmed-line.ensures.within.0 c.trimmed-line.ensures.trimmed in (
      given.0 ∙ ap length (sym line),
      omega arith,
      subst (IsTrimmed _) (sym line) given.1,
      held_rest after.buffer c.args.self.now.held after.start after.end c.args.with_end held c.self-2.invariant.0 c.requires.within,
    )
