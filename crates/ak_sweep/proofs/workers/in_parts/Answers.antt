use Rattle.std.proofs.Common.{◌++◌, ◌+◌, ◌-◌, ◌<◌, get_or, sym, ap, ◌∙◌, subst, arith}
use Rattle.ak_sweep.specs.Lines.{AreLines, start_of}
use Rattle.ak_sweep.proofs.SweepLemmas.{joined, start_and_rest, of_part}
use Rattle.ak_sweep.proofs.workers.in_parts.Goals as goal

pub parts-preserved : goal.parts-preserved
parts-preserved g c =
    let index = c.parts.part-index in
    let start = start_of c.size_of-size.result c.args.count index in
    let next = start_of c.size_of-size.result c.args.count (index + 1) in
    let within : index < c.args.workers = omega (arith, (c.in_ok-parts.ensures {u = tt}).many, c.deref-part-items.ensures.len, c.parts-test.true) in
    let answered = (c.in_ok-parts.ensures {u = tt}).each index c.part-item.result within in
    let is = sym (c.part-item.is ∙ ap (λ items. get_or items index c.part-item.result) c.deref-part-items.ensures.value) ∙ c.in-Ok.is in
    let one = of_part (λ lines. AreLines (g.J.Job.answers c.args.job.now) (c.args.first + start_of c.size_of-size.result c.from.result index) (start_of c.size_of-size.result c.from.result (index + 1) - start_of c.size_of-size.result c.from.result index) lines.items) _ c.in-Ok.part is answered in
    let lines =
    subst (λ count. AreLines (g.J.Job.answers c.args.job.now) (c.args.first + start_of c.size_of-size.result count index) (start_of c.size_of-size.result count (index + 1) - start_of c.size_of-size.result count index) c.in-Ok.part.items)
    c.from.ensures one in
    subst (AreLines (g.J.Job.answers c.args.job.now) c.args.first next)
    (sym ((c.in_ok-extend_from_slice-in-Ok.ensures {u = tt}).items ∙ ap (λ items. c.parts.lines.items ++ items) c.deref.ensures.value))
    (joined (g.J.Job.answers c.args.job.now) c.args.first start (next - start) next c.parts.lines.items c.in-Ok.part.items (start_and_rest c.size_of-size.result c.args.count index) c.parts.invariant lines)
