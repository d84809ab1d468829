use Rattle.std.proofs.Common.{◌+◌, ◌<◌, ℕ, List, length, take, refl, sym, ap, ◌∙◌, subst, arith}
use Rattle.std.specs.Io.KnownBytes.{Appends}
use Rattle.ak_outside.specs.Outside.{AppendsPrefix}
use Rattle.ak_sweeps.proofs.WriteLoop.{Along, along_start, along_line, along_flush, along_fails, along_memory, along_end, at_err, at_ok}
use Rattle.ak_sweeps.proofs.sweep.write_lines.Goals.{then-len-ge-PIECE+else-not-write_all, else-len-ge-PIECE}
use Rattle.ak_sweeps.proofs.sweep.write_lines.Goals as goal

pub lines-init : goal.lines-init
lines-init g c = (refl, along_start (g.W.Sink.written c.args.output.now) c.args.lines.now c.new-out.result.items c.new-out.ensures.items)

pub returns-then-is_err-clause-written : goal.returns-then-is_err-clause-written
returns-then-is_err-clause-written g c =
    let within : c.lines.line-index < length c.args.lines.now = c.lines-test.true in
    along_memory (g.W.Sink.written c.args.output.now) (g.W.Sink.written c.lines.output) (g.W.Sink.written c.out_of_memory.new.output) c.args.lines.now c.lines.line-index c.lines.out.items c.deref.result.now c.out_of_memory.result
    (g.W.Sink.faults c.args.output.now) (g.W.Sink.faults c.lines.output) (g.W.Sink.faults c.out_of_memory.new.output) (omega arith) c.lines.invariant.1 c.lines.invariant.0
    (c.deref.ensures.value ∙ at_err c.print_line.result c.is_err.result _ c.is_err.ensures.value c.if-is_err.true c.print_line.ensures.err) c.out_of_memory.ensures.written

pub returns-then-not-write_all-clause-written : goal.returns-then-not-write_all-clause-written
returns-then-not-write_all-clause-written g c =
    let within : c.lines.line-index < length c.args.lines.now = c.lines-test.true in
    along_fails (g.W.Sink.written c.args.output.now) (g.W.Sink.written c.lines.output) (g.W.Sink.written c.write_all.new.sink) c.args.lines.now (c.lines.line-index + 1) c.print_line.new.out.items
    (g.W.Sink.faults c.args.output.now) (g.W.Sink.faults c.lines.output) (g.W.Sink.faults c.write_all.new.sink) (omega arith)
    (along_line (g.W.Sink.written c.args.output.now) (g.W.Sink.written c.lines.output) c.args.lines.now c.lines.line-index _ c.lines.out.items c.print_line.new.out.items c.lines.invariant.1 within
    (at_ok c.print_line.result c.is_err.result _ c.is_err.ensures.value c.if-is_err.false c.print_line.ensures.ok))
    c.lines.invariant.0 c.if-not-write_all.ensures.cause
    (subst (λ (o : List ℕ). AppendsPrefix (g.W.Sink.written c.lines.output) (g.W.Sink.written c.write_all.new.sink) o) c.deref-then-len-ge-PIECE.ensures.value c.if-not-write_all.ensures.prefix)

pub lines-preserved : goal.lines-preserved
lines-preserved g c =
    let within : c.lines.line-index < length c.args.lines.now = c.lines-test.true in
    let old = g.W.Sink.written c.args.output.now in
    let now = g.W.Sink.written c.lines.output in
    let along =
    along_line old now c.args.lines.now c.lines.line-index _ c.lines.out.items c.print_line.new.out.items c.lines.invariant.1 within
    (at_ok c.print_line.result c.is_err.result _ c.is_err.ensures.value c.if-is_err.false c.print_line.ensures.ok) in
    let lines = take (c.lines.line-index + 1) c.args.lines.now in
    elim c.if-len-ge-PIECE.branch [
      | then-len-ge-PIECE+else-not-write_all w ↦ (
        ap g.W.Sink.faults w.output-is ∙ w.if-not-write_all.ensures.kept ∙ c.lines.invariant.0,
        along_flush old now (g.W.Sink.written c.if-len-ge-PIECE.output) lines c.print_line.new.out.items c.if-len-ge-PIECE.out.items along
            (subst (λ o. Appends now (g.W.Sink.written o) c.print_line.new.out.items) (sym w.output-is)
            (subst (λ (o : List ℕ). Appends now (g.W.Sink.written w.write_all.new.sink) o) w.deref-then-len-ge-PIECE.ensures.value w.if-not-write_all.ensures.whole))
            (ap (λ v. v.items) w.out-is ∙ w.clear.ensures.items),
      )
      | else-len-ge-PIECE w ↦ (
        ap g.W.Sink.faults w.output-is ∙ c.lines.invariant.0,
        subst (λ o. Along old (g.W.Sink.written o) lines c.if-len-ge-PIECE.out.items) (sym w.output-is) (subst (Along old now lines) (ap (λ v. v.items) (sym w.out-is)) along),
      )
    ]

pub returns-then-is_err-2-clause-written : goal.returns-then-is_err-2-clause-written
returns-then-is_err-2-clause-written g c =
    let end = c.lines.auto.line-index-end in
    along_memory (g.W.Sink.written c.args.output.now) (g.W.Sink.written c.lines.output) (g.W.Sink.written c.out_of_memory-then-is_err-2.new.output) c.args.lines.now c.lines.line-index c.lines.out.items c.deref-then-is_err-2.result.now
    c.out_of_memory-then-is_err-2.result (g.W.Sink.faults c.args.output.now) (g.W.Sink.faults c.lines.output) (g.W.Sink.faults c.out_of_memory-then-is_err-2.new.output) (omega arith) c.lines.invariant.1 c.lines.invariant.0
    (c.deref-then-is_err-2.ensures.value ∙ at_err c.print_totals.result c.is_err-2.result _ c.is_err-2.ensures.value c.if-is_err-2.true c.print_totals.ensures.err) c.out_of_memory-then-is_err-2.ensures.written

pub returns-clause-written : goal.returns-clause-written
returns-clause-written g c =
    let past = c.lines-test.false in
    along_end (g.W.Sink.written c.args.output.now) (g.W.Sink.written c.lines.output) (g.W.Sink.written c.written.new.output) c.args.lines.now c.lines.line-index c.lines.out.items c.deref-2.result.now c.status_of.result c.written.result
    (g.W.Sink.faults c.args.output.now) (g.W.Sink.faults c.lines.output) (g.W.Sink.faults c.written.new.output) (omega arith) c.lines.invariant.1 c.lines.invariant.0
    (c.deref-2.ensures.value ∙ at_ok c.print_totals.result c.is_err-2.result _ c.is_err-2.ensures.value c.if-is_err-2.false c.print_totals.ensures.ok) c.status_of.ensures c.written.ensures.written
