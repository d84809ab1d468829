use Rattle.std.proofs.Common.{arith, sym}
use Rattle.std.specs.FinMap as finmap
use Rattle.std.proofs.lemmas.Result.{on_ok_weaker}
use Rattle.ak_report.specs.ActionText.{count_text}
use Rattle.ak_report.proofs.TextLemmas.{printed_more, printed_all, printed_none, ended}
use Rattle.ak_report.proofs.report.print_version.Goals as goal
use Rattle.ak_report.proofs.report.print_version.Goals.{in-Some+in_ok-print_separator+in_ok-print_seen, in_default}

pub returns-then-count-eq0 : goal.returns-then-count-eq0
returns-then-count-eq0 c =
    let counted = finmap.len-entries c.args.version.now in
    on_ok_weaker _ (printed_none count_text (finmap.entries c.args.version.now) _ _ (omega arith)) c.print_bytes.ensures.ok

pub counts-preserved : goal.counts-preserved
counts-preserved c =
    elim c.match-at.branch [
      | in-Some+in_ok-print_separator+in_ok-print_seen w ↦
          rw w.out-is
          (printed_more count_text (finmap.entries c.args.version.now) c.counts.index (w.in-Some.who.now, w.in-Some.count) _ _ _ _ (sym w.in-Some.ensures.pair)
          c.counts.invariant w.in_ok-print_separator.ensures w.in_ok-print_seen.ensures)
      | in_default w ↦
          let counted = finmap.len-entries c.args.version.now in
          absurd (ended (finmap.entries c.args.version.now) c.counts.index (sym w.in_default.ensures.pair) (omega arith))
    ]

pub returns : goal.returns
returns c =
    let counted = finmap.len-entries c.args.version.now in
    printed_all count_text (finmap.entries c.args.version.now) c.counts.index _ _ (omega arith) (omega arith) c.counts.invariant
