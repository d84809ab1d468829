use Rattle.std.proofs.Common.{arith, sym}
use Rattle.std.proofs.lemmas.Result.{on_ok_weaker}
use Rattle.ak_address.specs.Uniques.{in_order}
use Rattle.ak_address.proofs.UniquesLaws.{length-in_order}
use Rattle.ak_report.proofs.TextLemmas.{subjects_none, subjects_some, printed_as}
use Rattle.ak_report.proofs.report.print_subjects.Goals as goal

pub returns-then-len-eq0 : goal.returns-then-len-eq0
returns-then-len-eq0 c =
    let counted = length-in_order c.args.subjects.now in
    on_ok_weaker c.print_bytes.result (printed_as c.args.out.now.items (sym (subjects_none (in_order c.args.subjects.now) (omega arith)))) c.print_bytes.ensures.ok

pub returns : goal.returns
returns c =
    let counted = length-in_order c.args.subjects.now in
    on_ok_weaker c.print_spaced.result (printed_as c.args.out.now.items (sym (subjects_some (in_order c.args.subjects.now) (omega arith)))) c.print_spaced.ensures
