use Rattle.std.proofs.Common.{arith, ◌++◌, ap, sym, ◌∙◌, option_to_list, append-nil}
use Rattle.std.proofs.lemmas.List.{at_drop_all}
use Rattle.ak_address.specs.Uniques.{in_order}
use Rattle.ak_address.proofs.UniquesLaws.{length-in_order}
use Rattle.ak_report.specs.ActionText.{spaced_text}
use Rattle.ak_report.proofs.TextLemmas.{spaced_more, ended}
use Rattle.ak_report.proofs.report.print_spaced.Goals as goal
use Rattle.ak_report.proofs.report.print_spaced.Goals.{in-Some+in_ok-print_bytes+in_ok-print_into, in_default}

pub processes-preserved : goal.processes-preserved
processes-preserved c =
    elim c.match-at.branch [
      | in-Some+in_ok-print_bytes+in_ok-print_into w ↦
          rw w.out-is
          (spaced_more (in_order c.args.who.now) c.processes.index w.in-Some.one.now _ _ _ _ (ap option_to_list w.in-Some.ensures)
          w.in_ok-print_bytes.ensures.ok w.in_ok-print_into.ensures.ok c.processes.invariant)
      | in_default w ↦
          let counted = length-in_order c.args.who.now in
          absurd (ended (in_order c.args.who.now) c.processes.index (sym w.in_default.ensures) (omega arith))
    ]

pub returns : goal.returns
returns c =
    let counted = length-in_order c.args.who.now in
    sym (append-nil c.processes.out.items) ∙ sym (at_drop_all (λ us. c.processes.out.items ++ spaced_text us) (in_order c.args.who.now) c.processes.index (omega arith)) ∙ c.processes.invariant
