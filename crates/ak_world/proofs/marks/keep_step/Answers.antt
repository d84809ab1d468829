use Rattle.std.proofs.Common.{◌≡◌, false, ◌+◌, length, refl, sym, ap, ◌∙◌}
use Rattle.std.specs.List.{list_any}
use Rattle.std.specs.Option.{option_map}
use Rattle.ak_member.proofs.MergeLemmas.{on_ok}
use Rattle.ak_address.proofs.Failing.{on_err}
use Rattle.ak_world.specs.MarginMark.{may_mark}
use Rattle.ak_world.specs.WorldContracts.{doubled_of, state_of, states}
use Rattle.ak_world.proofs.Unmarked.{margin_stays, double_stays}
use Rattle.ak_world.proofs.marks.keep_step.Goals as goal

pub returns-then-not-any_may_mark : goal.returns-then-not-any_may_mark
returns-then-not-any_may_mark c =
    let none : list_any may_mark c.args.step.now.actions ≡ false = ap (list_any may_mark) (sym c.as_slice.ensures) ∙ sym c.any_may_mark.ensures ∙ c.if-not-any_may_mark.true in
    let number = length c.args.accepted.now + 1 in
    record {
      kept = c.push.ensures.ok;
      margin = on_ok c.push.result
          (sym (margin_stays c.args.marks.now.margin number (record { world = state_of c.args.scene.now; node = c.args.step.now.node; actions = c.args.step.now.actions }) none));
      double = on_ok c.push.result
          (double_stays (option_map doubled_of c.args.marks.now.double) number (states c.args.scene.now.nodes.items) c.args.step.now.node c.args.step.now.actions none);
      left = c.push.ensures.err;
      same = on_err c.push.result refl;
    }
