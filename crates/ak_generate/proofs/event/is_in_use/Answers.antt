use Rattle.std.proofs.Common.{sym, ap, ◌∙◌, arith}
use Rattle.ak_generate.proofs.GenerateLemmas.{one_is_found, one_is_passed, none_is_found}
use Rattle.ak_generate.specs.Generated.{is_at}
use Rattle.ak_generate.proofs.event.is_in_use.Goals as goal

pub returns-then-is_at : goal.returns-then-is_at
returns-then-is_at c =
    one_is_found c.args.at.now c.args.running.now c.running.index c.running.invariant
    (sym (ap (is_at c.args.at.now) c.at.ensures) ∙ sym c.is_at.ensures ∙ c.if-is_at.true)

pub running-preserved : goal.running-preserved
running-preserved c =
    one_is_passed c.args.at.now c.args.running.now c.running.index c.running.invariant
    (sym (ap (is_at c.args.at.now) c.at.ensures) ∙ sym c.is_at.ensures ∙ c.if-is_at.false)

pub returns : goal.returns
returns c = none_is_found c.args.at.now c.args.running.now c.running.index (omega arith) c.running.invariant
