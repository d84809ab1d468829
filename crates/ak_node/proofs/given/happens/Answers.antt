use Rattle.std.proofs.Common.{sym, ◌∙◌}
use Rattle.ak_node.proofs.Concluded.{asking_step, does_so}
use Rattle.ak_node.proofs.given.happens.Goals as goal

pub returns-then-is_asking-clause-does : goal.returns-then-is_asking-clause-does
returns-then-is_asking-clause-does g c =
    let e = g.E.Given.event c.args.event.now in
    let old = c.args.state.now in
    does_so e old c.asks_again.new.state _ c.asks_again.result (asking_step e old c.if-state.true c.requires.concluded (sym c.is_asking.ensures ∙ c.if-is_asking.true))
    c.asks_again.ensures.state c.asks_again.ensures.actions
