use Rattle.std.proofs.Common.{ap, ◌∙◌}
use Rattle.ak_address.specs.Counters.{counter}
use Rattle.ak_settled.specs.Settled.{is_over, is_finished}
use Rattle.ak_settled.specs.Ticks.{counts_of}
use Rattle.ak_settled.proofs.SettledLemmas.{over_confirmed, over_counted, parts_finished}
use Rattle.ak_settled.proofs.settled.Settled.finished.Goals as goal

pub returns-then-confirmed : goal.returns-then-confirmed
returns-then-confirmed c =
    let ticks = counter (counts_of c.self.inside.counters) c.args.who.now in
    over_confirmed c.args.margin ticks c.in-Some.confirmed c.if-confirmed.true
    ∙ ap (is_over c.args.margin ticks) c.in-Some.ensures
    ∙ parts_finished _ _ _ c.self.inside.exists c.self.invariant c.args.margin c.args.who.now
    ∙ ap (λ s. is_finished c.args.margin s.view c.args.who.now) c.self.view_is

pub returns-else-confirmed : goal.returns-else-confirmed
returns-else-confirmed c =
    let ticks = counter (counts_of c.self.inside.counters) c.args.who.now in
    over_counted c.args.margin ticks c.count_of.result c.in-Some.confirmed c.if-confirmed.false c.count_of.ensures
    ∙ ap (is_over c.args.margin ticks) c.in-Some.ensures
    ∙ parts_finished _ _ _ c.self.inside.exists c.self.invariant c.args.margin c.args.who.now
    ∙ ap (λ s. is_finished c.args.margin s.view c.args.who.now) c.self.view_is
