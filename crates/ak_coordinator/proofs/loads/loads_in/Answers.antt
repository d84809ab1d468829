use Rattle.std.proofs.Common.{◌≡◌, [], IfOk, sym, ◌∙◌, subst}
use Rattle.std.specs.FinMap as map
use Rattle.ak_address.proofs.Failing.{on_err_not}
use Rattle.ak_coordinator.proofs.LoadLemmas.{counted_loads, no_loads, some_loads}
use Rattle.ak_coordinator.proofs.loads.loads_in.Goals as goal

pub returns-then-not-any_host-clause-ok : goal.returns-then-not-any_host-clause-ok
returns-then-not-any_host-clause-ok c =
    c.new.ensures.items ∙ no_loads c.args.entries.now c.args.granted.now (map.entries c.args.members.now) (sym c.any_host.ensures ∙ c.if-not-any_host.true)

pub returns-in_err-counts-clause-memory : goal.returns-in_err-counts-clause-memory
returns-in_err-counts-clause-memory c =
    on_err_not c.from_residual.result _ [] (some_loads c.args.entries.now c.args.granted.now (map.entries c.args.members.now) (sym c.any_host.ensures ∙ c.if-not-any_host.false))

pub returns-clause-memory : goal.returns-clause-memory
returns-clause-memory c =
    on_err_not c.loads_by.result _ [] (some_loads c.args.entries.now c.args.granted.now (map.entries c.args.members.now) (sym c.any_host.ensures ∙ c.if-not-any_host.false))

pub returns-clause-ok : goal.returns-clause-ok
returns-clause-ok c =
    subst (λ wanted. IfOk c.loads_by.result (λ loads. loads.items ≡ wanted))
    (counted_loads c.args.entries.now c.in_ok-counts.counts (λ who. c.in_ok-counts.ensures who) c.args.granted.now (map.entries c.args.members.now))
    c.loads_by.ensures
