use Rattle.std.proofs.Common.{true, inr, ap, ◌∙◌}
use Rattle.ak_address.proofs.Failing.{on_err}
use Rattle.ak_address.proofs.TableLaws.{entries-empty}
use Rattle.ak_settled.specs.Settled.{unconfirmed, unconfirmed_pairs, after_note}
use Rattle.ak_settled.specs.Ticks.{settled_of}
use Rattle.ak_settled.proofs.SettledLemmas.{parts_noted}
use Rattle.ak_settled.proofs.settled.Settled.note.Goals as goal

pub returns-clause-ok : goal.returns-clause-ok
returns-clause-ok c =
    (λ i. settled_of true (c.in_ok-version.ensures.ok i) (c.in_ok-members.ensures.ok i) c.in_ok-counters.counters)
    ∙ parts_noted _ _ _ c.self.inside.exists c.self.invariant c.args.version.now c.args.members.now c.in_ok-counters.counters c.in_ok-counters.ensures.ok
    ∙ ap (after_note c.args.version.now c.args.members.now) c.self.view_is

-- where a copy fails, it is of somebody, and where the counters fail, there is a tombstone
pub returns-in_err-counters-clause-memory : goal.returns-in_err-counters-clause-memory
returns-in_err-counters-clause-memory c =
    on_err c.from_residual.result (inr (λ nobody_known. c.in_err-counters.ensures.memory (ap unconfirmed nobody_known ∙ ap unconfirmed_pairs entries-empty)))
