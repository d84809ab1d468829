use Rattle.std.proofs.Common.{sym, subst, arith}
use Rattle.ak_schedule.specs.Draft.{SetsNext}
use Rattle.ak_schedule.proofs.HeaderLines.{draft_counted}
use Rattle.ak_schedule.proofs.draft.Draft.header.Goals as goal

pub invariant_of-self : goal.invariant_of-self
invariant_of-self c =
    let sets = subst (SetsNext c.args.line.now c.args.self.now) (sym c.self.view_is) c.in_ok-set_next.ensures in
    let same = sets.count in
    draft_counted c.args.line.now c.args.self.now _ sets (omega (arith, c.requires, same)) c.self.invariant
