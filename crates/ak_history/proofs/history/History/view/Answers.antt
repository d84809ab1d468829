use Rattle.std.proofs.Common.{◌≡◌, IfOk, OnErr, IsTrue, reverse, subst, ap, ◌∙◌}
use Rattle.std.specs.List.{list_any}
use Rattle.ak_history.specs.History.{IsNumbered, is_covered}
use Rattle.ak_history.specs.Walk.{with_all_covered}
use Rattle.ak_history.proofs.WalkLemmas.{walk_shows}
use Rattle.ak_history.proofs.history.History.view.Goals as goal

pub returns-clause-ok : goal.returns-clause-ok
returns-clause-ok c =
    let reversed = ap reverse c.deref.ensures.value ∙ c.self.view_is in
    subst (λ u. IfOk c.shown_by.result (λ shown. shown ≡ u))
    (ap (with_all_covered c.args.version.now) reversed ∙ walk_shows c.args.self.now c.args.version.now (subst IsNumbered c.self.view_is c.self.invariant))
    c.shown_by.ensures.ok

pub returns-clause-memory : goal.returns-clause-memory
returns-clause-memory c =
    subst (λ h. OnErr c.shown_by.result (IsTrue (list_any (is_covered c.args.version.now) h))) (ap reverse c.deref.ensures.value ∙ c.self.view_is) c.shown_by.ensures.memory
