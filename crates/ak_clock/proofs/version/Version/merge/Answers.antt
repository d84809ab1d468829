use Rattle.std.proofs.Common.{◌≡◌, true≢false, sym, subst, ◌∙◌}
use Rattle.ak_clock.specs.Version.{IsVersion, covers}
use Rattle.ak_clock.proofs.VersionLaws.{still_version, merged_covered, covers_from_test, test_from_covers}
use Rattle.ak_clock.proofs.WalkLemmas.{walk_covers}
use Rattle.ak_clock.proofs.version.Version.merge.Goals as goal

pub invariant_of-self : goal.invariant_of-self
invariant_of-self c = still_version c.merge.result _ _ _ c.merge.ensures.ok c.merge.ensures.err c.self.invariant c.other.invariant

-- what is covered brings nothing
pub returns-then-reaches-clause-ok : goal.returns-then-reaches-clause-ok
returns-then-reaches-clause-ok c =
    let value : c.reaches.result ≡ covers c.args.self.now c.args.other.now = c.reaches.ensures ∙ walk_covers _ _ c.other.invariant ∙ (λ i. covers (c.self.view_is i) (c.other.view_is i)) in
    merged_covered _ _ (subst IsVersion c.self.view_is c.self.invariant) (subst IsVersion c.other.view_is c.other.invariant) (covers_from_test _ _ (sym value ∙ c.if-reaches.true))

pub returns-clause-memory : goal.returns-clause-memory
returns-clause-memory c over =
    let value : c.reaches.result ≡ covers c.args.self.now c.args.other.now = c.reaches.ensures ∙ walk_covers _ _ c.other.invariant ∙ (λ i. covers (c.self.view_is i) (c.other.view_is i)) in
    absurd (true≢false (sym (test_from_covers _ _ over) ∙ sym value ∙ c.if-reaches.false))
