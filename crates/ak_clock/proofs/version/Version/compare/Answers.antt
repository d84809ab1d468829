use Rattle.std.proofs.Common.{◌≡◌, sym, subst, ◌∙◌}
use Rattle.ak_clock.specs.Version.{covers, relation, relation_by, Relates}
use Rattle.ak_clock.specs.declared.version.Relation.TheVariants.{Same}
use Rattle.ak_clock.proofs.VersionLaws.{relation_means, relation_from}
use Rattle.ak_clock.proofs.WalkLemmas.{walk_covers}
use Rattle.ak_clock.proofs.version.Version.compare.Goals as goal

pub returns : goal.returns
returns c =
    let v = c.self.inside.counts in
    let w = c.other.inside.counts in
    let over : c.reaches-covers.result ≡ covers v w = c.reaches-covers.ensures ∙ walk_covers v w c.other.invariant in
    let under : c.reaches-is_covered.result ≡ covers w v = c.reaches-is_covered.ensures ∙ walk_covers w v c.self.invariant in
    let inner : c.relation_by.result ≡ relation v w = c.relation_by.ensures ∙ (λ i. relation_by (over i) (under i)) in
    let meaning : Relates c.relation_by.result v w = subst (λ r. Relates r v w) (sym inner) (relation_means v w c.self.invariant c.other.invariant) in
    record {
      value = inner ∙ (λ i. relation (c.self.view_is i) (c.other.view_is i));
      meaning = subst (λ n. Relates c.relation_by.result n c.args.other.now) c.self.view_is (subst (λ n. Relates c.relation_by.result v n) c.other.view_is meaning);
    }

pub returns-then-is_same-clause-value : goal.returns-then-is_same-clause-value
returns-then-is_same-clause-value c =
    sym (relation_from c.self.inside.counts c.other.inside.counts c.self.invariant c.other.invariant Same (c.is_same.ensures c.if-is_same.true))
    ∙ (λ i. relation (c.self.view_is i) (c.other.view_is i))
