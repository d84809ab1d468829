use Rattle.std.proofs.Common.{false, ◌∷◌, [], ◌++◌, length, map, ap, ◌∙◌, arith}
use Rattle.ak_region.specs.Slot.{receives}
use Rattle.ak_region.proofs.StoredLemmas.{next_passed, all_passed}
use Rattle.ak_region.proofs.buffer.receiving.Goals as goal

pub untold-preserved : goal.untold-preserved
untold-preserved c =
    let i = c.untold.invariant in
    record {
      passed = c.in_ok-push-2.ensures.items ∙ ap (λ l. l ++ false ∷ []) i.passed ∙ next_passed (map receives c.args.told.now) (length c.args.told.now) c.untold._shard i.many;
      many = omega (arith, i.many);
      within = omega arith;
    }

pub returns : goal.returns
returns c = c.untold.invariant.passed ∙ all_passed c.args.shards c.untold._shard c.args.told.now (omega (arith, c.untold.invariant.within))
