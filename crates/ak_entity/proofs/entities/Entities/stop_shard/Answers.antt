use Rattle.std.proofs.Common.{rules}
use Rattle.std.proofs.lemmas.Map.Made.{filter_same_pairs}
use Rattle.ak_entity.proofs.StoredLemmas.{rest_sorted, rest_is}
use Rattle.ak_entity.proofs.entities.Entities.stop_shard.Goals as goal

pub invariant_of-self : goal.invariant_of-self
invariant_of-self c =
    rest_sorted c.self.inside.active.entries c.self.invariant c.args.self.now c.self.view_is c.args.shard c.retain.new.self.entries
    (filter_same_pairs _ _ _ (λ k v b w f' t. search rules) _ _ c.retain.ensures.filtered)

pub returns : goal.returns
returns c =
    rest_is c.self.inside.active.entries c.self.invariant c.args.self.now c.self.view_is c.args.shard c.retain.new.self.entries
    (filter_same_pairs _ _ _ (λ k v b w f' t. search rules) _ _ c.retain.ensures.filtered)
