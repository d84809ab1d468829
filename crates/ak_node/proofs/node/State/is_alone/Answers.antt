use Rattle.std.proofs.Common.{◌≡◌, Bool, true, false, not, Option, None, Some, is_some, Bor, refl, ap, ◌∙◌}
use Rattle.std.specs.Option.{option_copied}
use Rattle.ak_gossip.specs.Gossip.{GossipState}
use Rattle.ak_member.specs.Age.{oldest}
use Rattle.ak_member.specs.Standing.{Standings}
use Rattle.ak_address.specs.Unique.{UniqueModel}
use Rattle.ak_node.proofs.CountedPairs.{nobody_counts}
use Rattle.ak_node.proofs.node.State.is_alone.Goals as goal

none_copied : (r : Option (Bor UniqueModel)) → not (is_some r) ≡ not (is_some (option_copied r))
none_copied None = refl
none_copied (Some who) = refl

flipped : (a b : Bool) → a ≡ not b → b ≡ not a
flipped true true h = h
flipped true false h = refl
flipped false true h = refl
flipped false false h = h

pub returns : goal.returns
returns c =
    flipped (is_some c.oldest.result) c.is_none.result c.is_none.ensures ∙ none_copied c.oldest.result ∙ ap (λ o. not (is_some o)) c.oldest.ensures.value
    ∙ ap (λ (s : Standings). not (is_some (oldest s))) (c.members.ensures ∙ ap (λ (g : GossipState). g.view.standings) c.gossip.ensures) ∙ nobody_counts _
